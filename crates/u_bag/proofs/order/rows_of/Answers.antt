use Rattle.std.proofs.Common.{ap, ◌∙◌}
use Rattle.u_bag.specs.Order.{lent_rows}
use Rattle.u_bag.proofs.pairing.Ordered.{atom-next, other-next}
use Rattle.u_bag.proofs.order.rows_of.Goals as goal
use Rattle.u_bag.proofs.order.rows_of.Goals.{in-Rel+in_ok-push, in_default}

pub loop-factor-preserved : goal.loop-factor-preserved
loop-factor-preserved c = elim c.match-factor.branch [
  | in-Rel+in_ok-push w ↦
      atom-next c.args.factors.now c.loop-factor.factor-index c.factor-item.result c.loop-factor-test.true c.factor-item.is w.in-Rel.field-0 w.in-Rel.values c.loop-factor.rows.items
      c.match-factor.rows.items w.as_slice.result w.in-Rel.is (ap (λ v. v.items) w.rows-is ∙ (w.in_ok-push.ensures {u = tt}).items) w.as_slice.ensures c.loop-factor.invariant
  | in_default w ↦
      ap (λ v. lent_rows v.items) w.rows-is
      ∙ other-next c.args.factors.now c.loop-factor.factor-index c.factor-item.result c.loop-factor-test.true c.factor-item.is c.loop-factor.rows.items w.in_default.not-Rel c.loop-factor.invariant
]
