use Rattle.std.proofs.Common.{sym, subst, ◌∙◌, arith}
use Rattle.u_bag.specs.Pairs.{IsAnswer}
use Rattle.u_bag.proofs.pairing.Partners.{apart-more}
use Rattle.u_bag.proofs.pairs.first_partner.Goals.{in-Nothing, in-Spent}
use Rattle.u_bag.proofs.pairs.first_partner.Goals as goal

pub loop-place-preserved : goal.loop-place-preserved
loop-place-preserved c = elim c.match-branch-2.branch [
  | in-Nothing w ↦ record {
    above = λ e. c.loop-place.invariant.above (sym w.spent-is ∙ e);
    apart = λ e. apart-more c.args.left.now.shape c.args.rights.now c.loop-place.place c.index-rights-place.result (omega (arith, c.loop-place-test.true, c.loop-place.auto.place-end)) (sym c.index-rights-place.is)
        (subst (IsAnswer c.args.left.now.shape c.index-rights-place.result.shape c.args.budget) w.in-Nothing.is (c.in_ok-entries.ensures {u = tt}))
        (c.loop-place.invariant.apart (sym w.spent-is ∙ e));
  }
  | in-Spent w ↦ record {
    above = λ e. record {
      block = c.index-rights-place.result;
      is_in = (c.loop-place.place, omega (arith, c.loop-place-test.true, c.loop-place.auto.place-end), sym c.index-rights-place.is);
      above = subst (IsAnswer c.args.left.now.shape c.index-rights-place.result.shape c.args.budget) w.in-Spent.is (c.in_ok-entries.ensures {u = tt});
    };
    apart = λ e. absurd (grind (arith, e, w.spent-is));
  }
]

pub returns-else-spent : goal.returns-else-spent
returns-else-spent c block i = c.loop-place.invariant.apart c.if-spent.false i.0 block (let low = i.1 in omega (arith, low, c.loop-place-test.false)) i.2
