use Rattle.std.proofs.Common.{refl}
use Rattle.u_entail.proofs.copies.Carried.{difference-all-paired, mark-paired}
use Rattle.u_entail.proofs.carrying.MarkPairs.of.Goals as goal

pub returns-then-branch : goal.returns-then-branch
returns-then-branch c = record {
  mark_is = refl;
  paired = mark-paired c.args.classes.now c.args.mark.now c.args.wanted.now c.new-points.result.items c.push_mark.new.pairs.items c.new-points.ensures.items c.in_ok-push_mark.field-0 (c.in_ok-push_mark.ensures {u = tt})
      c.if-branch.true;
}

pub returns-then-branch-2 : goal.returns-then-branch-2
returns-then-branch-2 c = record {
  mark_is = refl;
  paired = difference-all-paired c.args.classes.now c.args.mark.now c.args.wanted.now c.new-points-2.result.items c.push_difference.new.pairs.items c.new-points-2.ensures.items c.in_ok-push_difference.field-0
      (c.in_ok-push_difference.ensures {u = tt}) c.if-branch-2.true;
}
