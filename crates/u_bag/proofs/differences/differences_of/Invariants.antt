use Rattle.std.proofs.Common.{take}
use Rattle.u_bag.proofs.products.Splits.{IsSplit, AreDisjoint}
use Rattle.u_bag.proofs.differences.differences_of.Given as goal

abbrev pub invariant-loop-factor : goal.invariant-loop-factor
invariant-loop-factor l = record {
  split : IsSplit (λ r. r.now) l.left (take l.factor-index l.right) l.only_left.items l.only_right.items;
  disjoint : AreDisjoint (λ r. r.now) l.only_left.items l.only_right.items;
}
