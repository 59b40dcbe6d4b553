use Rattle.std.proofs.Common.{◌≡◌, List, Bool, drop, length}
use Rattle.u_entail.specs.declared.carrying.Pair.{Pair}
use Rattle.u_entail.specs.Carrying.{ArePaired}
use Rattle.u_entail.proofs.carrying.push_points.Given as goal

-- whatever is pushed for the rest is pushed for all of them
abbrev pub invariant-loop-k : goal.invariant-loop-k
invariant-loop-k l = record {
  long : length l.xs ≡ length l.ys;
  rest : (after : List Pair) (answer : Bool) → ArePaired l.classes (drop l.k l.xs) (drop l.k l.ys) l.pairs.items after answer → ArePaired l.classes l.xs l.ys l.initial.pairs.items after answer;
}
