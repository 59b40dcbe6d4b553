use Rattle.std.proofs.Common.{ℕ, ◌≤◌, List, ◌++◌, drop, length}
use Rattle.std.specs.Prelude.{IsPermutation}
use Rattle.shape_entails.specs.Turning.{AreFound}
use Rattle.u_bag.proofs.order.turns_by.Given as goal

-- the places that wait are those that are wanted still, and what turns bring these bring all with the turns so far
abbrev pub invariant-loop-place : goal.invariant-loop-place
invariant-loop-place l = record {
  few : length l.waiting.items ≤ 2048;
  wait : IsPermutation l.waiting.items (drop l.place-index l.wanted);
  goes_on : (others : List ℕ) → AreFound l.waiting.items (drop l.place-index l.wanted) others → AreFound l.initial.waiting.items l.wanted (l.turns.items ++ others);
}
