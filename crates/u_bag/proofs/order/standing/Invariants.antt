use Rattle.std.proofs.Common.{◌≡◌, ℕ, ◌<◌, Some}
use Rattle.std.specs.Prelude.{slice_get}
use Rattle.u_bag.proofs.order.standing.Given as goal

-- the place is none of those so far
abbrev pub invariant-loop-other : goal.invariant-loop-other
invariant-loop-other l = record {
  at : l.before ≡ l.other-index;
  none : (k : ℕ) → k < l.other-index → slice_get l.waiting k ≡ Some l.place → ⊥;
}
