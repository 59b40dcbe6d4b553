use Rattle.std.proofs.Common.{◌≡◌, ℕ, ◌<◌, List}
use Rattle.std.specs.Prelude.{Some, slice_get}
use Rattle.u_terms.specs.Syntax.{Val}
use Rattle.u_terms.specs.declared.term.Val.TheVariants as v
use Rattle.u_equal.specs.declared.calls.Call.{Call}
use Rattle.u_equal.specs.Tables.{IsCall}
use Rattle.u_equal.proofs.calls.calls_of.Given as goal

abbrev pub invariant-loop-place : goal.invariant-loop-place
invariant-loop-place l = record {
  are : (k : ℕ) (c : Call) → slice_get l.calls.items k ≡ Some c → IsCall l.forest.values.keys c;
  all : (place f : ℕ) (xs : List Val) → place < l.place → slice_get l.forest.values.keys place ≡ Some (v.Fun f xs) → (k : ℕ) × (c : Call) × (slice_get l.calls.items k ≡ Some c) × (c.place ≡ place);
}
