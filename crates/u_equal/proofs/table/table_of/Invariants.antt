use Rattle.std.proofs.Common.{◌≡◌, ℕ, ◌<◌, ◌≤◌, length}
use Rattle.std.specs.Prelude.{Some, slice_get}
use Rattle.u_terms.specs.Syntax.{Val}
use Rattle.u_equal.specs.Gathering.{values_at}
use Rattle.u_equal.specs.Standing.{EachOnce, IsIn}
use Rattle.u_equal.proofs.table.table_of.Given as goal

abbrev pub invariant-loop-value : goal.invariant-loop-value
invariant-loop-value l = record {
  all : (k : ℕ) (a : Val) → k < l.value-index → slice_get (values_at l.standing) k ≡ Some a → IsIn a l.table.keys;
  only : (a : Val) → IsIn a l.table.keys → IsIn a (values_at l.standing);
  once : EachOnce l.table.keys;
  few : length l.table.keys ≤ l.value-index;
}
