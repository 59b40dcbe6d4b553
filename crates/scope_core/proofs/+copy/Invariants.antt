use Rattle.std.proofs.Common.{◌≡◌, ◌≤◌, take, length, vec_capacity, vec_len}
use Rattle.scope_core.proofs.+copy.Given as goal

abbrev pub invariant-copying::copy_values-loop-value : goal.invariant-copying::copy_values-loop-value
invariant-copying::copy_values-loop-value l = (l.copies.items ≡ take l.value-index l.values) × (vec_len l.copies ≡ l.value-index) × (length l.values ≤ vec_capacity l.copies)
