use Rattle.std.proofs.Common.{◌≡◌, take, length}
use Rattle.sql_model.proofs.equality.+same.Given as goal

abbrev pub invariant-same_exprs-loop-x : goal.invariant-same_exprs-loop-x
invariant-same_exprs-loop-x l = (length l.a ≡ length l.b) × (take (length l.yielded) l.a ≡ take (length l.yielded) l.b)

abbrev pub invariant-same_items-loop-x : goal.invariant-same_items-loop-x
invariant-same_items-loop-x l = (length l.a ≡ length l.b) × (take (length l.yielded) l.a ≡ take (length l.yielded) l.b)

abbrev pub invariant-same_entries-loop-x : goal.invariant-same_entries-loop-x
invariant-same_entries-loop-x l = (length l.a ≡ length l.b) × (take (length l.yielded) l.a ≡ take (length l.yielded) l.b)
