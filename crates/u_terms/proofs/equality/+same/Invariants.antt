use Rattle.std.proofs.Common.{◌≡◌, take, length}
use Rattle.u_terms.proofs.equality.+same.Given as goal

abbrev pub invariant-same_list-loop-x : goal.invariant-same_list-loop-x
invariant-same_list-loop-x l = (length l.a ≡ length l.b) × (take (length l.yielded) l.a ≡ take (length l.yielded) l.b)
