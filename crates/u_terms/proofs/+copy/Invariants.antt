use Rattle.std.proofs.Common.{◌≡◌, take}
use Rattle.u_terms.proofs.+copy.Given as goal

abbrev pub invariant-copy::copy_list-loop-value : goal.invariant-copy::copy_list-loop-value
invariant-copy::copy_list-loop-value l = l.copies.items ≡ take l.value-index l.values
