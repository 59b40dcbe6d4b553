use Rattle.std.proofs.Common.{◌≡◌, ◌-◌, ◌^◌, min, take}
use Rattle.u_terms.specs.Size as size
use Rattle.u_terms.proofs.size.+depth.Given as goal

abbrev pub invariant-list_depth-loop-value : goal.invariant-list_depth-loop-value
invariant-list_depth-loop-value l = l.most ≡ min (size.list_depth (take l.value-index l.values)) (2 ^ 64 - 1)
