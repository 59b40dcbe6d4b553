use Rattle.std.proofs.Common.{◌≡◌, ◌-◌, ◌^◌, min, take}
use Rattle.u_terms.specs.Size as size
use Rattle.u_terms.proofs.size.+nodes.Given as goal

abbrev pub invariant-list_nodes-loop-value : goal.invariant-list_nodes-loop-value
invariant-list_nodes-loop-value l = l.sum ≡ min (size.list_nodes (take l.value-index l.values)) (2 ^ 64 - 1)
