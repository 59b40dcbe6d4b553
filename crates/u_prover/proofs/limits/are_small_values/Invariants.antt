use Rattle.std.proofs.Common.{◌≡◌, ◌-◌, ◌^◌, min, take}
use Rattle.u_terms.specs.Size as size
use Rattle.u_prover.proofs.limits.are_small_values.Given as goal

abbrev pub invariant-loop-value : goal.invariant-loop-value
invariant-loop-value l = record {
  nodes : l.nodes ≡ min (size.list_nodes (take l.value-index l.values)) (2 ^ 64 - 1);
  depth : l.depth ≡ min (size.list_depth (take l.value-index l.values)) (2 ^ 64 - 1);
}
