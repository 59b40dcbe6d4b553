-- What it costs at most to make a sum of blocks normal, by the shapes of the blocks.
use Rattle.std.proofs.Common.{ℕ, ◌+◌, ◌*◌, ◌≤◌, List, length, arith}
use Rattle.std.proofs.lemmas.Nat.{mul-le}
use Rattle.shapes.specs.Shapes.{Shape}
use Rattle.block_costs.specs.Costs.{greatest_nodes, line_bytes, normal_costs, union_nodes}
use Rattle.term_shapes.specs.BlockTerms.{HaveShapes}
use Rattle.term_shapes.specs.FewOnes.{HasFewOnes}
use Rattle.term_shapes.proofs.Sizes.{sum-nodes}
use Rattle.u_deriv.specs.LineBounds.{lines_bound}
use Rattle.u_moves.specs.Derivations.{Derivation, IsSound}
use Rattle.u_moves.proofs.derivations.Lines.{plain-short}
use Rattle.u_normal.specs.Shaped.{KeepsSum}
use Rattle.u_normal.proofs.costs.FewOnes.{blocks-small}

pub normal-steps : (outs : ℕ) (ss : List Shape) (d : Derivation) → KeepsSum outs ss d → length d.steps ≤ (normal_costs ss).steps
normal-steps outs ss d keeps = keeps.short.few

pub normal-nodes : (outs : ℕ) (ss : List Shape) (d : Derivation) → KeepsSum outs ss d → HaveShapes outs d.from ss → HasFewOnes d.from → d.nodes ≤ (normal_costs ss).nodes
normal-nodes outs ss d keeps has few = omega (arith, keeps.short.small, sum-nodes outs d.from ss has few)

pub normal-depth : (outs : ℕ) (ss : List Shape) (d : Derivation) → KeepsSum outs ss d → HaveShapes outs d.from ss → HasFewOnes d.from → d.depth ≤ (normal_costs ss).depth
normal-depth outs ss d keeps has few = keeps.level (greatest_nodes ss) (blocks-small outs d.from ss has few)

pub normal-bytes : (outs : ℕ) (ss : List Shape) (d : Derivation) → KeepsSum outs ss d → HaveShapes outs d.from ss → HasFewOnes d.from → IsSound d → lines_bound d.steps ≤ (normal_costs ss).bytes
normal-bytes outs ss d keeps has few sound =
    omega (
      arith,
      plain-short d sound keeps.short.plain,
      mul-le (length d.steps) (18 + 11 * d.depth + 28 * d.nodes) (length ss + 1) (line_bytes (union_nodes ss) (length ss + greatest_nodes ss)) (normal-steps outs ss d keeps)
          (omega (arith, normal-nodes outs ss d keeps has few, normal-depth outs ss d keeps has few)),
    )
