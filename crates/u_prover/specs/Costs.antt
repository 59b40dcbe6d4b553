-- What a derivation between two sums of blocks costs, by the shapes of the blocks.
use Rattle.std.specs.Prelude.{◌≡◌, ℕ, List, IsPermutation}
use Rattle.u_terms.specs.Syntax.{U}
use Rattle.shapes.specs.Shapes.{Shape}
use Rattle.block_costs.specs.Costs.{Pairs, lefts, rights, union_costs}
use Rattle.term_shapes.specs.BlockTerms.{HaveShapes}
use Rattle.term_shapes.specs.FewOnes.{HasFewOnes}
use Rattle.u_moves.specs.Derivations.{Derivation}
use Rattle.u_bag.specs.Costs.{KeepsCosts}

-- no more than one by way of normal forms, where each block of the one list is paired with its own of the other
pub record KeepsUnionCosts (ss ts : List Shape) (d : Derivation) : Type 0 where
  pub pairs : Pairs
  pub lefts_are : lefts pairs ≡ ss
  pub rights_are : IsPermutation ts (rights pairs)
  pub keeps : KeepsCosts (union_costs pairs) d

-- where the terms are sums of blocks with no more factors 1 than they need
pub record IsCheap (outs : ℕ) (left right : U) (d : Derivation) : Type 0 where
  pub by : (ss ts : List Shape) → HaveShapes outs left ss → HaveShapes outs right ts → HasFewOnes left → HasFewOnes right → KeepsUnionCosts ss ts d
