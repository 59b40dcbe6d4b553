-- The greatest of the blocks of two lists.
use Rattle.std.proofs.Common.{◌≡◌, ℕ, List, [], ◌∷◌, ◌++◌, arith}
use Rattle.std.specs.Prelude.{max, fold}
use Rattle.shapes.specs.Shapes.{Shape}
use Rattle.block_costs.specs.Costs.{term_nodes, greatest_nodes}

abbrev from_on : ℕ → List Shape → ℕ
from_on from ss = fold (λ most s. max most (term_nodes s)) from ss

begun : (from : ℕ) (ss : List Shape) → from_on from ss ≡ max from (greatest_nodes ss)
begun from [] = omega arith
begun from (s ∷ ss) = omega (arith, begun (max from (term_nodes s)) ss, begun (max 0 (term_nodes s)) ss)

appended : (from : ℕ) (ss ts : List Shape) → from_on from (ss ++ ts) ≡ max (from_on from ss) (greatest_nodes ts)
appended from [] ts = begun from ts
appended from (s ∷ ss) ts = appended (max from (term_nodes s)) ss ts

pub greatest-append : (ss ts : List Shape) → greatest_nodes (ss ++ ts) ≡ max (greatest_nodes ss) (greatest_nodes ts)
greatest-append = appended 0
