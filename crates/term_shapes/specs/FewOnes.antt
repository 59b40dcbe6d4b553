-- Terms with no more factors 1 than they need: one in a product, where nothing else stands in it.
use Rattle.std.specs.Prelude.{ℕ, ◌+◌, ◌≤◌}
use Rattle.u_terms.specs.Syntax.{U, One, Add, Mul, Sum}

-- how many factors 1 stand in the product under the sums of a term
unfoldable pub ones : U → ℕ
ones One = 1
ones (Mul a b) = ones a + ones b
ones (Sum body) = ones body
ones _ = 0

-- at most one in each of the terms that are added
unfoldable pub HasFewOnes : U → Type 0
HasFewOnes (Add a b) = HasFewOnes a × HasFewOnes b
HasFewOnes u = ones u ≤ 1
