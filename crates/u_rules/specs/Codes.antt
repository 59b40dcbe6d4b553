-- Terms as lists of numbers, by which leaves are sorted: contracts of private functions alone cite this. Each kind of node has a number of
-- its own, its parts follow from left to right, and in a list of values a 1 stands before each and a 0 behind the last. So no two terms
-- have one list, and no list is the front of another.
use Rattle.std.specs.Prelude.{ℕ, List, [], ◌∷◌, ◌++◌, map, IsPermutation, IsSorted}
use Rattle.std.specs.Ordering.{nat_cmp}
use Rattle.std.specs.Cmp.Lexicographic.{slice_cmp}
use Rattle.u_terms.specs.Syntax.{U, Zero, One, Add, Mul, Squash, Not, Sum, Rel, Eq, Pred, Val, Bound, Free, Lit, Fun, Agg, Vals, NoVals, ValThen}

unfoldable mutual
  pub code : U → List ℕ
  code Zero = 0 ∷ []
  code One = 1 ∷ []
  code (Add a b) = 2 ∷ (code a ++ code b)
  code (Mul a b) = 3 ∷ (code a ++ code b)
  code (Squash a) = 4 ∷ code a
  code (Not a) = 5 ∷ code a
  code (Sum body) = 6 ∷ code body
  code (Rel table shape arguments) = 7 ∷ (table ∷ row_code arguments)
  code (Eq a b) = 8 ∷ (value_code a ++ value_code b)
  code (Pred symbol shape arguments) = 9 ∷ (symbol ∷ row_code arguments)

  pub value_code : Val → List ℕ
  value_code (Bound place) = 0 ∷ (place ∷ [])
  value_code (Free name) = 1 ∷ (name ∷ [])
  value_code (Lit literal) = 2 ∷ (literal ∷ [])
  value_code (Fun symbol shape arguments) = 3 ∷ (symbol ∷ row_code arguments)
  value_code (Agg aggregate body) = 4 ∷ (aggregate ∷ code body)

  pub row_code : {n : _} → Vals n → List ℕ
  row_code NoVals = 0 ∷ []
  row_code (ValThen value rest) = 1 ∷ (value_code value ++ row_code rest)

-- the same of a list of values, as code holds it
abbrev pub list_code : List Val → List ℕ
list_code [] = 0 ∷ []
list_code (value ∷ rest) = 1 ∷ (value_code value ++ list_code rest)

-- the codes of some terms, in order
pub record AreSortedCodes (ts : List U) (codes : List (List ℕ)) : Type 0 where
  pub of : IsPermutation (map code ts) codes
  pub ascend : IsSorted (slice_cmp nat_cmp) codes
