-- How many blocks a term may have in normal form: a number of at least 1. A product of sums has one for each pair.
use Rattle.std.specs.Prelude.{ℕ, ◌+◌, ◌*◌, List, fold}
use Rattle.u_terms.specs.Syntax.{U, Zero, One, Add, Mul, Squash, Not, Sum, Rel, Eq, Pred, Val, Bound, Free, Lit, Fun, Agg, Vals, NoVals, ValThen}

unfoldable mutual
  pub ways : U → ℕ
  ways Zero = 1
  ways One = 1
  ways (Add a b) = ways a + ways b
  ways (Mul a b) = ways a * ways b
  ways (Squash a) = ways a
  ways (Not a) = ways a
  ways (Sum body) = ways body
  ways (Rel table shape arguments) = row_ways arguments
  ways (Eq a b) = value_ways a * value_ways b
  ways (Pred symbol shape arguments) = row_ways arguments

  -- of the bodies of the aggregates in it that stand inside no other
  pub value_ways : Val → ℕ
  value_ways (Bound place) = 1
  value_ways (Free name) = 1
  value_ways (Lit literal) = 1
  value_ways (Fun symbol shape arguments) = row_ways arguments
  value_ways (Agg aggregate body) = ways body

  pub row_ways : {n : _} → Vals n → ℕ
  row_ways NoVals = 1
  row_ways (ValThen value rest) = value_ways value * row_ways rest

-- the same of a list of values, as code holds it
abbrev pub list_ways : List Val → ℕ
list_ways = fold (λ product value. product * value_ways value) 1
