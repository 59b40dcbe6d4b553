-- How large a term is. Every term and every value in it counts one, a list of arguments counts nothing.
use Rattle.std.specs.Prelude.{ℕ, ◌+◌, max, List, sum_by, fold}
use Rattle.u_terms.specs.Syntax.{U, Zero, One, Add, Mul, Squash, Not, Sum, Rel, Eq, Pred, Val, Bound, Free, Lit, Fun, Agg, Vals, NoVals, ValThen}

-- how many terms and values there are
unfoldable mutual
  pub nodes : U → ℕ
  nodes Zero = 1
  nodes One = 1
  nodes (Add a b) = 1 + nodes a + nodes b
  nodes (Mul a b) = 1 + nodes a + nodes b
  nodes (Squash a) = 1 + nodes a
  nodes (Not a) = 1 + nodes a
  nodes (Sum body) = 1 + nodes body
  nodes (Rel table shape arguments) = 1 + row_nodes arguments
  nodes (Eq a b) = 1 + value_nodes a + value_nodes b
  nodes (Pred symbol shape arguments) = 1 + row_nodes arguments

  pub value_nodes : Val → ℕ
  value_nodes (Bound place) = 1
  value_nodes (Free name) = 1
  value_nodes (Lit literal) = 1
  value_nodes (Fun symbol shape arguments) = 1 + row_nodes arguments
  value_nodes (Agg aggregate body) = 1 + nodes body

  pub row_nodes : {n : _} → Vals n → ℕ
  row_nodes NoVals = 0
  row_nodes (ValThen value rest) = value_nodes value + row_nodes rest

-- the most terms and values on a way from the root downwards
unfoldable mutual
  pub depth : U → ℕ
  depth Zero = 1
  depth One = 1
  depth (Add a b) = 1 + max (depth a) (depth b)
  depth (Mul a b) = 1 + max (depth a) (depth b)
  depth (Squash a) = 1 + depth a
  depth (Not a) = 1 + depth a
  depth (Sum body) = 1 + depth body
  depth (Rel table shape arguments) = 1 + row_depth arguments
  depth (Eq a b) = 1 + max (value_depth a) (value_depth b)
  depth (Pred symbol shape arguments) = 1 + row_depth arguments

  pub value_depth : Val → ℕ
  value_depth (Bound place) = 1
  value_depth (Free name) = 1
  value_depth (Lit literal) = 1
  value_depth (Fun symbol shape arguments) = 1 + row_depth arguments
  value_depth (Agg aggregate body) = 1 + depth body

  pub row_depth : {n : _} → Vals n → ℕ
  row_depth NoVals = 0
  row_depth (ValThen value rest) = max (value_depth value) (row_depth rest)

-- ---- the same of a list of values, as code holds it
abbrev pub list_nodes : List Val → ℕ
list_nodes = sum_by value_nodes

abbrev pub list_depth : List Val → ℕ
list_depth = fold (λ most value. max most (value_depth value)) 0
