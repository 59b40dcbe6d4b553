-- What one walk of a term sees: its size, its dangling places, its names.
use Rattle.std.specs.Prelude.{ℕ, ◌+◌, ◌-◌, max, List, fold}
use Rattle.u_terms.specs.Syntax.{U, Zero, One, Add, Mul, Squash, Not, Sum, Rel, Eq, Pred, Val, Bound, Free, Lit, Fun, Agg, Vals, NoVals, ValThen}
use Rattle.u_terms.specs.Size.{nodes, value_nodes, list_nodes, depth, value_depth, list_depth}
use Rattle.u_terms.specs.Names.{fresh, value_fresh, list_fresh}
use Rattle.u_rules.specs.Measures.{capped}
use Rattle.u_deriv.specs.declared.outlines.Outline.{Outline}

-- how many binders must stand around a term at least for no place to dangle
unfoldable mutual
  pub dangling : U → ℕ
  dangling Zero = 0
  dangling One = 0
  dangling (Add a b) = max (dangling a) (dangling b)
  dangling (Mul a b) = max (dangling a) (dangling b)
  dangling (Squash a) = dangling a
  dangling (Not a) = dangling a
  dangling (Sum body) = dangling body - 1
  dangling (Rel table shape arguments) = row_dangling arguments
  dangling (Eq a b) = max (value_dangling a) (value_dangling b)
  dangling (Pred symbol shape arguments) = row_dangling arguments

  pub value_dangling : Val → ℕ
  value_dangling (Bound place) = place + 1
  value_dangling (Free name) = 0
  value_dangling (Lit literal) = 0
  value_dangling (Fun symbol shape arguments) = row_dangling arguments
  value_dangling (Agg aggregate body) = dangling body - 1

  pub row_dangling : {n : _} → Vals n → ℕ
  row_dangling NoVals = 0
  row_dangling (ValThen value rest) = max (value_dangling value) (row_dangling rest)

-- the same of a list of values, as code holds it
abbrev pub list_dangling : List Val → ℕ
list_dangling = fold (λ most value. max most (value_dangling value)) 0

-- ---- all of it
unfoldable pub outline_of : U → Outline
outline_of u = record { nodes = capped (nodes u); depth = capped (depth u); binders = dangling u; names = fresh u }

unfoldable pub value_outline : Val → Outline
value_outline value = record { nodes = capped (value_nodes value); depth = capped (value_depth value); binders = value_dangling value; names = value_fresh value }

unfoldable pub list_outline : List Val → Outline
list_outline values = record { nodes = capped (list_nodes values); depth = capped (list_depth values); binders = list_dangling values; names = list_fresh values }

-- ---- as code puts it together: of two parts beside each other, of a node around a part, of a binder around it
abbrev pub and : Outline → Outline → Outline
and a b = record { nodes = capped (a.nodes + b.nodes); depth = max a.depth b.depth; binders = max a.binders b.binders; names = max a.names b.names }

abbrev pub below : Outline → Outline
below a = record a { nodes = capped (a.nodes + 1); depth = capped (a.depth + 1) }

abbrev pub under : Outline → Outline
under a = record { nodes = capped (a.nodes + 1); depth = capped (a.depth + 1); binders = a.binders - 1; names = a.names }
