-- The values that the points of a shape have in a product. The e-th atom of the product is that of entry e.
use Rattle.std.specs.Prelude.{ℕ, Bool, true, false, List, [], get_or, map}
use Rattle.std.specs.List.{filter}
use Rattle.u_terms.specs.Syntax.{U, Rel, Val}
use Rattle.u_terms.specs.declared.term.Val.TheVariants as v
use Rattle.u_rules.specs.Terms.{◌≐◌, P, neg, mul_leaves}
use Rattle.u_equal.specs.Standing.{IsIn}
use Rattle.shapes.specs.Shapes.{Point, column, literal, Kind, holds, fails, differ, Mark}
use Rattle.term_shapes.specs.Factors.{listed}

-- one of the product's factors
abbrev pub IsFactor : U → U → Type 0
IsFactor factor product = IsIn factor (mul_leaves product)

-- ---- atoms
unfoldable pub is_atom : U → Bool
is_atom (Rel table shape arguments) = true
is_atom _ = false

unfoldable pub table_of : U → ℕ
table_of (Rel table shape arguments) = table
table_of _ = 0

unfoldable pub row_of_atom : U → List Val
row_of_atom (Rel table shape arguments) = listed arguments
row_of_atom _ = []

-- in order
abbrev pub atoms : U → List U
atoms product = filter is_atom (mul_leaves product)

-- ---- points
-- a column of these rows; past the last, literal 0
abbrev pub value_in : List (List Val) → Point → Val
value_in rows (column e c) = get_or (get_or rows e []) c (v.Lit 0)
value_in rows (literal number) = v.Lit number

-- the values of the atoms
abbrev pub rows : U → List (List Val)
rows product = map row_of_atom (atoms product)

abbrev pub point_value : U → Point → Val
point_value product = value_in (rows product)

-- ---- marks
abbrev pub mark_term : Kind → List Val → U
mark_term (holds symbol) values = P symbol values
mark_term (fails symbol) values = neg (P symbol values)
mark_term differ values = neg (get_or values 0 (v.Lit 0) ≐ get_or values 1 (v.Lit 0))

abbrev pub mark_in : List (List Val) → Mark → U
mark_in rows m = mark_term m.kind (map (value_in rows) m.points)

-- the mark of the values that its points have
abbrev pub mark_of : U → Mark → U
mark_of product = mark_in (rows product)
