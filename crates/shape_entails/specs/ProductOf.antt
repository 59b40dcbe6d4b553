-- When a product is that of a shape.
use Rattle.std.specs.Prelude.{◌≡◌, ◌⊎◌, ℕ, ◌<◌, [], length, get_or, map, Some, slice_get}
use Rattle.u_terms.specs.Syntax.{U}
use Rattle.u_terms.specs.declared.term.Val.TheVariants as v
use Rattle.u_rules.specs.Terms.{◌≐◌, R}
use Rattle.shapes.specs.Shapes.{Point, Mark, Entry, Shape, entry_of, MarkIn, IsWhole}
use Rattle.shapes.specs.Alike.{Given}
use Rattle.shape_entails.specs.Values.{IsFactor, table_of, row_of_atom, atoms, rows, point_value, mark_of}

-- the atom of an entry, with the values of its columns
abbrev pub atom_of : Shape → U → ℕ → U
atom_of s product e = R (entry_of s.entries e).table (get_or (rows product) e [])

-- what a factor of the product is: an output is the equality of its name, in either order
pub data IsSaid (s : Shape) (product : U) : U → Type 0 where
  atom : (e : ℕ) → e < length s.entries → IsSaid s product (atom_of s product e)
  equality : (p q : Point) → Given s.equalities p q → IsSaid s product (point_value product p ≐ point_value product q)
  output : (k : ℕ) (p : Point) → slice_get s.outputs k ≡ Some p → IsSaid s product (v.Free k ≐ point_value product p)
  turned_output : (k : ℕ) (p : Point) → slice_get s.outputs k ≡ Some p → IsSaid s product (point_value product p ≐ v.Free k)
  mark : (m : Mark) → MarkIn m s.marks → IsSaid s product (mark_of product m)

-- an atom's table, and how many values it has
abbrev pub entry_of_atom : U → Entry
entry_of_atom factor = record { table = table_of factor; columns = length (row_of_atom factor) }

-- Its atoms are those of the entries, in their order; what else the shape says stands among its factors, and each factor is of these.
pub record IsProductOf (s : Shape) (product : U) : Type 0 where
  pub whole : IsWhole s
  pub entries : map entry_of_atom (atoms product) ≡ s.entries
  pub equalities : (p q : Point) → Given s.equalities p q → IsFactor (point_value product p ≐ point_value product q) product
  pub outputs : (k : ℕ) (p : Point) → slice_get s.outputs k ≡ Some p
      → IsFactor (v.Free k ≐ point_value product p) product ⊎ IsFactor (point_value product p ≐ v.Free k) product
  pub marks : (m : Mark) → MarkIn m s.marks → IsFactor (mark_of product m) product
  pub each : (factor : U) → IsFactor factor product → IsSaid s product factor
