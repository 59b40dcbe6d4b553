-- The summed places of a term: one for each column of its shape's entries.
use Rattle.std.specs.Prelude.{◌≡◌, ℕ, ◌<◌, Some}
use Rattle.u_terms.specs.Binding.{sums}
use Rattle.u_terms.specs.Syntax.{U, Val}
use Rattle.u_terms.specs.declared.term.Val.TheVariants as v
use Rattle.shapes.specs.Shapes.{column, Shape, IsPoint}
use Rattle.term_shapes.specs.Factors.{factors, sum_count, under_sums}
use Rattle.term_shapes.specs.TermShape.{Atoms, folded, with_atom, no_atoms}
use Rattle.shape_entails.specs.Values.{point_value}

-- the atoms under the sums, which give the places these points
abbrev pub HasAtoms : U → Atoms → Type 0
HasAtoms u atoms = folded with_atom (no_atoms (sum_count u)) (factors (under_sums u)) ≡ Some atoms

-- one of so many places
pub record IsPlace (sums : ℕ) (value : Val) : Type 0 where
  pub place : ℕ
  pub below : place < sums
  pub is : value ≡ v.Bound place

-- a column whose value is the place
pub record HasColumn (s : Shape) (product : U) (place : ℕ) : Type 0 where
  pub entry : ℕ
  pub of_entry : ℕ
  pub is_point : IsPoint s.entries (column entry of_entry)
  pub is : point_value product (column entry of_entry) ≡ v.Bound place

-- The values of the columns are the places of so many sums, each of one column.
pub record ArePlaces (s : Shape) (sums : ℕ) (product : U) : Type 0 where
  pub places : (e c : ℕ) → IsPoint s.entries (column e c) → IsPlace sums (point_value product (column e c))
  pub apart : (e c d i : ℕ) → IsPoint s.entries (column e c) → IsPoint s.entries (column d i) → point_value product (column e c) ≡ point_value product (column d i)
      → column e c ≡ column d i
  pub columns : (place : ℕ) → place < sums → HasColumn s product place

-- so many sums around a term
pub record IsAround (n : ℕ) (u : U) : Type 0 where
  pub inside : U
  pub is : u ≡ sums n inside
