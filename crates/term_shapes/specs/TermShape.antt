-- The shape of a sum over a product of atoms, equalities and predicates, the last two bare or under a negation, in any order. Its summed
-- places are, each once, the values of its atoms. Any other value is a summed place, a literal or a name below outs; and each name below outs
-- stands once, in a bare equality, which gives that output.
use Rattle.std.specs.Prelude.{ℕ, ◌+◌, Bool, true, false, if◌then◌else◌, List, [], ◌∷◌, ◌++◌, length, replicate, slice_get, slice_set, Option, Some, None, option_map, option_and_then, ◌≡◌}
use Rattle.std.specs.List.{list_all}
use Rattle.u_terms.specs.Syntax.{U, Val, Bound, Free, Lit}
use Rattle.shapes.specs.Options.{both_of}
use Rattle.shapes.specs.Shapes.{Point, column, literal, Kind, holds, fails, differ, Entry, Shape}
use Rattle.term_shapes.specs.declared.read.Said.{Said as TheSaid}
use Rattle.term_shapes.specs.Factors.{Factor, atom, equality, difference, truth, falsehood, other, factors, sum_count, under_sums}

-- from left to right, as long as each goes
abbrev pub folded : {S X : Type 0} → (S → X → Option S) → S → List X → Option S
folded step s [] = Some s
folded step s (x ∷ xs) = option_and_then (λ more. folded step more xs) (step s x)

-- ---- the point of each summed place, or of each name below outs, as far as it is known
abbrev pub Points : Type 0
Points = List (Option Point)

-- of a place that had none
abbrev pub pointed : Points → ℕ → Point → Option Points
pointed points place p =
    elim (slice_get points place) as (λ _. Option Points) [
      | None ↦ None
      | Some (Some q) ↦ None
      | Some None ↦ Some (slice_set points place (Some p))
    ]

-- the values of entry e from column c on: each a summed place that has no point yet
abbrev pub placed : ℕ → ℕ → List Val → Points → Option Points
placed e c [] points = Some points
placed e c (Bound place ∷ values) points = option_and_then (placed e (c + 1) values) (pointed points place (column e c))
placed e c _ points = None

-- each atom's table and number of values, and the points
pub record Atoms : Type 0 where
  pub entries : List Entry
  pub points : Points

abbrev pub entry_with : ℕ → List Val → Entry
entry_with table values = record { table = table; columns = length values }

abbrev pub with_entry : List Entry → Entry → Points → Atoms
with_entry entries entry points = record { entries = entries ++ entry ∷ []; points = points }

abbrev pub with_atom : Atoms → Factor → Option Atoms
with_atom atoms (atom table values) = option_map (with_entry atoms.entries (entry_with table values)) (placed (length atoms.entries) 0 values atoms.points)
with_atom atoms _ = Some atoms

-- of so many summed places, none of which has a point
abbrev pub no_atoms : ℕ → Atoms
no_atoms sums = record { entries = []; points = replicate sums None }

abbrev pub has_point : Option Point → Bool
has_point None = false
has_point (Some p) = true

-- ---- values as points
abbrev pub at_place : Option (Option Point) → Option Point
at_place None = None
at_place (Some p) = p

abbrev pub value_point : Points → Val → Option Point
value_point points (Bound place) = at_place (slice_get points place)
value_point points (Lit number) = Some (literal number)
value_point points _ = None

abbrev pub value_points : Points → List Val → Option (List Point)
value_points points [] = Some []
value_points points (v ∷ values) = both_of (λ p ps. p ∷ ps) (value_point points v) (value_points points values)

-- ---- what the factors say: equalities, marks, and the outputs of the names below outs
abbrev pub Said : Type 0
Said = TheSaid

-- of so many names
abbrev pub nothing_said : ℕ → Said
nothing_said outs = record { equalities = []; marks = []; outputs = replicate outs None }

-- one thing more, at the end
abbrev pub with_equality : Said → Point → Point → Said
with_equality said p q = record said { equalities = said.equalities ++ (p, q) ∷ [] }

abbrev pub with_mark : Said → Kind → List Point → Said
with_mark said kind points = record said { marks = said.marks ++ record { kind = kind; points = points } ∷ [] }

abbrev pub with_outputs : Said → Points → Said
with_outputs said outputs = record said { outputs = outputs }

abbrev pub said_output : Points → Said → ℕ → Val → Option Said
said_output points said name v = option_and_then (λ p. option_map (with_outputs said) (pointed said.outputs name p)) (value_point points v)

-- an equality of a name with a point gives an output
abbrev pub said_equality : Points → Said → Val → Val → Option Said
said_equality points said (Free name) b = said_output points said name b
said_equality points said a (Free name) = said_output points said name a
said_equality points said a b = both_of (with_equality said) (value_point points a) (value_point points b)

abbrev pub said_difference : Points → Said → Val → Val → Option Said
said_difference points said a b = both_of (λ p q. with_mark said differ (p ∷ q ∷ [])) (value_point points a) (value_point points b)

abbrev pub said_mark : Points → Said → Kind → List Val → Option Said
said_mark points said kind values = option_map (with_mark said kind) (value_points points values)

abbrev pub with_factor : Points → Said → Factor → Option Said
with_factor points said (atom table values) = Some said
with_factor points said (equality a b) = said_equality points said a b
with_factor points said (difference a b) = said_difference points said a b
with_factor points said (truth symbol values) = said_mark points said (holds symbol) values
with_factor points said (falsehood symbol values) = said_mark points said (fails symbol) values
with_factor points said other = None

-- the points of all
abbrev pub all_points : Points → Option (List Point)
all_points [] = Some []
all_points (o ∷ points) = both_of (λ p ps. p ∷ ps) o (all_points points)

-- ---- the shape
abbrev pub shape_said : List Entry → Said → List Point → Shape
shape_said entries said outputs = record { entries = entries; equalities = said.equalities; marks = said.marks; outputs = outputs }

abbrev pub shape_of_atoms : ℕ → List Factor → Atoms → Option Shape
shape_of_atoms outs fs atoms =
    if list_all has_point atoms.points then
    option_and_then (λ said. option_map (shape_said atoms.entries said) (all_points said.outputs)) (folded (with_factor atoms.points) (nothing_said outs) fs)
    else None

-- of so many sums around a product of these factors
abbrev pub product_shape : ℕ → ℕ → List Factor → Option Shape
product_shape outs sums fs = option_and_then (shape_of_atoms outs fs) (folded with_atom (no_atoms sums) fs)

unfoldable pub term_shape : ℕ → U → Option Shape
term_shape outs u = product_shape outs (sum_count u) (factors (under_sums u))

-- the term has this shape, where the names below outs are the columns of its row
abbrev pub HasShape : ℕ → U → Shape → Type 0
HasShape outs u s = term_shape outs u ≡ Some s
