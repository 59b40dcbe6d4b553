-- The data of src/shape.rt, by the names that definitions match on, and what a shape has at a place.
use Rattle.std.specs.Prelude.{ℕ, zero, suc, ◌<◌, List, [], ◌∷◌, length}
use Rattle.shapes.specs.declared.shape.Point.{Point as ThePoint}
use Rattle.shapes.specs.declared.shape.Point.TheVariants as point
use Rattle.shapes.specs.declared.shape.Kind.{Kind as TheKind}
use Rattle.shapes.specs.declared.shape.Kind.TheVariants as kind
use Rattle.shapes.specs.declared.shape.Mark.{Mark as TheMark}
use Rattle.shapes.specs.declared.shape.Entry.{Entry as TheEntry}
use Rattle.shapes.specs.declared.shape.Shape.{Shape as TheShape}

abbrev pub Point : Type 0
Point = ThePoint

-- of an entry
pattern abbrev pub column : ℕ → ℕ → Point
column e c = point.Column e c

pattern abbrev pub literal : ℕ → Point
literal number = point.Literal number

abbrev pub Kind : Type 0
Kind = TheKind

-- a predicate by its symbol
pattern abbrev pub holds : ℕ → Kind
holds symbol = kind.Holds symbol

-- its negation
pattern abbrev pub fails : ℕ → Kind
fails symbol = kind.Fails symbol

-- a negated equality
pattern abbrev pub differ : Kind
differ = kind.Differ

abbrev pub Mark : Type 0
Mark = TheMark

abbrev pub Entry : Type 0
Entry = TheEntry

abbrev pub Shape : Type 0
Shape = TheShape

-- past the last, an entry of table 0 without columns
abbrev pub no_entry : Entry
no_entry = record { table = 0; columns = 0 }

abbrev pub entry_of : List Entry → ℕ → Entry
entry_of [] e = no_entry
entry_of (entry ∷ entries) zero = entry
entry_of (entry ∷ entries) (suc e) = entry_of entries e

-- the points that equalities speak of
abbrev pub sides : List (Point × Point) → List Point
sides [] = []
sides (e ∷ equalities) = e.0 ∷ e.1 ∷ sides equalities

-- of two points, the other way round
abbrev pub turned : List Point → List Point
turned (p ∷ q ∷ []) = q ∷ p ∷ []
turned ps = ps

-- ---- where points are
pub data In : Point → List Point → Type 0 where
  first : {p : Point} {ps : List Point} → In p (p ∷ ps)
  later : {p q : Point} {ps : List Point} → In p ps → In p (q ∷ ps)

pub data MarkIn : Mark → List Mark → Type 0 where
  here : {m : Mark} {ms : List Mark} → MarkIn m (m ∷ ms)
  there : {m n : Mark} {ms : List Mark} → MarkIn m ms → MarkIn m (n ∷ ms)

-- a literal, or a column of one of so many entries
abbrev pub IsIn : ℕ → Point → Type 0
IsIn m (column e c) = e < m
IsIn m (literal a) = Unit {0}

abbrev pub AllIn : ℕ → List Point → Type 0
AllIn m [] = Unit {0}
AllIn m (p ∷ ps) = IsIn m p × AllIn m ps

-- a column that its entry has, or a literal
abbrev pub IsPoint : List Entry → Point → Type 0
IsPoint entries (column e c) = (e < length entries) × (c < (entry_of entries e).columns)
IsPoint entries (literal a) = Unit {0}

-- outputs and marks are of points in the shape's entries
pub record IsShape (s : Shape) : Type 0 where
  pub outputs_in : AllIn (length s.entries) s.outputs
  pub marks_in : (m : Mark) → MarkIn m s.marks → AllIn (length s.entries) m.points

-- and equalities are between columns that its entries have, and literals
pub record IsWhole (s : Shape) : Type 0 where
  pub shape : IsShape s
  pub sides_in : (p : Point) → In p (sides s.equalities) → IsPoint s.entries p
