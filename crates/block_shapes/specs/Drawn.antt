-- Shapes all of whose points are there.
use Rattle.std.specs.Prelude.{List, [], ◌∷◌}
use Rattle.shapes.specs.Shapes.{Point, Mark, Entry, Shape, IsPoint, In, MarkIn, sides}

abbrev pub ArePoints : List Entry → List Point → Type 0
ArePoints es [] = Unit {0}
ArePoints es (p ∷ ps) = IsPoint es p × ArePoints es ps

-- columns that the entries have, and literals
pub record IsDrawn (s : Shape) : Type 0 where
  pub sides_are : (p : Point) → In p (sides s.equalities) → IsPoint s.entries p
  pub marks_are : (m : Mark) → MarkIn m s.marks → ArePoints s.entries m.points
  pub outputs_are : ArePoints s.entries s.outputs
