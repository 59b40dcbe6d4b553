-- Points that give way to others, one equality after the other.
use Rattle.std.specs.Prelude.{◌≡◌, if◌then◌else◌, List, [], ◌∷◌, ◌++◌}
use Rattle.shapes.specs.Shapes.{Point}
use Rattle.shapes.specs.Tests.{same_point}
use Rattle.bag_search.specs.declared.points.Merge.{Merge}
use Rattle.bag_search.specs.declared.points.Side.{Side}

abbrev pub representative : List Merge → Point → Point
representative [] p = p
representative (m ∷ ms) p = representative ms (if same_point p m.from then m.to else p)

-- those of the last equality first
abbrev pub merges_of : List (Point × Point) → List Merge
merges_of [] = []
merges_of (e ∷ es) = merges_of es ++ record { from = representative (merges_of es) e.1; to = representative (merges_of es) e.0 } ∷ []

abbrev pub IsSide : Side → Type 0
IsSide side = side.merges.now ≡ merges_of side.shape.now.equalities
