-- Tables of answers, by place.
use Rattle.std.specs.Prelude.{◌≡◌, ℕ, ◌+◌, ◌*◌, ◌/◌, ◌%◌, ◌<◌, Bool, List, Option, Some, slice_get}
use Rattle.shapes.specs.Shapes.{Shape}
use Rattle.bag_search.specs.Entries.{pair_fits, entry_fits}
use Rattle.bag_search.specs.declared.sides.Sides.{Sides}
use Rattle.bag_search.specs.declared.sides.Step.{Step}
use Rattle.bag_search.specs.declared.tables.Known.{Known}

-- the entry is the first digit of a step's place to base 16, and where it goes is the second
pub record IsPlace (step : Step) (place : ℕ) : Type 0 where
  pub is : place ≡ step.entry * 16 + step.to
  pub digits : (step.entry < 16) × (step.to < 16)

-- the place of the other step comes first
pub record IsPairPlace (one other : Step) (place : ℕ) : Type 0 where
  pub is : place ≡ (other.entry * 16 + other.to) * 256 + (one.entry * 16 + one.to)
  pub digits : ((one.entry < 16) × (one.to < 16)) × ((other.entry < 16) × (other.to < 16))

abbrev pub entry_at_place : Shape → Shape → ℕ → Bool
entry_at_place s t place = entry_fits s t (place / 16) (place % 16)

abbrev pub pair_at_place : Shape → Shape → ℕ → Bool
pair_at_place s t place = pair_fits s t (place / 16 % 16) (place % 16) (place / 4096) (place / 256 % 16)

-- whatever a table has at a place is what the test gives there
pub record HasAnswers (test : ℕ → Bool) (cells : List (Option Bool)) : Type 0 where
  pub told : (place : ℕ) (answer : Bool) → slice_get cells place ≡ Some (Some answer) → answer ≡ test place

pub record AreKnown (sides : Sides) (known : Known) : Type 0 where
  pub entries : HasAnswers (entry_at_place sides.left.shape.now sides.right.shape.now) known.entries.items
  pub pairs : HasAnswers (pair_at_place sides.left.shape.now sides.right.shape.now) known.pairs.items
