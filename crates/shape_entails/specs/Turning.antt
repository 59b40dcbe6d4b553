-- Sums of one term that come into the order of another's, one at a turn, the outermost first. Place 0 is the innermost.
use Rattle.std.specs.Prelude.{◌≡◌, ℕ, ◌+◌, ◌-◌, ◌<◌, ◌≤◌, nat_eq, nat_lt, if◌then◌else◌, List, [], ◌∷◌, length, get_or, Some, slice_get}
use Rattle.std.specs.List.{remove}
use Rattle.u_terms.specs.Syntax.{U, Val}
use Rattle.u_terms.specs.declared.term.Val.TheVariants as v
use Rattle.shapes.specs.Shapes.{column, Shape, IsPoint}
use Rattle.shapes.specs.Alike.{Pairing}
use Rattle.term_shapes.specs.Factors.{sum_count, under_sums}
use Rattle.shape_entails.specs.Values.{point_value}
use Rattle.shape_entails.specs.ProductOf.{IsProductOf}

-- The place that goes to a place of the other term. A turn says how many sums that have no place yet stand before the one that goes there.
unfoldable pub source : List ℕ → ℕ → ℕ
source [] place = place
source (turn ∷ turns) place =
    if nat_eq place (length turns) then length turns - turn else if nat_lt (source turns place) (length turns - turn) then source turns place else source turns place + 1

-- each turn is among the sums that are left
abbrev pub AreTurns : List ℕ → Type 0
AreTurns [] = Unit {0}
AreTurns (turn ∷ turns) = (turn ≤ length turns) × AreTurns turns

-- the values of a column in both terms: one name, or a place and the one that it goes to
pub data Goes (turns : List ℕ) : Val → Val → Type 0 where
  a_name : (name : ℕ) → Goes turns (v.Free name) (v.Free name)
  a_place : (place : ℕ) → place < length turns → Goes turns (v.Bound (source turns place)) (v.Bound place)

-- by these turns the sums of the left term come to those of the right one, each column's to its image's
pub record IsTurned (s : Shape) (forth : ℕ → ℕ) (turns : List ℕ) (left right : U) : Type 0 where
  pub turns_are : AreTurns turns
  pub many_left : sum_count left ≡ length turns
  pub many_right : sum_count right ≡ length turns
  pub goes : (e c : ℕ) → IsPoint s.entries (column e c) → Goes turns (point_value (under_sums left) (column e c)) (point_value (under_sums right) (column (forth e) c))

-- the products under their sums are of shapes that are paired, and these turns bring the sums into one order
pub record AreTurning (s t : Shape) (forth back : ℕ → ℕ) (turns : List ℕ) (left right : U) : Type 0 where
  pub paired : Pairing s t forth back
  pub left_product : IsProductOf s (under_sums left)
  pub right_product : IsProductOf t (under_sums right)
  pub turned : IsTurned s forth turns left right

-- ---- how turns are found
-- at each turn the place that is wanted stands there among those that wait, and then waits no more
abbrev pub AreFound : List ℕ → List ℕ → List ℕ → Type 0
AreFound waiting [] [] = Unit {0}
AreFound waiting (place ∷ wanted) (turn ∷ turns) = (slice_get waiting turn ≡ Some place) × AreFound (remove waiting turn) wanted turns
AreFound waiting wanted turns = ⊥

-- all places of so many sums, the outermost first
pub record AreAllPlaces (sums : ℕ) (places : List ℕ) : Type 0 where
  pub long : length places ≡ sums
  pub each : (place : ℕ) → place < sums → get_or places (sums - 1 - place) 0 ≡ place

-- for each place of the right term, the innermost first, the one of the left term where the column stands whose image it is
pub record AreSources (s : Shape) (forth : ℕ → ℕ) (sources : List ℕ) (left right : U) : Type 0 where
  pub long : length sources ≡ sum_count right
  pub each : (e c i j : ℕ) → IsPoint s.entries (column e c) → point_value (under_sums left) (column e c) ≡ v.Bound i → point_value (under_sums right) (column (forth e) c) ≡ v.Bound j
      → get_or sources j 0 ≡ i
