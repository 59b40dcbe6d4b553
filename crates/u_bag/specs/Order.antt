-- How the sums of one term come into the order of another's. Contracts of private functions alone cite this.
use Rattle.std.specs.Prelude.{◌≡◌, ◌⊎◌, ℕ, ◌<◌, ◌≤◌, List, [], length, get_or, map, Option, Some, None, IsPermutation}
use Rattle.std.specs.List.{filter}
use denote.Ref.{Bor}
use Rattle.u_terms.specs.Syntax.{U, Val}
use Rattle.u_terms.specs.declared.term.Val.TheVariants as v
use Rattle.shapes.specs.Tests.{entry_at}
use Rattle.term_shapes.specs.Factors.{sum_count, under_sums}
use Rattle.shape_entails.specs.Values as values
use Rattle.shape_entails.specs.Values.{is_atom, row_of_atom}
use Rattle.shape_entails.specs.Turning.{AreAllPlaces, AreFound}
use Rattle.u_bag.specs.Meeting.{Turn}
use Rattle.u_bag.specs.declared.order.Atoms.{Atoms}

-- ---- atoms
-- the values of the atoms among these terms
abbrev pub rows_among : List U → List (List Val)
rows_among factors = map row_of_atom (filter is_atom factors)

-- the rows that are lent
abbrev pub lent_rows : List (Bor (List Val)) → List (List Val)
lent_rows = map (λ row. row.now)

-- so many sums, no more than a step exchanges, and the values of each atom of the product under them
pub record AreAtoms (u : U) (atoms : Atoms) : Type 0 where
  pub sums_are : atoms.sums ≡ sum_count u
  pub few : atoms.sums ≤ 2048
  pub rows_are : lent_rows atoms.rows.items ≡ values.rows (under_sums u)

-- ---- places that go to places
abbrev pub AreBothPlaces : Val → Val → Option (ℕ × ℕ) → Type 0
AreBothPlaces x y None = (from to : ℕ) → x ≡ v.Bound from → y ≡ v.Bound to → ⊥
AreBothPlaces x y (Some places) = (x ≡ v.Bound places.0) × (y ≡ v.Bound places.1)

-- one of the first columns has this place in the one row, and that in the other
pub record RowSends (row other : List Val) (many from to : ℕ) : Type 0 where
  pub place : ℕ
  pub is_first : place < many
  pub at_from : get_or row place (v.Lit 0) ≡ v.Bound from
  pub at_to : get_or other place (v.Lit 0) ≡ v.Bound to

-- the same of a column of one of the first rows, and of the row that the list has for it
pub record Sends (lefts rights : List (List Val)) (list : List ℕ) (many from to : ℕ) : Type 0 where
  pub entry : ℕ
  pub is_first : entry < many
  pub row : RowSends (get_or lefts entry []) (get_or rights (entry_at list entry) []) (length (get_or lefts entry [])) from to

-- each row has one that is as long, and to each place goes one place
pub record ArePairedRows (lefts rights : List (List Val)) (list : List ℕ) (places : ℕ) : Type 0 where
  pub as_many : length list ≡ length lefts
  pub inside : (e : ℕ) → e < length list → entry_at list e < length rights
  pub as_long : (e : ℕ) → e < length list → length (get_or lefts e []) ≡ length (get_or rights (entry_at list e) [])
  pub below : (from to : ℕ) → Sends lefts rights list (length list) from to → to < places
  pub one : (from another to : ℕ) → Sends lefts rights list (length list) from to → Sends lefts rights list (length list) another to → from ≡ another

-- the places of the first columns were written where they go, and at other places stands what stood there
pub record IsRowSent (row other : List Val) (many : ℕ) (old new : List ℕ) : Type 0 where
  pub long : length new ≡ length old
  pub sent : (from to : ℕ) → RowSends row other many from to → get_or new to 0 ≡ from
  pub kept : (to : ℕ) → (get_or new to 0 ≡ get_or old to 0) ⊎ RowSends row other many (get_or new to 0) to

-- so were those of the first rows
pub record AreSent (lefts rights : List (List Val)) (list : List ℕ) (many places : ℕ) (sources : List ℕ) : Type 0 where
  pub long : length sources ≡ places
  pub sent : (from to : ℕ) → Sends lefts rights list many from to → get_or sources to 0 ≡ from

-- ---- turns
-- each place is wanted once; there are no more sums than a step exchanges
pub record AreWanted (sums : ℕ) (wanted : List ℕ) : Type 0 where
  pub few : sums ≤ 2048
  pub order : (places : List ℕ) → AreAllPlaces sums places → IsPermutation places wanted

-- the turns of the places that are wanted, among all places
pub record AreTurnsAmong (sums : ℕ) (wanted turns : List ℕ) : Type 0 where
  pub places : List ℕ
  pub all : AreAllPlaces sums places
  pub found : AreFound places wanted turns

-- by so many turns the products come to say the same
pub record IsTurn (turns : List ℕ) (left right : U) : Type 0 where
  pub few : length turns ≤ 2048
  pub turn : Turn turns left right
