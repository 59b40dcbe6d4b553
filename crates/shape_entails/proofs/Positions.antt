-- Turns that are found as positions among the places that wait.
use Rattle.std.proofs.Common.{◌≡◌, ℕ, suc, ◌+◌, ◌-◌, ◌<◌, inl, inr, List, [], ◌∷◌, length, get_or, Some, ap, sym, ◌∙◌, subst, arith}
use Rattle.std.specs.Prelude.{slice_get, reverse, IsPermutation}
use Rattle.std.specs.List.{remove}
use Rattle.std.proofs.lemmas.List.{get_or-reverse}
use Rattle.std.proofs.lemmas.List.Edits.{length-remove, get_or-remove_below, get_or-remove_above}
use Rattle.std.proofs.lemmas.List.Sorted.{IsPermutation-sym, IsPermutation-trans, IsPermutation-remove, IsPermutation-reverse}
use Rattle.std.proofs.lemmas.Option.{slice_get_within, get_or_from_slice_get, slice_get-get_or}
use Rattle.u_terms.specs.Syntax.{U}
use Rattle.u_terms.specs.declared.term.Val.TheVariants as v
use Rattle.shapes.specs.Shapes.{Entry, column, Shape, entry_of, IsPoint}
use Rattle.shapes.specs.Alike.{moved, Pairing}
use Rattle.term_shapes.specs.Factors.{sum_count, under_sums}
use Rattle.shape_entails.specs.Values.{point_value}
use Rattle.shape_entails.specs.Places.{ArePlaces}
use Rattle.shape_entails.specs.Turning.{source, AreTurns, AreFound, AreAllPlaces, AreSources, IsTurned}
use Rattle.u_rules.proofs.multisets.LeavesCancel.{IsPermutation-cancel}
use Rattle.u_equal.specs.Standing.{IsIn}
use Rattle.u_equal.proofs.products.Members.{in-head}
use Rattle.shape_entails.proofs.Apart.{in-permuted}
use Rattle.shape_entails.proofs.Bijections.{permuted}
use Rattle.shape_entails.proofs.Shaped.{same-place}
use Rattle.shape_entails.proofs.Turned.{HowLater, inside, outside, source-last, source-later, source-below, last-or-later, as-many-sums, turning}

found-turns : (waiting wanted turns : List ℕ) → AreFound waiting wanted turns → length waiting ≡ length turns → AreTurns turns
found-turns waiting [] [] h long = tt
found-turns waiting [] (turn ∷ turns) h long = absurd h
found-turns waiting (place ∷ wanted) [] h long = absurd h
found-turns waiting (place ∷ wanted) (turn ∷ turns) h long =
    let low = slice_get_within waiting turn place h.0 in
    (omega (arith, low, long), found-turns (remove waiting turn) wanted turns h.1 (omega (arith, long, length-remove waiting turn low)))

-- what waits where a place comes from is the place that was wanted for it
found-source : (waiting wanted turns : List ℕ) → AreFound waiting wanted turns → length waiting ≡ length turns → (place : ℕ) → place < length turns
    → get_or waiting (length turns - 1 - source turns place) 0 ≡ get_or wanted (length turns - 1 - place) 0
found-source waiting [] [] h long place less = absurd (omega (arith, less))
found-source waiting [] (turn ∷ turns) h long place less = absurd h
found-source waiting (first ∷ wanted) [] h long place less = absurd h
found-source waiting (first ∷ wanted) (turn ∷ turns) h long place less = elim (last-or-later (length turns) place less) [
  | inl is ↦
      let low = slice_get_within waiting turn first h.0 in
      let at : suc (length turns) - 1 - source (turn ∷ turns) place ≡ turn = let e : source (turn ∷ turns) place ≡ length turns - turn = ap (source (turn ∷ turns)) is ∙ source-last turn turns in omega (arith, e, low, long) in
      let none : suc (length turns) - 1 - place ≡ 0 = omega (arith, is) in
      ap (λ n. get_or waiting n 0) at ∙ get_or_from_slice_get waiting turn first 0 h.0 ∙ ap (λ n. get_or (first ∷ wanted) n 0) (sym none)
  | inr later ↦
      let low = slice_get_within waiting turn first h.0 in
      let rest = found-source (remove waiting turn) wanted turns h.1 (omega (arith, long, length-remove waiting turn low)) place later in
      let next : suc (length turns) - 1 - place ≡ suc (length turns - 1 - place) = omega (arith, later) in
      at low (source-later turn turns place later)
      (source-below turns (found-turns (remove waiting turn) wanted turns h.1 (omega (arith, long, length-remove waiting turn low))) place later)
      ∙ rest ∙ ap (λ n. get_or (first ∷ wanted) n 0) (sym next)
]
  where
    at : turn < length waiting → HowLater turn turns place → source turns place < length turns
        → get_or waiting (suc (length turns) - 1 - source (turn ∷ turns) place) 0 ≡ get_or (remove waiting turn) (length turns - 1 - source turns place) 0
    at low (inside less' e) below =
        let same : suc (length turns) - 1 - source (turn ∷ turns) place ≡ length turns - 1 - source turns place + 1 = omega (arith, e, below) in
        ap (λ n. get_or waiting n 0) same ∙ sym (get_or-remove_above waiting turn 0 (length turns - 1 - source turns place) (omega (arith, less', below, low, long)) low)
    at low (outside more e) below =
        let same : suc (length turns) - 1 - source (turn ∷ turns) place ≡ length turns - 1 - source turns place = omega (arith, e, below) in
        ap (λ n. get_or waiting n 0) same ∙ sym (get_or-remove_below waiting turn 0 (length turns - 1 - source turns place) (omega (arith, more, below, low, long)) low)

-- ---- where the places that wait are those that are wanted
pub wanted-waits : (waiting wanted : List ℕ) (place : ℕ) → IsPermutation waiting (place ∷ wanted) → IsIn place waiting
wanted-waits waiting wanted place h = in-permuted (place ∷ wanted) waiting place (IsPermutation-sym waiting (place ∷ wanted) h) (in-head place wanted)

pub others-wait : (waiting wanted : List ℕ) (place turn : ℕ) → IsPermutation waiting (place ∷ wanted) → slice_get waiting turn ≡ Some place → IsPermutation (remove waiting turn) wanted
others-wait waiting wanted place turn h at =
    IsPermutation-cancel place (remove waiting turn) wanted
    (IsPermutation-trans (place ∷ remove waiting turn) waiting (place ∷ wanted)
    (IsPermutation-sym waiting (place ∷ remove waiting turn)
    (IsPermutation-remove waiting turn place (slice_get_within waiting turn place at) (sym (get_or_from_slice_get waiting turn place place at)))) h)

-- among all places
pub found-sources : (sums : ℕ) (waiting sources turns : List ℕ) → AreAllPlaces sums waiting → length sources ≡ sums → length turns ≡ sums → AreFound waiting (reverse sources) turns
    → (place : ℕ) → place < sums → source turns place ≡ get_or sources place 0
found-sources sums waiting sources turns all long many h place less =
    let turns_are = found-turns waiting (reverse sources) turns h (all.long ∙ sym many) in
    let below = source-below turns turns_are place (omega (arith, less, many)) in
    let there : length turns - 1 - source turns place ≡ sums - 1 - source turns place = omega (arith, many) in
    let back : length sources - 1 - (length turns - 1 - place) ≡ place = omega (arith, many, long, less) in
    sym (all.each (source turns place) (omega (arith, below, many))) ∙ ap (λ n. get_or waiting n 0) (sym there)
    ∙ found-source waiting (reverse sources) turns h (all.long ∙ sym many) place (omega (arith, less, many))
    ∙ get_or-reverse sources (length turns - 1 - place) 0 (omega (arith, less, many, long)) ∙ ap (λ n. get_or sources n 0) back

module _ (s t : Shape) (forth back : ℕ → ℕ) (h : Pairing s t forth back) (left right : U) (in_left : ArePlaces s (sum_count left) (under_sums left)) (in_right : ArePlaces t (sum_count right) (under_sums right))
    (sources : List ℕ) (are : AreSources s forth sources left right) where
  same : sum_count left ≡ sum_count right
  same = as-many-sums s t forth back h (sum_count left) (sum_count right) (under_sums left) (under_sums right) in_left in_right

  -- the turns that are found among all places bring the sums into one order
  pub turning-found : (waiting turns : List ℕ) → AreAllPlaces (sum_count left) waiting → length turns ≡ sum_count left → AreFound waiting (reverse sources) turns → IsTurned s forth turns left right
  turning-found waiting turns all many found =
      turning s t forth back h left right in_left in_right turns (found-turns waiting (reverse sources) turns found (all.long ∙ sym many)) (sym many)
      (λ e c i j point at_left at_right.
      let right_place = in_right.places (forth e) c (h.forth_in e point.0, subst (λ (n : Entry). c < n.columns) (sym (h.tables e point.0)) point.1) in
      let number : j ≡ right_place.place = same-place j right_place.place (sym at_right ∙ right_place.is) in
      sym (are.each e c i j point at_left at_right)
      ∙ sym (found-sources (sum_count left) waiting sources turns all (are.long ∙ sym same) many found j (omega (arith, number, right_place.below, same))))

  -- the column whose image has the place
  record HasSource (j : ℕ) : Type 0 where
    entry : ℕ
    of_entry : ℕ
    point : IsPoint s.entries (column entry of_entry)
    at_left : point_value (under_sums left) (column entry of_entry) ≡ v.Bound (get_or sources j 0)
    at_right : point_value (under_sums right) (column (forth entry) of_entry) ≡ v.Bound j
    below : get_or sources j 0 < sum_count left

  has-source : (j : ℕ) → j < sum_count right → HasSource j
  has-source j less =
      let k = in_right.columns j less in
      let entry : entry_of s.entries (back k.entry) ≡ entry_of t.entries k.entry = sym (h.tables (back k.entry) (h.back_in k.entry k.is_point.0)) ∙ ap (entry_of t.entries) (h.forth_back k.entry k.is_point.0) in
      let point : IsPoint s.entries (column (back k.entry) k.of_entry) = (h.back_in k.entry k.is_point.0, subst (λ (n : Entry). k.of_entry < n.columns) (sym entry) k.is_point.1) in
      let at_right : point_value (under_sums right) (column (forth (back k.entry)) k.of_entry) ≡ v.Bound j =
      ap (λ e. point_value (under_sums right) (column e k.of_entry)) (h.forth_back k.entry k.is_point.0) ∙ k.is in
      let l = in_left.places (back k.entry) k.of_entry point in
      let number : get_or sources j 0 ≡ l.place = are.each (back k.entry) k.of_entry l.place j point l.is at_right in
      record { entry = back k.entry; of_entry = k.of_entry; point = point; at_left = l.is ∙ ap v.Bound (sym number); at_right = at_right; below = omega (arith, number, l.below) }

  sources-apart : (i j : ℕ) → i < length sources → j < length sources → sum_count left - 1 - get_or sources i 0 ≡ sum_count left - 1 - get_or sources j 0 → i ≡ j
  sources-apart i j less within e =
      let x = has-source i (omega (arith, less, are.long)) in
      let y = has-source j (omega (arith, within, are.long)) in
      let number : get_or sources i 0 ≡ get_or sources j 0 = omega (arith, e, x.below, y.below) in
      let columns = in_left.apart x.entry x.of_entry y.entry y.of_entry x.point y.point (x.at_left ∙ ap v.Bound number ∙ sym y.at_left) in
      same-place i j (sym x.at_right ∙ ap (λ p. point_value (under_sums right) (moved forth p)) columns ∙ y.at_right)

  -- all places wait, and each is wanted once
  pub sources-in-order : (places : List ℕ) → AreAllPlaces (sum_count left) places → IsPermutation places (reverse sources)
  sources-in-order places all =
      IsPermutation-trans places sources (reverse sources)
      (IsPermutation-sym sources places (permuted sources places (λ j. sum_count left - 1 - get_or sources j 0) (are.long ∙ sym same ∙ sym all.long) sources-apart
      (λ j x g.
      let less = slice_get_within sources j x g in
      let k = has-source j (omega (arith, less, are.long)) in
      let value : get_or sources j 0 ≡ x = get_or_from_slice_get sources j x 0 g in
      slice_get-get_or places (sum_count left - 1 - get_or sources j 0) 0 (omega (arith, all.long, k.below)) ∙ ap Some (all.each (get_or sources j 0) k.below ∙ value))))
      (IsPermutation-reverse sources)
