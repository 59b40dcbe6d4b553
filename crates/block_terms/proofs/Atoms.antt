-- The atoms of a block's entries, one after the other.
use Rattle.std.proofs.Common.{◌≡◌, ℕ, zero, suc, ◌+◌, ◌-◌, ◌<◌, ◌≤◌, ◌⊎◌, inl, inr, Bool, true, false, List, [], ◌∷◌, ◌++◌, length, Option, Some, None, refl, ap, sym, ◌∙◌, append_assoc, arith}
use Rattle.std.proofs.lemmas.List.{append-nil, length-append}
use Rattle.std.specs.Prelude.{nat_le, nat_lt, ◌&&◌, if◌then◌else◌, slice_get, option_map, option_and_then}
use Rattle.std.proofs.lemmas.Bool.{cases_Bool}
use Rattle.std.proofs.lemmas.Bool.Decides.{nat_tests}
use Rattle.u_terms.specs.declared.term.Val.TheVariants as v
use Rattle.u_terms.specs.Syntax.{Val}
use Rattle.u_terms.specs.Binding.{mapped, mapped_value, same_place, place_for_names}
use Rattle.sql_to_u.specs.Factors.{names_from}
use Rattle.shapes.specs.Shapes.{Entry, Point, column, entry_of}
use Rattle.term_shapes.specs.Factors.{Factor, atom}
use Rattle.term_shapes.specs.TermShape.{Points, placed, Atoms, with_atom, with_entry, folded}
use Rattle.term_shapes.specs.Walks.{atoms}
use Rattle.block_terms.proofs.Mapping.{values_at}
use Rattle.block_terms.proofs.Placing.{places_below, AreFree, PlacedTo, places-go}

-- ---- the names of an entry's columns, closed
yes-if : (a b : Bool) (x y : Val) → a ≡ true → b ≡ true → (if a && b then x else y) ≡ x
yes-if true true x y e d = refl
yes-if true false x y e d = absurd (grind (arith, d))
yes-if false b x y e d = absurd (grind (arith, e))

name-placed : (next size first : ℕ) → next ≤ first → first < next + size → mapped_value same_place (place_for_names next size) 0 (v.Free first) ≡ v.Bound (next + size - first - 1)
unfolding mapped
name-placed next size first low high =
    let one : nat_le next first ≡ true = grind (arith, nat_tests) in
    let two : nat_lt first (next + size) ≡ true = grind (arith, nat_tests) in
    let place : 0 + (next + size - 1 - first) ≡ next + size - first - 1 = omega arith in
    yes-if (nat_le next first) (nat_lt first (next + size)) (v.Bound (0 + (next + size - 1 - first))) (v.Free first) one two ∙ ap v.Bound place

pub names-placed : (next size first wide : ℕ) → next ≤ first → first + wide ≤ next + size
    → values_at same_place (place_for_names next size) 0 (names_from first wide) ≡ places_below (next + size - first) wide
names-placed next size first zero low high = refl
names-placed next size first (suc wide) low high =
    let after_one : next + size - (first + 1) ≡ next + size - first - 1 = omega arith in
    ap (λ (x : Val). x ∷ values_at same_place (place_for_names next size) 0 (names_from (first + 1) wide)) (name-placed next size first low (omega (arith, high)))
    ∙ ap (λ (l : List Val). v.Bound (next + size - first - 1) ∷ l) (names-placed next size (first + 1) wide (omega (arith, low)) (omega (arith, high)) ∙ ap (λ t. places_below t wide) after_one)

places-long : (top many : ℕ) → length (places_below top many) ≡ many
places-long top zero = refl
places-long top (suc many) = ap suc (places-long (top - 1) many)

-- ---- all entries
abbrev pub entry_atoms : List Entry → ℕ → List Factor
entry_atoms [] top = []
entry_atoms (e ∷ es) top = atom e.table (places_below top e.columns) ∷ entry_atoms es (top - e.columns)

abbrev pub total : List Entry → ℕ
total [] = 0
total (e ∷ es) = e.columns + total es

-- how many columns are before an entry's
abbrev pub offset : List Entry → ℕ → ℕ
offset [] i = 0
offset (e ∷ es) zero = 0
offset (e ∷ es) (suc i) = e.columns + offset es i

pub record AllPlaced (done es : List Entry) (top : ℕ) (before : Points) : Type 0 where
  pub after : Points
  pub is : folded with_atom (atoms done before) (entry_atoms es top) ≡ Some (atoms (done ++ es) after)
  pub point : (i d : ℕ) → i < length es → d < (entry_of es i).columns → slice_get after (top - 1 - (offset es i + d)) ≡ Some (Some (column (length done + i) d))
  pub kept : (p : ℕ) → top ≤ p → slice_get after p ≡ slice_get before p
  pub full : (p : ℕ) → top ≤ p + total es → p < top → slice_get after p ≡ Some None → ⊥

with-first : (done : List Entry) (e : Entry) (top : ℕ) (before after : Points) → placed (length done) 0 (places_below top e.columns) before ≡ Some after
    → with_atom (atoms done before) (atom e.table (places_below top e.columns)) ≡ Some (atoms (done ++ e ∷ []) after)
with-first done e top before after h =
    ap (λ (o : Option Points). option_map (with_entry done (record { table = e.table; columns = length (places_below top e.columns) })) o) h ∙ ap (λ n. Some (with_entry done (record { table = e.table; columns = n }) after)) (places-long top e.columns)

pub offset-in : (es : List Entry) (i d : ℕ) → i < length es → d < (entry_of es i).columns → offset es i + d < total es
offset-in [] i d less within = absurd (omega arith)
offset-in (e ∷ es) zero d less within = omega (arith, within)
offset-in (e ∷ es) (suc i) d less within = let k = offset-in es i d (omega (arith, less)) within in omega (arith, k)

pub all-placed : (done es : List Entry) (top : ℕ) (before : Points) → total es ≤ top → AreFree top before → AllPlaced done es top before
all-placed done [] top before most free = record {
  after = before;
  is = ap (λ (l : List Entry). Some (atoms l before)) (sym (append-nil done));
  point = λ i d less within. absurd (omega (arith, less));
  kept = λ p low. refl;
  full = λ p low less. absurd (omega (arith, low, less));
}
all-placed done (e ∷ es) top before most free =
    let one = places-go (length done) 0 top e.columns before (omega (arith, most)) free in
    let rest = all-placed (done ++ e ∷ []) es (top - e.columns) one.after (omega (arith, most)) one.placed_so.free in
    record {
      after = rest.after;
      is =
          ap (λ (o : Option Atoms). option_and_then (λ more. folded with_atom more (entry_atoms es (top - e.columns))) o) (with-first done e top before one.after one.is)
          ∙ rest.is ∙ ap (λ (l : List Entry). Some (atoms l rest.after)) (append_assoc done (e ∷ []) es);
      point = λ i d less within. point_at i d less within one rest;
      kept = λ p low. rest.kept p (omega (arith, low)) ∙ one.placed_so.kept p low;
      full = λ p low less. full_at p low less one rest (cases_Bool (nat_lt p (top - e.columns)));
    }
  where
    some-none : (q : Point) → (let x : Option (Option Point) = Some (Some q) in x) ≡ Some None → ⊥
    some-none q h = grind (arith, h)

    full_at : (p : ℕ) → top ≤ p + total (e ∷ es) → p < top → (one : PlacedTo (length done) 0 top e.columns before) → (rest : AllPlaced (done ++ e ∷ []) es (top - e.columns) one.after)
        → (nat_lt p (top - e.columns) ≡ true) ⊎ (nat_lt p (top - e.columns) ≡ false) → slice_get rest.after p ≡ Some None → ⊥
    full_at p low less one rest (inl below) h = let b : p < top - e.columns = grind (arith, nat_tests) in rest.full p (omega (arith, low, most, b)) b h
    full_at p low less one rest (inr above) h =
        let a : top - e.columns ≤ p = grind (arith, nat_tests) in
        let place : top - 1 - (top - 1 - p) ≡ p = omega (arith, less) in
        some-none (column (length done) (0 + (top - 1 - p)))
        (sym (one.placed_so.new (top - 1 - p) (omega (arith, a, less, most))) ∙ ap (slice_get one.after) place ∙ sym (rest.kept p a) ∙ h)

    point_at : (i d : ℕ) → i < length (e ∷ es) → d < (entry_of (e ∷ es) i).columns → (one : PlacedTo (length done) 0 top e.columns before) → (rest : AllPlaced (done ++ e ∷ []) es (top - e.columns) one.after)
        → slice_get rest.after (top - 1 - (offset (e ∷ es) i + d)) ≡ Some (Some (column (length done + i) d))
    point_at zero d less within one rest =
        let place : top - 1 - (0 + d) ≡ top - 1 - d = omega arith in
        let entry : length done ≡ length done + 0 = omega arith in
        let col : 0 + d ≡ d = omega arith in
        ap (slice_get rest.after) place ∙ rest.kept (top - 1 - d) (omega (arith, within, most)) ∙ one.placed_so.new d within
        ∙ ap (λ n. Some (Some (column (length done) n))) col ∙ ap (λ n. Some (Some (column n d))) entry
    point_at (suc i) d less within one rest =
        let place : top - 1 - (e.columns + offset es i + d) ≡ top - e.columns - 1 - (offset es i + d) = omega arith in
        let entry : length (done ++ e ∷ []) + i ≡ length done + suc i = omega (arith, length-append done (e ∷ [])) in
        ap (slice_get rest.after) place ∙ rest.point i d (omega (arith, less)) within ∙ ap (λ n. Some (Some (column n d))) entry
