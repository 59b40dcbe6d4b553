-- Steps of the loops over values and calls.
use Rattle.std.proofs.Common.{◌≡◌, ℕ, ◌+◌, ◌<◌, ◌≤◌, List, [], ◌∷◌, ◌++◌, map, length, get_or, inl, inr, refl, ap, sym, ◌∙◌, subst, arith}
use Rattle.std.specs.Prelude.{Some, slice_get, ◌⊎◌}
use Rattle.std.specs.Option.{option_map}
use Rattle.std.proofs.lemmas.Option.{slice_get-map, slice_get_read, slice_get_within, same_Some, slice_get-get_or, get_or_from_slice_get}
use Rattle.std.proofs.lemmas.Bool.{cases_eq}
use Rattle.std.proofs.lemmas.List.{length-map, length_push, get_or_push, get_or_append_left}
use denote.Ref.{Bor}
use Rattle.u_terms.specs.Syntax.{Val}
use Rattle.u_terms.specs.declared.term.Val.TheVariants as v
use Rattle.indexmap.specs.IndexSet.{insert_key}
use Rattle.u_equal.specs.declared.calls.Call.{Call}
use Rattle.u_equal.specs.Keys.{same_code}
use Rattle.u_equal.specs.Gathering.{values_at}
use Rattle.u_equal.specs.Standing.{EachOnce, IsIn}
use Rattle.u_equal.specs.Joined.{FirstAt}
use Rattle.u_equal.specs.Tables.{ArePlaces, IsCall}
use Rattle.u_equal.proofs.products.KeyLaws.{inserted-as, inserted-has, inserted-keeps, inserted-only, inserted-few}

-- ---- what references lead to
pub item-here : {B X : Type 0} (now : B → X) (refs : List B) (i : ℕ) (r : B) → i < length refs → r ≡ get_or refs i r → slice_get (map now refs) i ≡ Some (now r)
item-here now refs i r within is = slice_get-map now refs i ∙ ap (λ o. option_map now o) (slice_get_read refs (length refs) i r refl within is)

pub within-all : {B X : Type 0} (now : B → X) (refs : List B) (k n : ℕ) (x : X) → length refs ≤ n → slice_get (map now refs) k ≡ Some x → k < n
within-all now refs k n x long at = let h = slice_get_within (map now refs) k x at in omega (arith, h, long, length-map refs now)

-- ---- a list with an item more
pub at-push : {X : Type 0} (xs : List X) (y x : X) (k : ℕ) → slice_get (xs ++ y ∷ []) k ≡ Some x → (slice_get xs k ≡ Some x) ⊎ ((k ≡ length xs) × (y ≡ x))
at-push xs y x k at = elim (cases_eq k (length xs)) [
  | inl last ↦ inr (last, sym (get_or_push xs y x k (sym last)) ∙ get_or_from_slice_get (xs ++ y ∷ []) k x x at)
  | inr other ↦
      let h = slice_get_within (xs ++ y ∷ []) k x at in
      let within : k < length xs = omega (arith, h, other, length_push xs y) in
      inl (slice_get-get_or xs k x within ∙ ap (λ z. Some z) (sym (get_or_append_left xs (y ∷ []) x k within) ∙ get_or_from_slice_get (xs ++ y ∷ []) k x x at))
]

pub at-left : {X : Type 0} (xs : List X) (y x : X) (k : ℕ) → slice_get xs k ≡ Some x → slice_get (xs ++ y ∷ []) k ≡ Some x
at-left xs y x k at =
    let within = slice_get_within xs k x at in
    let more : k < length (xs ++ y ∷ []) = omega (arith, within, length_push xs y) in
    slice_get-get_or (xs ++ y ∷ []) k x more ∙ ap (λ z. Some z) (get_or_append_left xs (y ∷ []) x k within ∙ get_or_from_slice_get xs k x x at)

pub at-last : {X : Type 0} (xs : List X) (y : X) → slice_get (xs ++ y ∷ []) (length xs) ≡ Some y
at-last xs y =
    let more : length xs < length (xs ++ y ∷ []) = omega (arith, length_push xs y) in
    slice_get-get_or (xs ++ y ∷ []) (length xs) y more ∙ ap (λ z. Some z) (get_or_push xs y y (length xs) refl)

-- one more that is not there yet
pub once-more : {X : Type 0} (xs : List X) (y : X) → (IsIn y xs → ⊥) → EachOnce xs → EachOnce (xs ++ y ∷ [])
once-more {X} xs y absent once i j x at_i at_j = elim (at-push xs y x i at_i) [
  | inl here ↦ elim (at-push xs y x j at_j) [
    | inl there ↦ once i j x here there
    | inr last ↦ absurd (absent (record { place = i; here = here ∙ ap (λ (z : X). Some z) (sym last.1) }))
  ]
  | inr end ↦ elim (at-push xs y x j at_j) [
    | inl there ↦ absurd (absent (record { place = j; here = there ∙ ap (λ (z : X). Some z) (sym end.1) }))
    | inr last ↦ end.0 ∙ sym last.0
  ]
]

-- ---- the table
module _ (standing : List (Bor Val)) (i : ℕ) (r : Bor Val) (within : i < length standing) (is : r ≡ get_or standing i r) (keys after : List Val) (inserted : after ≡ insert_key same_code keys r.now) where
  pub table-all : ((k : ℕ) (a : Val) → k < i → slice_get (values_at standing) k ≡ Some a → IsIn a keys) → (k : ℕ) (a : Val) → k < i + 1 → slice_get (values_at standing) k ≡ Some a → IsIn a after
  table-all done k a less at = subst (λ (ks : List Val). IsIn a ks) (sym inserted) (elim (cases_eq k i) [
    | inl last ↦
        let same : r.now ≡ a = same_Some r.now a (sym (item-here (λ (b : Bor Val). b.now) standing i r within is) ∙ subst (λ (m : ℕ). slice_get (values_at standing) m ≡ Some a) last at) in
        subst (λ (x : Val). IsIn x (insert_key same_code keys r.now)) same (inserted-has keys r.now)
    | inr other ↦ inserted-keeps keys r.now a (done k a (omega (arith, less, other)) at)
  ])

  pub table-only : ((a : Val) → IsIn a keys → IsIn a (values_at standing)) → (a : Val) → IsIn a after → IsIn a (values_at standing)
  table-only done a has = elim (inserted-only keys r.now a (subst (λ (ks : List Val). IsIn a ks) inserted has)) [
    | inl before ↦ done a before
    | inr last ↦ subst (λ (x : Val). IsIn x (values_at standing)) (sym last) (record { place = i; here = item-here (λ (b : Bor Val). b.now) standing i r within is })
  ]

  pub table-once : EachOnce keys → EachOnce after
  table-once once = subst (λ (ks : List Val). EachOnce ks) (sym inserted) (elim (inserted-as keys r.now) [
    | inl there ↦ subst (λ (ks : List Val). EachOnce ks) (sym there) once
    | inr new ↦ subst (λ (ks : List Val). EachOnce ks) (sym new.1) (once-more keys r.now new.0 once)
  ])

  pub table-few : length keys ≤ i → length after ≤ i + 1
  table-few few = omega (arith, few, ap length inserted, inserted-few keys r.now)

-- ---- places
pub places-none : (values : List Val) (places : List ℕ) → places ≡ [] → ArePlaces values [] places
places-none values places none = (ap length none, λ k x place at at_place. absurd (no-item k x at))
  where
    no-item : (k : ℕ) (x : Val) → slice_get [] k ≡ Some x → ⊥
    no-item k x at = let h = slice_get_within [] k x at in omega (arith, h)

pub places-more : (values xs : List Val) (y : Val) (places after : List ℕ) (place : ℕ) → ArePlaces values xs places → FirstAt values y place → after ≡ places ++ place ∷ []
    → ArePlaces values (xs ++ y ∷ []) after
places-more values xs y places after place h first is = (
  ap length is ∙ length_push places place ∙ ap (λ n. n + 1) h.0 ∙ sym (length_push xs y),
  λ k x p at_x at_p. each k x p at_x (subst (λ (ps : List ℕ). slice_get ps k ≡ Some p) is at_p),
)
  where
    each : (k : ℕ) (x : Val) (p : ℕ) → slice_get (xs ++ y ∷ []) k ≡ Some x → slice_get (places ++ place ∷ []) k ≡ Some p → FirstAt values x p
    each k x p at_x at_p = elim (at-push xs y x k at_x) [
      | inl here ↦ elim (at-push places place p k at_p) [
        | inl there ↦ h.1 k x p here there
        | inr last ↦ let w = slice_get_within xs k x here in absurd (omega (arith, w, last.0, h.0))
      ]
      | inr end ↦ elim (at-push places place p k at_p) [
        | inl there ↦ let w = slice_get_within places k p there in absurd (omega (arith, w, end.0, h.0))
        | inr last ↦ subst (λ (z : Val). FirstAt values z p) end.1 (subst (λ (m : ℕ). FirstAt values y m) last.1 first)
      ]
    ]

-- ---- calls
module _ (values : List Val) (calls after : List Call) (i : ℕ) where
  pub calls-are : (c : Call) → IsCall values c → after ≡ calls ++ c ∷ [] → ((k : ℕ) (d : Call) → slice_get calls k ≡ Some d → IsCall values d) → (k : ℕ) (d : Call) → slice_get after k ≡ Some d
      → IsCall values d
  calls-are c call is done k d at = elim (at-push calls c d k (subst (λ (cs : List Call). slice_get cs k ≡ Some d) is at)) [
    | inl here ↦ done k d here
    | inr last ↦ subst (λ (x : Call). IsCall values x) last.1 call
  ]

  abbrev pub AllBelow : List Call → ℕ → Type 0
  AllBelow cs n = (place f : ℕ) (xs : List Val) → place < n → slice_get values place ≡ Some (v.Fun f xs) → (k : ℕ) × (c : Call) × (slice_get cs k ≡ Some c) × (c.place ≡ place)

  pub calls-all : (c : Call) → c.place ≡ i → after ≡ calls ++ c ∷ [] → AllBelow calls i → AllBelow after (i + 1)
  calls-all c here is done place f xs less at = elim (cases_eq place i) [
    | inl last ↦ (length calls, c, subst (λ (cs : List Call). slice_get cs (length calls) ≡ Some c) (sym is) (at-last calls c), here ∙ sym last)
    | inr other ↦
        let h = done place f xs (omega (arith, less, other)) at in
        (h.0, h.1, subst (λ (cs : List Call). slice_get cs h.0 ≡ Some h.1) (sym is) (at-left calls c h.1 h.0 h.2), h.3)
  ]

  pub calls-other : (a : Val) → slice_get values i ≡ Some a → ((f : ℕ) (xs : List Val) → a ≡ v.Fun f xs → ⊥) → AllBelow calls i → AllBelow calls (i + 1)
  calls-other a at_a not_call done place f xs less at = elim (cases_eq place i) [
    | inl last ↦ absurd (not_call f xs (same_Some a (v.Fun f xs) (sym at_a ∙ subst (λ (m : ℕ). slice_get values m ≡ Some (v.Fun f xs)) last at)))
    | inr other ↦ done place f xs (omega (arith, less, other)) at
  ]

pub place-within : (values : List Val) (c : Call) → IsCall values c → (i : ℕ) → i < length c.arguments → get_or c.arguments i 0 < length values
place-within values c h i within =
    let x = get_or h.from i (v.Lit 0) in
    let at : slice_get h.from i ≡ Some x = slice_get-get_or h.from i (v.Lit 0) (omega (arith, within, h.arguments.0)) in
    slice_get_within values (get_or c.arguments i 0) x (h.arguments.1 i x (get_or c.arguments i 0) at (slice_get-get_or c.arguments i 0 within)).here
