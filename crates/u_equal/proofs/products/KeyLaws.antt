-- Values have one code only where they are one value, so what a table finds by codes is the value.
use Rattle.std.proofs.Common.{◌≡◌, ℕ, ◌+◌, ◌≤◌, Bool, true, false, List, [], ◌∷◌, ◌++◌, length, get_or, inl, inr, refl, ap, sym, ◌∙◌, arith}
use Rattle.std.specs.Prelude.{◌⊎◌, Option, Some, None, slice_get, unwrap_or, is_some, MatchOption, position, IsTrue, ◌↔◌}
use Rattle.std.specs.List.{list_any, IsDistinct}
use Rattle.indexmap.specs.IndexSet.{insert_key}
use Rattle.std.specs.Cmp.Lexicographic.{bytes_decides}
use Rattle.std.proofs.lemmas.Bool.{cases_Bool, true≢false}
use Rattle.std.proofs.lemmas.List.{length_push}
use Rattle.std.proofs.lemmas.List.Folds.{Any-from_list_any, list_any_at}
use Rattle.std.proofs.lemmas.List.Quantifiers.{position-Some}
use Rattle.std.proofs.lemmas.Map.Made.{AllPairs-from_IsDistinct}
use Rattle.std.proofs.lemmas.Option.{slice_get-get_or, slice_get_within, get_or_from_slice_get}
use Rattle.u_terms.specs.Syntax.{Val}
use Rattle.u_terms.specs.declared.term.U.TheVariants as u
use Rattle.u_rules.specs.Codes.{value_code}
use Rattle.u_rules.proofs.multisets.CodesAt.{code-Eq}
use Rattle.u_rules.proofs.multisets.CodesDiffer.{code-injective}
use Rattle.u_equal.specs.Keys.{same_code}
use Rattle.u_equal.specs.Standing.{IsIn}
use Rattle.u_equal.specs.Joined.{IsAbsent, FirstAt}
use Rattle.u_equal.proofs.products.Members.{in-last, in-left, in-push}

pub sides-Eq : (a b c d : Val) → u.Eq a b ≡ u.Eq c d → (a ≡ c) × (b ≡ d)
sides-Eq a b c d e = (cc, cc)

pub one_value : (a b : Val) → value_code a ≡ value_code b → a ≡ b
one_value a b same =
    (sides-Eq a a b a (code-injective (u.Eq a a) (u.Eq b a) (code-Eq a a ∙ ap (λ c. 8 ∷ (c ++ value_code a)) same ∙ sym (code-Eq b a)))).0

pub same_code-one : (a b : Val) → same_code a b ≡ true → a ≡ b
same_code-one a b same = one_value a b ((bytes_decides (value_code a) (value_code b)).0 same)

pub one-same_code : (a b : Val) → a ≡ b → same_code a b ≡ true
one-same_code a b is = (bytes_decides (value_code a) (value_code b)).1 (ap value_code is)

both-true : (b c : Bool) → (b ≡ true → c ≡ true) → (c ≡ true → b ≡ true) → b ≡ c
both-true true c h k = sym (h refl)
both-true false true h k = k refl
both-true false false h k = refl

pub same-is : (b : Bool) (x y : Val) → IsTrue b ↔ (x ≡ y) → b ≡ same_code x y
same-is b x y h = both-true b (same_code x y) (λ t. one-same_code x y (h.0 t)) (λ t. h.1 (same_code-one x y t))

-- ---- places
not-true : (b : Bool) → b ≡ false → b ≡ true → ⊥
not-true b f t = true≢false (sym t ∙ f)

pub found : (a : Val) (keys : List Val) (r : Option ℕ) → r ≡ position (same_code a) keys → is_some r ≡ list_any (same_code a) keys → MatchOption r (IsAbsent a keys) (λ place. FirstAt keys a place)
found a keys None is some = λ place at.
    true≢false (sym (list_any_at (same_code a) keys place a (slice_get_within keys place a at) (one-same_code a (get_or keys place a) (sym (get_or_from_slice_get keys place a a at)))) ∙ sym some)
found a keys (Some place) is some =
    let h = position-Some (same_code a) keys place a (sym is) in
    record {
      here = slice_get-get_or keys place a h.0 ∙ ap (λ (x : Val). Some x) (sym (same_code-one a (get_or keys place a) h.1));
      first = λ j less at. not-true (same_code a (get_or keys j a)) (h.2 j less) (one-same_code a (get_or keys j a) (sym (get_or_from_slice_get keys j a a at)));
    }

-- the value that was found among those that have it
pub found-here : (a : Val) (keys : List Val) (r : Option ℕ) → MatchOption r (IsAbsent a keys) (λ place. FirstAt keys a place) → IsIn a keys → FirstAt keys a (unwrap_or r 0)
found-here a keys None h has = absurd (h has.place has.here)
found-here a keys (Some place) h has = h

-- each value stands once among keys
pub only-first : (keys : List Val) → IsDistinct same_code keys → (a : Val) (i : ℕ) → slice_get keys i ≡ Some a → FirstAt keys a i
only-first keys distinct a i at = record {
  here = at;
  first = λ j less at_j.
      AllPairs-from_IsDistinct {eq = same_code} (λ x y. (same_code-one x y, one-same_code x y)) keys distinct j i a less (slice_get_within keys i a at)
      (get_or_from_slice_get keys j a a at_j ∙ sym (get_or_from_slice_get keys i a a at));
}

-- ---- a key more
module _ (keys : List Val) (key : Val) where
  any-in : list_any (same_code key) keys ≡ true → IsIn key keys
  any-in met =
      let h = Any-from_list_any (same_code key) keys met in
      record { place = h.0; here = slice_get-get_or keys h.0 h.1 h.2 ∙ ap (λ (x : Val). Some x) (h.3 ∙ sym (same_code-one key h.1 h.4)) }

  pub inserted-has : IsIn key (insert_key same_code keys key)
  inserted-has = elim (cases_Bool (list_any (same_code key) keys)) [
    | inl met ↦ rw met (any-in met)
    | inr not_met ↦ rw not_met (in-last keys key)
  ]

  pub inserted-keeps : (a : Val) → IsIn a keys → IsIn a (insert_key same_code keys key)
  inserted-keeps a has = elim (cases_Bool (list_any (same_code key) keys)) [
    | inl met ↦ rw met has
    | inr not_met ↦ rw not_met (in-left keys (key ∷ []) a has)
  ]

  pub inserted-only : (a : Val) → IsIn a (insert_key same_code keys key) → IsIn a keys ⊎ (a ≡ key)
  inserted-only a has = elim (cases_Bool (list_any (same_code key) keys)) [
    | inl met ↦ inl (rw met at has)
    | inr not_met ↦ in-push keys key a (rw not_met at has)
  ]

  any-absent : list_any (same_code key) keys ≡ false → IsIn key keys → ⊥
  any-absent none h =
      true≢false (sym (list_any_at (same_code key) keys h.place key (slice_get_within keys h.place key h.here)
      (one-same_code key (get_or keys h.place key) (sym (get_or_from_slice_get keys h.place key key h.here)))) ∙ none)

  -- a key that is there is not put there again
  pub inserted-as : (insert_key same_code keys key ≡ keys) ⊎ ((IsIn key keys → ⊥) × (insert_key same_code keys key ≡ keys ++ key ∷ []))
  inserted-as = elim (cases_Bool (list_any (same_code key) keys)) [
    | inl met ↦ inl (rw met refl)
    | inr not_met ↦ inr (any-absent not_met, rw not_met refl)
  ]

  pub inserted-few : length (insert_key same_code keys key) ≤ length keys + 1
  inserted-few = elim (cases_Bool (list_any (same_code key) keys)) [
    | inl met ↦ rw met (omega arith)
    | inr not_met ↦ rw not_met (omega (arith, length_push keys key))
  ]
