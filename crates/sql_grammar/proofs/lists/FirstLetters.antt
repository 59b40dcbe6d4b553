-- Tables with entries for each letter hold, for a word, what a search of all entries comes to.
use Rattle.std.proofs.Common.{◌≡◌, ℕ, ◌-◌, ◌≤◌, Bool, true, false, List, [], ◌∷◌, map, get_or, bytes_eq, refl, sym, ap, ◌∙◌, subst, arith, inl, inr}
use Rattle.std.specs.List.{filter, list_any}
use Rattle.std.proofs.lemmas.Bool.{cases_Bool, false≢true}
use Rattle.std.proofs.lemmas.Bool.Decides.{nat_tests}
use Rattle.std.proofs.lemmas.List.FromFn.{get_or-map-range_with_len}
use Rattle.std.proofs.Math.ListN.{get_or-map}
use Rattle.std.proofs.lemmas.Map.Views.{any-filter_same}
use Rattle.std.proofs.lemmas.Slice.Eq.{bytes_eq-Decides}
use Rattle.sql_lex.specs.Bytes.{is_within}
use Rattle.sql_grammar.specs.Letters.{IsByLetter, begins_with, begins_with_letter, entries_for}

-- those whose words begin as this one
abbrev pub begin_alike : {E : Type 0} → (E → List ℕ) → List E → List ℕ → List E
begin_alike word_of entries [] = []
begin_alike word_of entries (first ∷ rest) = filter (λ e. begins_with first (word_of e)) entries

within : (first : ℕ) → is_within 97 122 first ≡ true → (97 ≤ first) × (first ≤ 122)
within first e = grind (arith, nat_tests)

module _ {E : Type 0} (word_of : E → List ℕ) (entries : List E) (table : List (List E)) (by_letter : IsByLetter word_of entries table) where
  pub entries_found : (word : List ℕ) → begins_with_letter word ≡ true → entries_for table word ≡ begin_alike word_of entries word
  entries_found [] e = refl
  entries_found (first ∷ rest) e =
      rw e (ap (λ t. get_or t (first - 97) []) by_letter.0
      ∙ get_or-map-range_with_len (λ letter. filter (λ x. begins_with letter (word_of x)) entries) 97 26 (first - 97) first [] (omega (arith, within first e)) (omega (arith, within first e)))

  pub none_found : (word : List ℕ) → begins_with_letter word ≡ false → entries_for table word ≡ []
  none_found [] e = refl
  none_found (first ∷ rest) e = rw e refl

pub same_first : (first : ℕ) (rest : List ℕ) → begins_with first (first ∷ rest) ≡ true
same_first first rest = grind (arith, nat_tests)

alike : (first : ℕ) (rest word : List ℕ) → bytes_eq (first ∷ rest) word ≡ true → begins_with first word ≡ true
alike first rest word e = subst (λ w. begins_with first w ≡ true) ((bytes_eq-Decides (first ∷ rest) word).0 e) (same_first first rest)

same_kind : (word other : List ℕ) (b : Bool) → begins_with_letter word ≡ b → bytes_eq word other ≡ true → begins_with_letter other ≡ b
same_kind word other b is e = subst (λ w. begins_with_letter w ≡ b) ((bytes_eq-Decides word other).0 e) is

-- a word is among those for its letter, or nowhere
module _ {E : Type 0} (word_of : E → List ℕ) (entries : List E) (table : List (List E)) (by_letter : IsByLetter word_of entries table) where
  abbrev is_it : List ℕ → E → Bool
  is_it word e = bytes_eq word (word_of e)

  sought : (word : List ℕ) → begins_with_letter word ≡ true → list_any (is_it word) (begin_alike word_of entries word) ≡ list_any (is_it word) entries
  sought [] e = absurd (false≢true e)
  sought (first ∷ rest) e = any-filter_same (is_it (first ∷ rest)) (λ x. begins_with first (word_of x)) true (λ x. alike first rest (word_of x)) entries

  nowhere : (word : List ℕ) → begins_with_letter word ≡ false → list_any (is_it word) entries ≡ false
  nowhere word e =
      sym (ap (list_any (is_it word)) by_letter.1)
      ∙ any-filter_same (is_it word) (λ x. begins_with_letter (word_of x)) false (λ x. same_kind word (word_of x) false e) entries

  pub among_by_letter : (word : List ℕ) → list_any (λ e. bytes_eq word (word_of e)) (entries_for table word) ≡ list_any (λ e. bytes_eq word (word_of e)) entries
  among_by_letter word = elim (cases_Bool (begins_with_letter word)) [
    | inl e ↦ ap (list_any (is_it word)) (entries_found word_of entries table by_letter word e) ∙ sought word e
    | inr e ↦ ap (list_any (is_it word)) (none_found word_of entries table by_letter word e) ∙ sym (nowhere word e)
  ]

pub mapped_entries : {E F : Type 0} (f : E → F) (table : List (List E)) (word : List ℕ) → map f (entries_for table word) ≡ entries_for (map (map f) table) word
mapped_entries f table [] = refl
mapped_entries f table (first ∷ rest) = elim (cases_Bool (is_within 97 122 first)) [
  | inl e ↦ rw e (sym (get_or-map (map f) table (first - 97) []))
  | inr e ↦ rw e refl
]
