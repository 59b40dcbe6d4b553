-- The kind of a word is found among those for its first letter.
use Rattle.std.proofs.Common.{◌≡◌, ℕ, Bool, true, false, not, cond, List, [], ◌∷◌, ◌++◌, map, bytes_eq, refl, sym, ap, ◌∙◌, inl, inr, if◌then◌else◌}
use Rattle.std.specs.List.{filter, list_any}
use Rattle.std.proofs.lemmas.Bool.{cases_Bool, true≢false, false≢true}
use Rattle.std.proofs.lemmas.Slice.Eq.{bytes_eq-Decides}
use Rattle.sql_lex.specs.Bytes.{folded_byte}
use Rattle.sql_grammar.specs.Kinds as k
use Rattle.sql_grammar.specs.Kinds.{Kind, kind_in, left_out_words, special_kinds, used_kinds, word_kind}
use Rattle.sql_grammar.specs.Letters.{IsByLetter, begins_with, begins_with_letter, entries_for}
use Rattle.sql_grammar.proofs.lists.FirstLetters.{entries_found, mapped_entries, none_found, same_first}
use Rattle.sql_grammar.proofs.lists.KindRows.{Row, folded_rows}

abbrev Entry : Type 0
Entry = List ℕ × Kind

differ : (p : List ℕ → Bool) (a b : List ℕ) → p a ≡ true → p b ≡ false → bytes_eq a b ≡ false
differ p a b pa pb = elim (cases_Bool (bytes_eq a b)) [
  | inl e ↦ absurd (true≢false (sym pa ∙ ap p ((bytes_eq-Decides a b).0 e) ∙ pb))
  | inr e ↦ e
]

differ_too : (p : List ℕ → Bool) (a b : List ℕ) → p a ≡ false → p b ≡ true → bytes_eq a b ≡ false
differ_too p a b pa pb = elim (cases_Bool (bytes_eq a b)) [
  | inl e ↦ absurd (true≢false (sym pb ∙ sym (ap p ((bytes_eq-Decides a b).0 e)) ∙ pa))
  | inr e ↦ e
]

-- ---- a test that the word passes keeps its row, and one that it fails loses it
module _ (p : List ℕ → Bool) (other : Kind) (word : List ℕ) where
  abbrev some : List Entry → List Entry
  some rows = filter (λ (row : Entry). p row.0) rows

  behind : (row : Entry) (rows : List Entry) (b : Bool) → p row.0 ≡ b → kind_in (some (row ∷ rows)) other word ≡ kind_in (cond b (row ∷ some rows) (some rows)) other word
  behind row rows b e = ap (λ t. kind_in (cond t (row ∷ some rows) (some rows)) other word) e

  passed : (row : Entry) (rows : List Entry) → bytes_eq row.0 word ≡ false → kind_in (row ∷ rows) other word ≡ kind_in rows other word
  passed row rows e = ap (λ b. if b then row.1 else kind_in rows other word) e

  kept : p word ≡ true → (rows : List Entry) → kind_in (some rows) other word ≡ kind_in rows other word
  kept e [] = refl
  kept e (row ∷ rows) = elim (cases_Bool (p row.0)) [
    | inl holds ↦ behind row rows true holds ∙ ap (λ kind. if bytes_eq row.0 word then row.1 else kind) (kept e rows)
    | inr fails ↦ behind row rows false fails ∙ kept e rows ∙ sym (passed row rows (differ_too p row.0 word fails e))
  ]

  lost : p word ≡ false → (rows : List Entry) → kind_in (some rows) other word ≡ other
  lost e [] = refl
  lost e (row ∷ rows) = elim (cases_Bool (p row.0)) [
    | inl holds ↦ behind row rows true holds ∙ passed row (some rows) (differ p row.0 word holds e) ∙ lost e rows
    | inr fails ↦ behind row rows false fails ∙ lost e rows
  ]

-- ---- by first letters
module _ (rows : List Entry) (table : List (List Entry)) (by_letter : IsByLetter (λ (row : Entry). row.0) rows table) (other : Kind) where
  kept_for : (word : List ℕ) → begins_with_letter word ≡ true → kind_in (entries_for table word) other word ≡ kind_in rows other word
  kept_for [] e = absurd (false≢true e)
  kept_for (first ∷ rest) e =
      ap (λ some. kind_in some other (first ∷ rest)) (entries_found (λ (row : Entry). row.0) rows table by_letter (first ∷ rest) e)
      ∙ kept (begins_with first) other (first ∷ rest) (same_first first rest) rows

  lost_for : (word : List ℕ) → begins_with_letter word ≡ false → kind_in (entries_for table word) other word ≡ kind_in rows other word
  lost_for word e =
      ap (λ some. kind_in some other word) (none_found (λ (row : Entry). row.0) rows table by_letter word e)
      ∙ sym (lost begins_with_letter other word e rows)
      ∙ ap (λ some. kind_in some other word) by_letter.1

  found : (word : List ℕ) → kind_in (entries_for table word) other word ≡ kind_in rows other word
  found word = elim (cases_Bool (begins_with_letter word)) [
    | inl e ↦ kept_for word e
    | inr e ↦ lost_for word e
  ]

-- ---- words that have a kind of their own
abbrev known : Kind → List ℕ → Kind
known other word = kind_in (used_kinds ++ special_kinds) other word

behind_used : (rows more : List Entry) (other : Kind) (word : List ℕ) → kind_in (rows ++ more) other word ≡ kind_in rows (kind_in more other word) word
behind_used [] more other word = refl
behind_used (row ∷ rows) more other word = ap (λ kind. if bytes_eq row.0 word then row.1 else kind) (behind_used rows more other word)

abbrev pub is_never_used : List ℕ → Bool
is_never_used word = list_any (bytes_eq word) left_out_words

-- no special word is left out
not_special : (word : List ℕ) (other : Kind) → is_never_used word ≡ true → kind_in special_kinds other word ≡ other
not_special word other e = lost (λ w. not (is_never_used w)) other word (ap not e) special_kinds

by_never_used : (word : List ℕ) (never : Bool) → is_never_used word ≡ never
    → (if never then k.LeftOut else kind_in special_kinds k.Word word) ≡ kind_in special_kinds (if never then k.LeftOut else k.Word) word
by_never_used word true e = sym (not_special word k.LeftOut e)
by_never_used word false e = refl

word_kind-known : (word : List ℕ) → word_kind word ≡ known (if is_never_used word then k.LeftOut else k.Word) word
word_kind-known word =
    ap (λ kind. kind_in used_kinds kind word) (by_never_used word (is_never_used word) refl)
    ∙ sym (behind_used used_kinds special_kinds (if is_never_used word then k.LeftOut else k.Word) word)

-- ---- what a search of a table by first letters finds
by_table : (table : List (List Row)) (rows : List Row) (text : List ℕ) (other : Kind) → rows ≡ entries_for table (map folded_byte text) → IsByLetter (λ (row : Entry). row.0) (used_kinds ++ special_kinds) (map folded_rows table)
    → kind_in (folded_rows rows) other (map folded_byte text) ≡ known other (map folded_byte text)
by_table table rows text other e by_letter =
    ap (λ some. kind_in (folded_rows some) other (map folded_byte text)) e
    ∙ ap (λ some. kind_in some other (map folded_byte text)) (mapped_entries (λ (row : Row). (map folded_byte row.0.now, row.1)) table (map folded_byte text))
    ∙ found (used_kinds ++ special_kinds) (map folded_rows table) by_letter other (map folded_byte text)

pub word_kind-by_table : (table : List (List Row)) (rows : List Row) (text : List ℕ) → rows ≡ entries_for table (map folded_byte text) → IsByLetter (λ (row : Entry). row.0) (used_kinds ++ special_kinds) (map folded_rows table)
    → word_kind (map folded_byte text) ≡ kind_in (folded_rows rows) (if is_never_used (map folded_byte text) then k.LeftOut else k.Word) (map folded_byte text)
word_kind-by_table table rows text e by_letter = word_kind-known (map folded_byte text) ∙ sym (by_table table rows text _ e by_letter)
