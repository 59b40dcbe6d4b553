-- A word is reserved where it is one of those that the grammar uses or leaves out, and nowhere else.
use Rattle.std.proofs.Common.{◌≡◌, ℕ, Bool, true, false, not, ◌||◌, List, [], ◌∷◌, bytes_eq, refl, ap, ◌∙◌, if◌then◌else◌}
use Rattle.std.specs.List.{list_all, list_any}
use Rattle.std.proofs.lemmas.Bool.{or_right}
use Rattle.grammar.proofs.languages.Sets.{and_left, and_right}
use Rattle.sql_grammar.specs.Kinds as k
use Rattle.sql_grammar.specs.Kinds.{Kind, among, is_reserved, kind_in, left_out_words, name_kinds, special_kinds, used_kinds}

abbrev Entry : Type 0
Entry = List ℕ × Kind

abbrev holds : List Entry → List ℕ → Bool
holds rows word = list_any (λ (row : Entry). bytes_eq row.0 word) rows

-- ---- a test that the kind of each row passes is passed where a row is found, or else where the other kind passes it
module _ (p : Kind → Bool) (other : Kind) (word : List ℕ) where
  abbrev all_pass : List Entry → Bool
  all_pass rows = list_all (λ (row : Entry). p row.1) rows

  by_row : (row : Entry) (rows : List Entry) (same : Bool) → p row.1 ≡ true → p (kind_in rows other word) ≡ (holds rows word || p other)
      → p (if same then row.1 else kind_in rows other word) ≡ ((same || holds rows word) || p other)
  by_row row rows true here behind = here
  by_row row rows false here behind = behind

  passes : (rows : List Entry) → all_pass rows ≡ true → p (kind_in rows other word) ≡ (holds rows word || p other)
  passes [] e = refl
  passes (row ∷ rows) e = by_row row rows (bytes_eq row.0 word) (and_left (p row.1) (all_pass rows) e) (passes rows (and_right (p row.1) (all_pass rows) e))

-- ---- the kind of a word
special_names : (word : List ℕ) → among name_kinds (kind_in special_kinds k.Word word) ≡ true
special_names word = passes (among name_kinds) k.Word word special_kinds refl ∙ or_right (holds special_kinds word) (among name_kinds k.Word) refl

behind_used : (word : List ℕ) (never : Bool) → not (among name_kinds (if never then k.LeftOut else kind_in special_kinds k.Word word)) ≡ never
behind_used word true = refl
behind_used word false = ap not (special_names word)

pub reserved_words : (word : List ℕ) → is_reserved word ≡ (holds used_kinds word || list_any (bytes_eq word) left_out_words)
reserved_words word =
    passes (λ kind. not (among name_kinds kind)) (if list_any (bytes_eq word) left_out_words then k.LeftOut else kind_in special_kinds k.Word word) word used_kinds refl
    ∙ ap (λ never. holds used_kinds word || never) (behind_used word (list_any (bytes_eq word) left_out_words))
