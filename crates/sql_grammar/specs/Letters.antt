-- Tables with entries for each letter, from `a` to `z`.
use Rattle.std.specs.Prelude.{◌≡◌, ℕ, ◌-◌, Bool, false, nat_eq, List, [], ◌∷◌, map, get_or, if◌then◌else◌}
use Rattle.std.specs.List.{filter, range_with_len}
use Rattle.sql_lex.specs.Bytes.{is_within}

abbrev pub begins_with : ℕ → List ℕ → Bool
begins_with letter [] = false
begins_with letter (first ∷ rest) = nat_eq letter first

-- one of lower case
abbrev pub begins_with_letter : List ℕ → Bool
begins_with_letter [] = false
begins_with_letter (first ∷ rest) = is_within 97 122 first

-- those for the letter that the word begins with, if it begins with one
abbrev pub entries_for : {E : Type 0} → List (List E) → List ℕ → List E
entries_for table [] = []
entries_for table (first ∷ rest) = if is_within 97 122 first then get_or table (first - 97) [] else []

-- The table holds these entries, each for the letter that its word begins with.
abbrev pub IsByLetter : {E : Type 0} → (E → List ℕ) → List E → List (List E) → Type 0
IsByLetter word_of entries table =
    (table ≡ map (λ letter. filter (λ entry. begins_with letter (word_of entry)) entries) (range_with_len 97 26))
    × (filter (λ entry. begins_with_letter (word_of entry)) entries ≡ entries)
