-- Rows, and lists of rows that are read as bags. A domain is a number n of at least 1, its values are the numbers below n, and a row is
-- a list of values (SQL, ISO/IEC 9075-1, 4.2 and 4.3: tables are multisets of rows).
use Rattle.std.specs.Prelude.{ℕ, ◌+◌, ◌≡◌, ◌<◌, nat_eq, Bool, true, false, not, ◌&&◌, ◌||◌, List, [], ◌∷◌, filter, length, map}
use Rattle.std.specs.List.{flat_map}
use Rattle.data_model.specs.Lists.{Each}
use Rattle.data_model.specs.Numbers.{one_if}

abbrev pub Row : Type 0
Row = List ℕ

abbrev pub AllBelow : ℕ → Row → Type 0
AllBelow n = Each (λ v. v < n)

-- a row of this width over the domain of n values
pub record IsRow (n width : ℕ) (row : Row) : Type 0 where
  pub long : length row ≡ width
  pub small : AllBelow n row

abbrev pub same_row : Row → Row → Bool
same_row [] [] = true
same_row [] (y ∷ ys) = false
same_row (x ∷ xs) [] = false
same_row (x ∷ xs) (y ∷ ys) = nat_eq x y && same_row xs ys

-- how often a row occurs
abbrev pub occurrences : Row → List Row → ℕ
occurrences r [] = 0
occurrences r (s ∷ rows) = one_if (same_row s r) + occurrences r rows

abbrev pub is_among : Row → List Row → Bool
is_among r [] = false
is_among r (s ∷ rows) = same_row s r || is_among r rows

-- the first occurrence of each row, in order
abbrev pub distinct : List Row → List Row
distinct [] = []
distinct (r ∷ rows) = r ∷ filter (λ s. not (same_row r s)) (distinct rows)

-- one member of each list, in every way; the last list changes first
abbrev pub product : {X : Type 0} → List (List X) → List (List X)
product [] = [] ∷ []
product (choices ∷ rest) = flat_map (λ choice. map (λ others. choice ∷ others) (product rest)) choices
