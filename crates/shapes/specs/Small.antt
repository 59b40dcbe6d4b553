-- The size up to which a proof is promised.
use Rattle.std.specs.Prelude.{ℕ, ◌+◌, ◌≤◌, List, [], ◌∷◌, length}
use Rattle.shapes.specs.Shapes.{Mark, MarkIn, Entry, Shape}

abbrev pub columns_of : List Entry → ℕ
columns_of [] = 0
columns_of (entry ∷ entries) = entry.columns + columns_of entries

-- equalities and marks together
abbrev pub facts_of : Shape → ℕ
facts_of s = length s.equalities + length s.marks

-- a block of at most so many entries
pub record SmallBlock (entries : ℕ) (s : Shape) : Type 0 where
  pub few_entries : length s.entries ≤ entries
  pub few_columns : columns_of s.entries ≤ 48
  pub few_facts : facts_of s ≤ 16
  pub few_points : (m : Mark) → MarkIn m s.marks → length m.points ≤ 4
  pub few_outputs : length s.outputs ≤ 16

abbrev pub AllSmall : ℕ → List Shape → Type 0
AllSmall entries [] = Unit {0}
AllSmall entries (s ∷ ss) = SmallBlock entries s × AllSmall entries ss

abbrev pub all_columns : List Shape → ℕ
all_columns [] = 0
all_columns (s ∷ ss) = columns_of s.entries + all_columns ss

abbrev pub all_facts : List Shape → ℕ
all_facts [] = 0
all_facts (s ∷ ss) = facts_of s + all_facts ss

-- a query of these blocks
pub record SmallQuery (entries : ℕ) (blocks : List Shape) : Type 0 where
  pub few_blocks : length blocks ≤ 64
  pub each : AllSmall entries blocks
  pub columns : all_columns blocks ≤ 768
  pub facts : all_facts blocks ≤ 192

-- of a filtered block, and of one under DISTINCT
abbrev pub most_entries : ℕ
most_entries = 9

abbrev pub most_distinct_entries : ℕ
most_distinct_entries = 7

abbrev pub Small : List Shape → List Shape → Type 0
Small left right = SmallQuery most_entries left × SmallQuery most_entries right

abbrev pub SmallDistinct : Shape → Shape → Type 0
SmallDistinct left right = SmallQuery most_distinct_entries (left ∷ []) × SmallQuery most_distinct_entries (right ∷ [])
