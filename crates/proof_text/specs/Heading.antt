-- The lines in front of the steps of a proof: a few bytes, a number of 32 bits without leading zeros, and a line feed.
use Rattle.std.specs.Prelude.{ℕ, ◌≡◌, ◌<◌, ◌^◌, List, ◌++◌, Option, Some, None}
use Rattle.std.specs.Fmt.{decimal}
use Rattle.u_deriv.specs.StepText.{newline}

abbrev pub numbered_line : List ℕ → ℕ → List ℕ
numbered_line prefix n = prefix ++ (decimal n ++ newline)

-- the text is the line of this number, or of none
abbrev pub IsNumbered : List ℕ → List ℕ → Option ℕ → Type 0
IsNumbered prefix text (Some n) = (text ≡ numbered_line prefix n) × (n < 2 ^ 32)
IsNumbered prefix text None = (n : ℕ) → n < 2 ^ 32 → text ≡ numbered_line prefix n → ⊥
