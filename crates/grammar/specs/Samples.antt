-- A small grammar that computes: sums of digits and of sums in parentheses, within the limits with at most two pluses in a row.
use Rattle.std.specs.Prelude.{◌≡◌, ℕ, ◌+◌, ◌==◌, List, [], ◌∷◌, Some, None, sum, refl}
use Rattle.grammar.specs.Form.{Form, Room, Rules, token, alt, nest, map, ref}
use Rattle.grammar.specs.Parses.{name_parses, whole_values}
use Rattle.grammar.specs.Productions.{separated, skip_then, then_skip}

pub data Sign : Type 0 where
  Digit : ℕ → Sign
  Plus : Sign
  Open : Sign
  Close : Sign

pub data Name : Type 0 where
  total : Name
  part : Name

abbrev pub Number : Name → Type 0
Number n = ℕ

-- digits are of kind 0
abbrev pub kind : Sign → ℕ
kind (Digit n) = 0
kind Plus = 1
kind Open = 2
kind Close = 3

abbrev pub digit : Sign → ℕ
digit (Digit n) = n
digit s = 0

abbrev pub sign : ℕ → Form Sign ℕ Name Number Sign
sign k = token (λ j. j == k)

-- total := part {+ part}, part := digit | ( total )
abbrev pub rules : Rules Sign ℕ Name Number
rules total = map (λ p. p.0 + sum p.1) (separated (Some 2) (sign 1) (ref part))
rules part = alt (map digit (sign 0)) (nest (skip_then (sign 2) (then_skip (ref total) (sign 3))))

-- the totals that a list spells, as far as eight names deep
abbrev pub totals : Room → List Sign → List ℕ
totals room ts = whole_values (name_parses kind rules 8 room total ts)

-- 1 + (2 + 3)
pub in_parentheses : totals None (Digit 1 ∷ Plus ∷ Open ∷ Digit 2 ∷ Plus ∷ Digit 3 ∷ Close ∷ []) ≡ 6 ∷ []
in_parentheses = refl

-- ((4)) opens two levels
pub two_levels : totals (Some 2) (Open ∷ Open ∷ Digit 4 ∷ Close ∷ Close ∷ []) ≡ 4 ∷ []
two_levels = refl

pub one_level : totals (Some 1) (Open ∷ Open ∷ Digit 4 ∷ Close ∷ Close ∷ []) ≡ []
one_level = refl

-- 1 + 1 + 1 has two pluses, 1 + 1 + 1 + 1 one too many
pub two_pluses : totals (Some 0) (Digit 1 ∷ Plus ∷ Digit 1 ∷ Plus ∷ Digit 1 ∷ []) ≡ 3 ∷ []
two_pluses = refl

pub three_pluses : totals (Some 0) (Digit 1 ∷ Plus ∷ Digit 1 ∷ Plus ∷ Digit 1 ∷ Plus ∷ Digit 1 ∷ []) ≡ []
three_pluses = refl

pub unlimited_pluses : totals None (Digit 1 ∷ Plus ∷ Digit 1 ∷ Plus ∷ Digit 1 ∷ Plus ∷ Digit 1 ∷ []) ≡ 4 ∷ []
unlimited_pluses = refl

-- a plus at the end, and nothing
pub no_part : totals None (Digit 1 ∷ Plus ∷ []) ≡ []
no_part = refl

pub no_tokens : totals None [] ≡ []
no_tokens = refl
