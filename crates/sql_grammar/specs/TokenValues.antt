-- What single tokens stand for: names, numbers and texts.
use Rattle.std.specs.Prelude.{ℕ, ◌==◌, if◌then◌else◌, List, [], ◌∷◌, ◌++◌, map}
use Rattle.sql_lex.specs.declared.token.TokenKind.{TokenKind}
use Rattle.sql_lex.specs.declared.token.TokenKind.TheVariants as token
use Rattle.sql_lex.specs.Bytes.{folded_byte, point}
use Rattle.sql_lex.specs.Lexemes.{Lexeme}
use Rattle.sql_model.specs.Syntax.{Name}

-- the bytes before the last one, with each doubled mark once
abbrev pub undoubled : ℕ → List ℕ → List ℕ
undoubled mark [] = []
undoubled mark (byte ∷ []) = []
undoubled mark (byte ∷ next ∷ bytes) = if byte == mark then byte ∷ undoubled mark bytes else byte ∷ undoubled mark (next ∷ bytes)

-- what stands between two marks
abbrev pub inside : List ℕ → List ℕ
inside [] = []
inside (mark ∷ bytes) = undoubled mark bytes

-- An unreserved word is folded, a quoted name stands for what is inside.
abbrev pub name_of : Lexeme → Name
name_of lexeme = by_class lexeme.kind
  where
    by_class : TokenKind → Name
    by_class token.Quoted = inside lexeme.text
    by_class other = map folded_byte lexeme.text

-- ---- numbers

abbrev zero_digit : ℕ
zero_digit = 48

abbrev pub before_point : List ℕ → List ℕ
before_point [] = []
before_point (byte ∷ bytes) = if byte == point then [] else byte ∷ before_point bytes

abbrev pub after_point : List ℕ → List ℕ
after_point [] = []
after_point (byte ∷ bytes) = if byte == point then bytes else after_point bytes

abbrev pub without_leading_zeros : List ℕ → List ℕ
without_leading_zeros [] = []
without_leading_zeros (byte ∷ bytes) = if byte == zero_digit then without_leading_zeros bytes else byte ∷ bytes

-- a digit before digits that have lost their last zeros
abbrev before_trimmed : ℕ → List ℕ → List ℕ
before_trimmed byte [] = if byte == zero_digit then [] else byte ∷ []
before_trimmed byte (next ∷ bytes) = byte ∷ next ∷ bytes

abbrev pub without_trailing_zeros : List ℕ → List ℕ
without_trailing_zeros [] = []
without_trailing_zeros (byte ∷ bytes) = before_trimmed byte (without_trailing_zeros bytes)

abbrev pub or_zero : List ℕ → List ℕ
or_zero [] = zero_digit ∷ []
or_zero (byte ∷ bytes) = byte ∷ bytes

abbrev pub with_fraction : List ℕ → List ℕ
with_fraction [] = []
with_fraction (byte ∷ bytes) = point ∷ byte ∷ bytes

-- The integer part loses leading zeros, and is `0` where nothing is left; the fraction loses trailing zeros, and goes with its point where
-- it is empty.
abbrev pub normalised : List ℕ → List ℕ
normalised text = or_zero (without_leading_zeros (before_point text)) ++ with_fraction (without_trailing_zeros (after_point text))
