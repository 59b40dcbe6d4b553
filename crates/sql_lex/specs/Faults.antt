-- The faults that may stand at a place of a text where a token, a blank or a comment should begin. Each is at its first byte.
use Rattle.std.specs.Prelude.{ℕ, ◌≡◌, ◌≢◌, ◌≤◌, ◌++◌, Bool, false, ◌||◌, nat_eq, List, [], ◌∷◌, length, IsTrue, ◌⊎◌, codes}
use Rattle.sql_lex.specs.declared.token.LexCode.{LexCode}
use Rattle.sql_lex.specs.declared.token.LexCode.TheVariants.{BadByte, OpenString, OpenComment, OpenName, BadNumber}
use Rattle.sql_lex.specs.declared.token.TokenKind.{TokenKind}
use Rattle.sql_lex.specs.Bytes.{begins_word, is_blank, quote, double_quote, point}
use Rattle.sql_lex.specs.Classes.{IsToken, IsNumber, doubled}
use Rattle.sql_lex.specs.Gaps.{Occurs}

-- no prefix of the text is a token
abbrev pub NoToken : List ℕ → Type 0
NoToken text = (kind : TokenKind) (bytes rest : List ℕ) → text ≡ bytes ++ rest → IsToken kind bytes → ⊥

-- a byte that begins no token, blank or comment (`--` and `/*` begin with a symbol)
abbrev pub HasBadByte : List ℕ → Type 0
HasBadByte [] = ⊥
HasBadByte (byte ∷ rest) = (is_blank byte ≡ false) × (byte ≢ quote) × (byte ≢ double_quote) × NoToken (byte ∷ rest)

-- From here to its end the text is a mark and bytes in which a mark is doubled: what the first mark begins does not end.
abbrev pub IsOpen : ℕ → List ℕ → Type 0
IsOpen mark text = (inside : List ℕ) × (text ≡ mark ∷ doubled mark inside)

-- a comment that does not end
abbrev pub HasOpenComment : List ℕ → Type 0
HasOpenComment text = (inside : List ℕ) × (text ≡ codes "/*" ++ inside) × ¬ Occurs (codes "*/") inside

-- two marks with nothing between them, and no third
abbrev pub HasEmptyName : List ℕ → Type 0
HasEmptyName text = (rest : List ℕ) × (text ≡ double_quote ∷ double_quote ∷ rest) × ((after : List ℕ) → rest ≢ double_quote ∷ after)

-- a letter, `_` or a point stands next
abbrev pub spoils_number : ℕ → Bool
spoils_number byte = begins_word byte || nat_eq byte point

-- the longest number that stands here, directly followed by a letter, `_` or a point
pub record HasBadNumber (text : List ℕ) : Type 0 where
  pub number : List ℕ
  pub next : ℕ
  pub rest : List ℕ
  pub parts : text ≡ number ++ next ∷ rest
  pub is_number : IsNumber number
  pub longest : (longer after : List ℕ) → text ≡ longer ++ after → IsNumber longer → length longer ≤ length number
  pub spoiled : IsTrue (spoils_number next)

abbrev pub HasFault : LexCode → List ℕ → Type 0
HasFault BadByte = HasBadByte
HasFault OpenString = IsOpen quote
HasFault OpenComment = HasOpenComment
HasFault OpenName = λ text. IsOpen double_quote text ⊎ HasEmptyName text
HasFault BadNumber = HasBadNumber
