-- The classes of tokens (SQL, ISO/IEC 9075-2, 5.2 to 5.4), each by the bytes of a token as they are written.
use Rattle.std.specs.Prelude.{ℕ, ◌≡◌, ◌≢◌, ◌++◌, Bool, nat_eq, if◌then◌else◌, List, [], ◌∷◌, IsTrue, ◌⊎◌, bytes_eq, codes}
use Rattle.std.specs.List.{list_all, list_any}
use Rattle.sql_lex.specs.declared.token.TokenKind.{TokenKind}
use Rattle.sql_lex.specs.declared.token.TokenKind.TheVariants.{Word, Quoted, Number, Text, Symbol}
use Rattle.sql_lex.specs.Bytes.{begins_word, goes_on_word, is_digit, quote, double_quote, point}

-- a letter or `_`, then letters, digits and `_`
abbrev pub IsWord : List ℕ → Type 0
IsWord [] = ⊥
IsWord (first ∷ rest) = IsTrue (begins_word first) × IsTrue (list_all goes_on_word rest)

-- these bytes, with each one that is the mark written twice
abbrev pub doubled : ℕ → List ℕ → List ℕ
doubled mark [] = []
doubled mark (byte ∷ bytes) = if nat_eq byte mark then mark ∷ mark ∷ doubled mark bytes else byte ∷ doubled mark bytes

-- The bytes between two marks, in which a mark is doubled. What stands inside is the value of the token.
abbrev pub between : ℕ → List ℕ → List ℕ
between mark inside = mark ∷ (doubled mark inside ++ mark ∷ [])

-- a name in `"`, which is not empty
abbrev pub IsQuoted : List ℕ → Type 0
IsQuoted bytes = (inside : List ℕ) × (inside ≢ []) × (bytes ≡ between double_quote inside)

-- a text in `'`
abbrev pub IsText : List ℕ → Type 0
IsText bytes = (inside : List ℕ) × (bytes ≡ between quote inside)

-- one or more digits
abbrev pub AreDigits : List ℕ → Type 0
AreDigits [] = ⊥
AreDigits (first ∷ rest) = IsTrue (is_digit first) × IsTrue (list_all is_digit rest)

-- digits, a point, and digits, of which there may be none
abbrev pub HasWholePart : List ℕ → Type 0
HasWholePart bytes = (whole part : List ℕ) × (bytes ≡ whole ++ point ∷ part) × AreDigits whole × IsTrue (list_all is_digit part)

-- a point and one or more digits
abbrev pub HasPartAlone : List ℕ → Type 0
HasPartAlone bytes = (part : List ℕ) × (bytes ≡ point ∷ part) × AreDigits part

abbrev pub IsNumber : List ℕ → Type 0
IsNumber bytes = AreDigits bytes ⊎ (HasWholePart bytes ⊎ HasPartAlone bytes)

-- the symbols of one byte
abbrev pub is_single : ℕ → Bool
is_single byte = list_any (nat_eq byte) (codes "(),;.*=<>+-/")

-- the symbols of two bytes; `!=` is `<>`
abbrev pub is_pair : ℕ → ℕ → Bool
is_pair first second = list_any (bytes_eq (first ∷ second ∷ [])) (codes "<>" ∷ codes "!=" ∷ codes "<=" ∷ codes ">=" ∷ codes "||" ∷ [])

abbrev pub IsSymbol : List ℕ → Type 0
IsSymbol [] = ⊥
IsSymbol (byte ∷ []) = IsTrue (is_single byte)
IsSymbol (first ∷ second ∷ []) = IsTrue (is_pair first second)
IsSymbol (first ∷ second ∷ third ∷ rest) = ⊥

abbrev pub IsToken : TokenKind → List ℕ → Type 0
IsToken Word = IsWord
IsToken Quoted = IsQuoted
IsToken Number = IsNumber
IsToken Text = IsText
IsToken Symbol = IsSymbol
