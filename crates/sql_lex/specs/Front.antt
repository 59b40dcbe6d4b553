-- The piece at the front of a text, found from its first bytes on; cited by private contracts alone.
use Rattle.std.specs.Prelude.{ℕ, ◌+◌, Bool, false, ◌&&◌, ◌||◌, not, nat_eq, nat_le, if◌then◌else◌, List, [], ◌∷◌, drop, Option, Some, None, Result, Ok, Err}
use Rattle.std.specs.List.{prefix_len}
use Rattle.sql_lex.specs.declared.front.Piece.{Piece}
use Rattle.sql_lex.specs.declared.front.Piece.TheVariants.{Gap, Lexeme}
use Rattle.sql_lex.specs.declared.token.TokenKind.TheVariants.{Word, Quoted, Number, Text, Symbol}
use Rattle.sql_lex.specs.declared.token.LexCode.{LexCode}
use Rattle.sql_lex.specs.declared.token.LexCode.TheVariants.{BadByte, OpenString, OpenComment, OpenName, BadNumber}
use Rattle.sql_lex.specs.Bytes.{begins_word, goes_on_word, is_blank, is_digit, quote, double_quote, point}
use Rattle.sql_lex.specs.Classes.{is_single, is_pair}
use Rattle.sql_lex.specs.Gaps.{is_in_line}
use Rattle.sql_lex.specs.Faults.{spoils_number}

-- one more byte
abbrev pub one_more : Option ℕ → Option ℕ
one_more None = None
one_more (Some n) = Some (1 + n)

-- the first byte passes the test
abbrev pub first_passes : (ℕ → Bool) → List ℕ → Bool
first_passes test [] = false
first_passes test (byte ∷ rest) = test byte

-- How many bytes there are up to the end of what a mark began: the first mark that is not doubled. A mark may have been just before.
abbrev pub end_len : ℕ → Bool → List ℕ → Option ℕ
end_len mark marked [] = if marked then Some 0 else None
end_len mark marked (byte ∷ rest) =
    if nat_eq byte mark then one_more (end_len mark (not marked) rest)
    else (if marked then Some 0 else one_more (end_len mark false rest))

-- How many bytes there are up to the end of a comment. A star may have been just before.
abbrev pub close_len : Bool → List ℕ → Option ℕ
close_len star [] = None
close_len star (byte ∷ rest) = if star && nat_eq byte 47 then Some 1 else one_more (close_len (nat_eq byte 42) rest)

-- a point and digits, or nothing
abbrev pub fraction_len : List ℕ → ℕ
fraction_len [] = 0
fraction_len (byte ∷ rest) = if nat_eq byte point then 1 + prefix_len is_digit rest else 0

abbrev pub number_len : List ℕ → ℕ
number_len text = prefix_len is_digit text + fraction_len (drop (prefix_len is_digit text) text)

-- ---- pieces
abbrev pub number_piece : List ℕ → Result Piece LexCode
number_piece text = if first_passes spoils_number (drop (number_len text) text) then Err BadNumber else Ok (Lexeme Number (number_len text))

-- what stands behind a quote
abbrev pub text_piece : Option ℕ → Result Piece LexCode
text_piece None = Err OpenString
text_piece (Some n) = Ok (Lexeme Text (1 + n))

-- what stands behind a double quote
abbrev pub name_piece : Option ℕ → Result Piece LexCode
name_piece None = Err OpenName
name_piece (Some n) = if nat_le n 1 then Err OpenName else Ok (Lexeme Quoted (1 + n))

-- what stands behind `/*`
abbrev pub comment_piece : Option ℕ → Result Piece LexCode
comment_piece None = Err OpenComment
comment_piece (Some n) = Ok (Gap (2 + n))

abbrev pub symbol_piece : ℕ → List ℕ → Result Piece LexCode
symbol_piece first rest =
    if first_passes (is_pair first) rest then Ok (Lexeme Symbol 2)
    else (if is_single first then Ok (Lexeme Symbol 1) else Err BadByte)

abbrev pub begins_number : ℕ → List ℕ → Bool
begins_number first rest = is_digit first || nat_eq first point && first_passes is_digit rest

abbrev pub marked_piece : ℕ → List ℕ → Result Piece LexCode
marked_piece first rest =
    if nat_eq first quote then text_piece (end_len quote false rest)
    else (if nat_eq first double_quote then name_piece (end_len double_quote false rest)
    else (if nat_eq first 45 && first_passes (nat_eq 45) rest then Ok (Gap (2 + prefix_len is_in_line (drop 1 rest)))
    else (if nat_eq first 47 && first_passes (nat_eq 42) rest then comment_piece (close_len false (drop 1 rest))
    else symbol_piece first rest)))

unfoldable pub first_piece : List ℕ → Result Piece LexCode
first_piece [] = Ok (Gap 0)
first_piece (first ∷ rest) =
    if is_blank first then Ok (Gap 1)
    else (if begins_word first then Ok (Lexeme Word (1 + prefix_len goes_on_word rest))
    else (if begins_number first rest then number_piece (first ∷ rest)
    else marked_piece first rest))
