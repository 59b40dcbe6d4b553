-- What a text holds from a place on, as the lexer finds it, piece by piece. That these are the text's tokens and its first fault is what
-- the contract of `Lexer::new` says.
use Rattle.std.specs.Prelude.{ℕ, zero, suc, ◌+◌, List, [], ◌∷◌, length, take, drop, Some, Result, Ok, Err}
use Rattle.sql_lex.specs.declared.front.Piece.{Piece}
use Rattle.sql_lex.specs.declared.front.Piece.TheVariants as pieces
use Rattle.sql_lex.specs.declared.token.LexCode.{LexCode}
use Rattle.sql_lex.specs.Lexemes.{Lexed, nothing, with_first}
use Rattle.sql_lex.specs.Front.{first_piece}

-- what this piece, and then what stands behind it, holds
abbrev pub with_piece : (ℕ → List ℕ → Lexed) → ℕ → List ℕ → Result Piece LexCode → Lexed
with_piece others at text (Ok (pieces.Gap n)) = others (at + n) (drop n text)
with_piece others at text (Ok (pieces.Lexeme kind n)) =
    with_first (record { kind = kind; text = take n text; start = at }) (others (at + n) (drop n text))
with_piece others at text (Err code) = record { tokens = []; fault = Some (record { code = code; at = at }) }

-- in so many pieces
unfoldable pub lexed_within : ℕ → ℕ → List ℕ → Lexed
lexed_within zero at text = nothing
lexed_within (suc steps) at [] = nothing
lexed_within (suc steps) at (byte ∷ bytes) = with_piece (lexed_within steps) at (byte ∷ bytes) (first_piece (byte ∷ bytes))

-- each piece takes a byte at least
unfoldable pub lexed : ℕ → List ℕ → Lexed
lexed at text = lexed_within (length text) at text
