-- Why a text is refused at a token.
use Rattle.std.specs.Prelude.{ℕ, ◌≡◌, Bool, false, map, if◌then◌else◌, List, Option, Some, None, Result, Ok, Err}
use Rattle.sql_lex.specs.declared.token.LexFault.{LexFault}
use Rattle.sql_lex.specs.declared.token.TokenKind.{TokenKind}
use Rattle.sql_lex.specs.declared.token.TokenKind.TheVariants.{Word, Quoted, Number, Text, Symbol}
use Rattle.sql_lex.specs.Bytes.{folded_byte}
use Rattle.sql_lex.specs.Lexemes.{Lexeme}
use Rattle.sql_grammar.specs.Kinds.{is_left_out}
use Rattle.sql_cursor.specs.declared.fault.ReadFault.{ReadFault}
use Rattle.sql_cursor.specs.declared.fault.ReadFault.TheVariants.{Lex, Unexpected, LeftOut}
use Rattle.sql_cursor.specs.Cursor.{Cursor, next_of}

-- the token is a word that the grammar leaves out
abbrev pub is_left_out_word : TokenKind → List ℕ → Bool
is_left_out_word Word bytes = is_left_out (map folded_byte bytes)
is_left_out_word Quoted bytes = false
is_left_out_word Number bytes = false
is_left_out_word Text bytes = false
is_left_out_word Symbol bytes = false

abbrev pub refusal_at : Lexeme → ReadFault
refusal_at token =
    if is_left_out_word token.kind token.text then LeftOut (map folded_byte token.text) token.start else Unexpected token.start

-- the refusal of what stands next: a token, the end, or a lexical fault
abbrev pub refusal_of : ℕ → Result (Option Lexeme) LexFault → ReadFault
refusal_of end (Ok None) = Unexpected end
refusal_of end (Ok (Some token)) = refusal_at token
refusal_of end (Err fault) = Lex fault

abbrev pub refusal : Cursor → ReadFault
refusal cursor = refusal_of cursor.end (next_of cursor)

abbrev pub IsLeftOut : ReadFault → Type 0
IsLeftOut fault = (word : List ℕ) × (at : ℕ) × (fault ≡ LeftOut word at)
