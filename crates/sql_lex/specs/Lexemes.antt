-- Tokens as contracts see them.
use Rattle.std.specs.Prelude.{ℕ, List, [], ◌∷◌, Option, Some, None}
use Rattle.sql_lex.specs.declared.token.TokenKind.{TokenKind}
use Rattle.sql_lex.specs.declared.token.Token.{Token}
use Rattle.sql_lex.specs.declared.token.LexFault.{LexFault}

-- a token: its kind, its bytes as they are written, and the place of its first byte in the text
pub record Lexeme : Type 0 where
  pub kind : TokenKind
  pub text : List ℕ
  pub start : ℕ

-- a token that lends its bytes, as contracts see it
abbrev pub lexeme_of : Token → Lexeme
lexeme_of token = record { kind = token.kind; text = token.text.now; start = token.start }

-- What a text holds from a place on: tokens in order, up to its end or to its first fault.
pub record Lexed : Type 0 where
  pub tokens : List Lexeme
  pub fault : Option LexFault

-- no token and no fault
abbrev pub nothing : Lexed
nothing = record { tokens = []; fault = None }

abbrev pub with_first : Lexeme → Lexed → Lexed
with_first token lexed = record { tokens = token ∷ lexed.tokens; fault = lexed.fault }

-- no token, and this fault
abbrev pub fault_alone : LexFault → Lexed
fault_alone fault = record { tokens = []; fault = Some fault }
