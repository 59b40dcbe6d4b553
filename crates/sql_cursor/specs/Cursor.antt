-- What contracts see of `Tokens`.
use Rattle.std.specs.Prelude.{ℕ, ◌≡◌, ◌+◌, ◌≤◌, ◌<◌, ◌^◌, All, List, [], ◌∷◌, length, drop, Option, Some, None, Result, Ok, Err}
use Rattle.sql_model.specs.declared.symbols.Symbols.{Symbols}
use Rattle.sql_lex.specs.declared.token.Token.{Token}
use Rattle.sql_lex.specs.declared.token.LexFault.{LexFault}
use Rattle.sql_lex.specs.Lexemes.{Lexeme, Lexed, lexeme_of, nothing, with_first, fault_alone}
use Rattle.sql_grammar.specs.declared.kinds.Kind.{Kind}
use Rattle.sql_grammar.specs.Kinds.{kind_of}
use Rattle.sql_grammar.specs.Numbering.{Numbers}
use Rattle.sql_grammar.specs.QueryCopies.{most_copies}

abbrev pub numbers_of : Symbols → Numbers
numbers_of symbols = record { literals = symbols.lits.keys; symbols = symbols.syms.keys }

pub record Cursor : Type 0 where
  -- the tokens that are still to come, up to the end of the text or the fault that stands behind them
  pub tokens : List Lexeme
  pub fault : Option LexFault
  -- the place of the end of the text
  pub end : ℕ
  -- the literals and symbols that have numbers
  pub numbers : Numbers
  -- the weight of the values copied so far
  pub copies : ℕ
  -- how many tokens were passed
  pub passed : ℕ

-- behind the next token
abbrev pub behind_next : Cursor → Cursor
behind_next cursor = record cursor { tokens = drop 1 cursor.tokens; passed = cursor.passed + 1 }

-- ---- what stands next
abbrev pub next : List Lexeme → Option LexFault → Result (Option Lexeme) LexFault
next (token ∷ tokens) fault = Ok (Some token)
next [] None = Ok None
next [] (Some fault) = Err fault

-- a token, the end, or a fault
abbrev pub next_of : Cursor → Result (Option Lexeme) LexFault
next_of cursor = next cursor.tokens cursor.fault

-- the token that stands next, where it is no fault
abbrev pub first : List Lexeme → Option Lexeme
first (token ∷ tokens) = Some token
first [] = None

abbrev pub lexeme_ahead : Option (Token × Kind) → Option Lexeme
lexeme_ahead None = None
lexeme_ahead (Some ahead) = Some (lexeme_of ahead.0)

-- a token that is lent, as contracts see it
abbrev pub lent : Result (Option Token) LexFault → Result (Option Lexeme) LexFault
lent (Ok None) = Ok None
lent (Ok (Some token)) = Ok (Some (lexeme_of token))
lent (Err fault) = Err fault

-- ---- the fields
-- what is still to come where this was taken from the lexer
abbrev pub to_come : Option (Result Token LexFault) → Lexed → Lexed
to_come None lexer = nothing
to_come (Some (Ok token)) lexer = with_first (lexeme_of token) lexer
to_come (Some (Err fault)) lexer = fault_alone fault

-- the bytes of a text
abbrev pub most_bytes : ℕ
most_bytes = 1048576

-- each token has a byte
abbrev pub most_tokens : ℕ
most_tokens = most_bytes

-- the kind of the token that stands next, where one does
abbrev pub IsKindOf : Option (Result Token LexFault) → Kind → Type 0
IsKindOf (Some (Ok token)) kind = kind ≡ kind_of (lexeme_of token)
IsKindOf (Some (Err fault)) kind = Unit {0}
IsKindOf None kind = Unit {0}

-- what is true of the fields: the kind is that of the next token, places fit their type, and so do the counts
pub record IsSound (next : Option (Result Token LexFault)) (kind : Kind) (lexer : Lexed) (copies passed : ℕ) : Type 0 where
  pub kept : IsKindOf next kind
  pub places : All (λ token. token.start < 2 ^ 32) (to_come next lexer).tokens
  pub counted : passed + length (to_come next lexer).tokens ≤ most_tokens
  pub copied : copies ≤ most_copies
