-- The tokens of a text: it is blanks, comments and tokens in order, each token the longest at its place.
use Rattle.std.specs.Prelude.{ℕ, ◌≡◌, ◌+◌, ◌≤◌, ◌++◌, List, [], ◌∷◌, length, Option, Some, None}
use Rattle.std.specs.List.{concat}
use Rattle.sql_lex.specs.declared.token.TokenKind.{TokenKind}
use Rattle.sql_lex.specs.declared.token.LexCode.{LexCode}
use Rattle.sql_lex.specs.declared.token.LexFault.{LexFault}
use Rattle.sql_lex.specs.Lexemes.{Lexeme}
use Rattle.sql_lex.specs.Classes.{IsToken}
use Rattle.sql_lex.specs.Gaps.{AreGaps, BeginsComment}
use Rattle.sql_lex.specs.Faults.{HasFault}

-- These bytes, before that rest, are a token of the kind: no longer prefix of the text from here is a token of any kind, and no comment
-- and no fault begins here.
pub record IsTokenBefore (kind : TokenKind) (bytes rest : List ℕ) : Type 0 where
  pub is_token : IsToken kind bytes
  pub longest : (other : TokenKind) (longer after : List ℕ) → bytes ++ rest ≡ longer ++ after → IsToken other longer → length longer ≤ length bytes
  pub no_comment : ¬ BeginsComment (bytes ++ rest)
  pub no_fault : (code : LexCode) → ¬ HasFault code (bytes ++ rest)

-- Blanks and comments alone stand in the text before that rest, which begins at this place.
pub record HasGap (at : ℕ) (text rest : List ℕ) (start : ℕ) : Type 0 where
  pub pieces : List (List ℕ)
  pub parts : text ≡ concat pieces ++ rest
  pub are_gaps : AreGaps pieces rest
  pub place : start ≡ at + length (concat pieces)

-- Behind blanks and comments the text ends, or this fault stands.
abbrev pub Ends : ℕ → List ℕ → Option LexFault → Type 0
Ends at text None = (start : ℕ) × HasGap at text [] start
Ends at text (Some fault) = (rest : List ℕ) × HasGap at text rest fault.at × HasFault fault.code rest

-- The text from this place on is blanks, comments and these tokens in order, up to its end, or up to this fault.
abbrev pub Lexes : ℕ → List ℕ → List Lexeme → Option LexFault → Type 0
Lexes at text [] fault = Ends at text fault
Lexes at text (token ∷ tokens) fault =
    (rest : List ℕ) × HasGap at text (token.text ++ rest) token.start × IsTokenBefore token.kind token.text rest
    × Lexes (token.start + length token.text) rest tokens fault

-- ---- whole texts
-- the text is blanks, comments and these tokens in order
abbrev pub TokensOf : List ℕ → List Lexeme → Type 0
TokensOf text tokens = Lexes 0 text tokens None

-- the first fault of the text: behind tokens, blanks and comments alone
abbrev pub IsFirstFault : List ℕ → LexFault → Type 0
IsFirstFault text fault = (tokens : List Lexeme) × Lexes 0 text tokens (Some fault)

-- ---- tokens as slices of their text
-- the token's bytes stand in the text at its start
abbrev pub IsSliceOf : List ℕ → Lexeme → Type 0
IsSliceOf text token = (before after : List ℕ) × (text ≡ before ++ (token.text ++ after)) × (token.start ≡ length before)

-- each token begins where the one before it has ended, or later
abbrev pub AreInOrder : ℕ → List Lexeme → Type 0
AreInOrder at [] = Unit {0}
AreInOrder at (token ∷ tokens) = (at ≤ token.start) × AreInOrder (token.start + length token.text) tokens
