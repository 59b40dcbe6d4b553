-- Why a text spells no case, and where: at the first of its tokens with which no text goes on, at its end, at its first lexical
-- fault, or where it has not two queries.
use Rattle.std.specs.Prelude.{◌≡◌, ℕ, List, ◌∷◌, ◌++◌, ◌⊎◌, length, true, Option, None}
use Rattle.grammar.specs.Language.{Language}
use Rattle.grammar.specs.Limits.{KeepsWithin}
use Rattle.grammar.specs.Reading.{IsLongestPrefix}
use Rattle.sql_lex.specs.declared.token.LexFault.{LexFault}
use Rattle.sql_lex.specs.Lexemes.{Lexeme}
use Rattle.sql_lex.specs.Tokens.{Lexes}
use Rattle.sql_cursor.specs.declared.fault.ReadFault.{ReadFault}
use Rattle.sql_cursor.specs.declared.fault.ReadFault.TheVariants as read_refusal
use Rattle.sql_cursor.specs.Cursor.{next}
use Rattle.sql_grammar.specs.Kinds.{among, kind_of}
use Rattle.sql_grammar.specs.Numbering.{Built}
use Rattle.sql_read.specs.ReadingTexts.{Passes, PassesDepth, TextLimit, count_limit, keeping}
use Rattle.sql_cursor.specs.Refusals.{refusal_of}
use Rattle.schema_read.specs.StatementGrammar.{statements}
use Rattle.sql_grammar.specs.Queries.{of_form}
use Rattle.case_core.specs.declared.fault.CaseFault.{CaseFault}
use Rattle.case_core.specs.declared.fault.CaseFault.TheVariants.{Read, Schema, Scope, QueriesDiffer, NotTwoQueries, NoMemory}
use Rattle.case_core.specs.declared.text.CaseText.{CaseText}
use Rattle.case_core.specs.CaseGrammar.{one_query, query_kinds}
use Rattle.case_core.specs.Cases.{cases, texts}

-- A text is given by its tokens up to its end or to its first lexical fault, with that fault and the place of the end. What was copied before it
-- counts too, and is nothing before a whole text.

-- ---- texts that have not two queries

-- the text ends behind this part, which is whole
pub record EndsBehind {V : Type 0} (part : Language Lexeme V) (tokens : List Lexeme) (fault : Option LexFault) (end at : ℕ) : Type 0 where
  pub value : V
  pub whole : part.spells tokens value
  pub last : fault ≡ None
  pub place : at ≡ end

-- behind a whole case this token begins a third query
pub record GoesOnBehind (tokens : List Lexeme) (at : ℕ) : Type 0 where
  pub before : List Lexeme
  pub third : Lexeme
  pub after : List Lexeme
  pub parts : tokens ≡ before ++ third ∷ after
  pub value : Built CaseText
  pub whole : cases.spells before value
  pub begins : among query_kinds (kind_of third) ≡ true
  pub place : at ≡ third.start

-- how many queries there are instead, and the place: none and one at the end of the text, three at the third
abbrev pub HasNotTwoQueries : List Lexeme → Option LexFault → ℕ → ℕ → ℕ → Type 0
HasNotTwoQueries tokens fault end count at =
    ((count ≡ 0) × EndsBehind (of_form None statements) tokens fault end at)
    ⊎ (((count ≡ 1) × EndsBehind (of_form None one_query) tokens fault end at) ⊎ ((count ≡ 3) × GoesOnBehind tokens at))

-- ---- refusals

-- none of the tokens passes a limit
abbrev pub KeepsLimits : ℕ → List Lexeme → Type 0
KeepsLimits copied tokens = (which : TextLimit) → KeepsWithin cases (keeping texts copied which) tokens

-- The text has not two queries, and no token passes a limit.
pub record IsNotTwo (copied : ℕ) (tokens : List Lexeme) (fault : Option LexFault) (end count at : ℕ) : Type 0 where
  pub counted : HasNotTwoQueries tokens fault end count at
  pub kept : KeepsLimits copied tokens

-- The text spells no case, though it has not too few queries nor too many; what stands behind its longest prefix is refused.
pub record IsUnfinished (copied : ℕ) (tokens : List Lexeme) (fault : Option LexFault) (end : ℕ) (refused : ReadFault) : Type 0 where
  pub taken : List Lexeme
  pub rest : List Lexeme
  pub parts : tokens ≡ taken ++ rest
  pub leading : IsLongestPrefix cases tokens taken
  pub unspelled : fault ≡ None → (value : Built CaseText) → cases.spells tokens value → ⊥
  pub not_counted : (count at : ℕ) → HasNotTwoQueries tokens fault end count at → ⊥
  pub kept : KeepsLimits copied tokens
  pub refusal : refused ≡ refusal_of end (next rest fault)

-- what each fault says of the text, with so much copied before it
abbrev pub Says : ℕ → List Lexeme → Option LexFault → ℕ → CaseFault → Type 0
Says copied tokens fault end (Read (read_refusal.Lex lexical)) = IsUnfinished copied tokens fault end (read_refusal.Lex lexical)
Says copied tokens fault end (Read (read_refusal.Unexpected at)) = IsUnfinished copied tokens fault end (read_refusal.Unexpected at)
Says copied tokens fault end (Read (read_refusal.LeftOut word at)) = IsUnfinished copied tokens fault end (read_refusal.LeftOut word at)
Says copied tokens fault end (Read (read_refusal.TooDeep at)) = PassesDepth texts copied tokens at
Says copied tokens fault end (Read (read_refusal.Limit what)) = Passes texts copied tokens (count_limit what)
Says copied tokens fault end (Read read_refusal.NoMemory) = ⊥
Says copied tokens fault end (Schema refused) = ⊥
Says copied tokens fault end (Scope refused) = ⊥
Says copied tokens fault end (QueriesDiffer left right) = ⊥
Says copied tokens fault end (NotTwoQueries count at) = IsNotTwo copied tokens fault end count at
Says copied tokens fault end NoMemory = Unit {0}

-- ---- of whole texts

pub record IsNoCase (text : List ℕ) (refused : CaseFault) : Type 0 where
  pub tokens : List Lexeme
  pub fault : Option LexFault
  pub lexed : Lexes 0 text tokens fault
  pub says : Says 0 tokens fault (length text) refused

-- want of memory may come anywhere
abbrev pub IsNoText : List ℕ → CaseFault → Type 0
IsNoText text (Read refused) = IsNoCase text (Read refused)
IsNoText text (Schema refused) = ⊥
IsNoText text (Scope refused) = ⊥
IsNoText text (QueriesDiffer left right) = ⊥
IsNoText text (NotTwoQueries count at) = IsNoCase text (NotTwoQueries count at)
IsNoText text NoMemory = Unit {0}
