-- What the reader of a text does with the tokens that are still to come.
use Rattle.std.specs.Prelude.{◌≡◌, ◌≢◌, ◌≤◌, ◌+◌, ℕ, [], true, false, None}
use Rattle.sql_cursor.specs.declared.fault.LimitKind.{LimitKind}
use Rattle.sql_cursor.specs.declared.fault.ReadFault.{ReadFault}
use Rattle.sql_cursor.specs.declared.fault.ReadFault.TheVariants as read_refusal
use Rattle.sql_cursor.specs.Cursor.{Cursor}
use Rattle.sql_cursor.specs.Eating.{IsNextAt, is_next}
use Rattle.sql_grammar.specs.Kinds.{among}
use Rattle.sql_grammar.specs.Numbering.{Built}
use Rattle.sql_grammar.specs.QueryCopies.{most_copies}
use Rattle.sql_cursor.specs.Refusals.{IsLeftOut, refusal}
use Rattle.case_core.specs.declared.fault.CaseFault.{CaseFault}
use Rattle.case_core.specs.declared.fault.CaseFault.TheVariants.{Read, Schema, Scope, QueriesDiffer, NotTwoQueries, NoMemory}
use Rattle.case_core.specs.declared.text.CaseText.{CaseText}
use Rattle.case_core.specs.CaseGrammar.{query_kinds}
use Rattle.case_core.specs.Cases.{cases, shallow_cases, within}
use Rattle.case_core.specs.Refusals.{Says}

-- all tokens, up to the end of the text, were taken and spell this within the limits
pub record TakesCase (before : Cursor) (written : CaseText) (after : Cursor) : Type 0 where
  pub last : before.fault ≡ None
  pub value : Built CaseText
  pub spelled : cases.spells before.tokens value
  pub shallow : shallow_cases.spells before.tokens value
  pub few : (what : LimitKind) → (within what).spells before.tokens value
  pub built : value.build before.numbers ≡ (written, after.numbers)
  pub copied : after.copies ≡ before.copies + value.copies

-- this is refused here, where no more was copied than may be
pub record RefusesCase (before : Cursor) (refused : CaseFault) (after : Cursor) : Type 0 where
  pub says : after.copies ≤ most_copies → Says before.copies before.tokens before.fault before.end refused

-- nothing is left of the text
pub record IsEnded (cursor : Cursor) : Type 0 where
  pub tokens : cursor.tokens ≡ []
  pub fault : cursor.fault ≡ None

-- a token or a lexical fault stands next
abbrev pub IsMore : Cursor → Type 0
IsMore cursor = IsEnded cursor → ⊥

-- the token at this place begins a query
pub record IsThird (cursor : Cursor) (at : ℕ) : Type 0 where
  pub begins : is_next (among query_kinds) cursor.tokens ≡ true
  pub place : IsNextAt at cursor.tokens

-- something else stands next, which is refused
pub record IsTrailing (cursor : Cursor) (refused : ReadFault) : Type 0 where
  pub more : IsMore cursor
  pub no_query : is_next (among query_kinds) cursor.tokens ≡ false
  pub refusal : refused ≢ read_refusal.NoMemory → refused ≡ refusal cursor

-- Why a text does not end here. Memory is wanted for the word of a left-out token alone.
abbrev pub IsNoEnd : Cursor → CaseFault → Type 0
IsNoEnd cursor (Read refused) = IsTrailing cursor refused × (refused ≢ read_refusal.NoMemory)
IsNoEnd cursor (Schema refused) = ⊥
IsNoEnd cursor (Scope refused) = ⊥
IsNoEnd cursor (QueriesDiffer left right) = ⊥
IsNoEnd cursor (NotTwoQueries count at) = (count ≡ 3) × IsThird cursor at
IsNoEnd cursor NoMemory = IsLeftOut (refusal cursor)
