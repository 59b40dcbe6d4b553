-- What a reader within limits does with the tokens that are still to come: of queries and of statements. Of whole cases the limits, and the
-- tokens that pass them, are said so too.
use Rattle.std.specs.Prelude.{ℕ, ◌+◌, ◌≡◌, List, ◌++◌, length, Some, None, Option}
use Rattle.grammar.specs.Language.{Language}
use Rattle.grammar.specs.Limits.{Limited, PassesLimit}
use Rattle.grammar.specs.Reading.{IsLongestPrefix}
use Rattle.sql_lex.specs.declared.token.LexFault.{LexFault}
use Rattle.sql_lex.specs.Lexemes.{Lexeme}
use Rattle.sql_cursor.specs.declared.fault.LimitKind.{LimitKind}
use Rattle.sql_cursor.specs.declared.fault.LimitKind.TheVariants as limit
use Rattle.sql_cursor.specs.declared.fault.ReadFault.{ReadFault}
use Rattle.sql_cursor.specs.declared.fault.ReadFault.TheVariants.{Lex, Unexpected, LeftOut, TooDeep, Limit, NoMemory}
use Rattle.sql_cursor.specs.Cursor.{Cursor, next}
use Rattle.sql_cursor.specs.Refusals.{refusal_of}
use Rattle.sql_grammar.specs.Numbering.{Built}
use Rattle.sql_grammar.specs.Queries.{most_levels, of_form}
use Rattle.sql_grammar.specs.QueryCopies.{within_copies}
use Rattle.sql_grammar.specs.QueryGrammar.{The}

-- Texts of a form over the names of queries, and those of them that keep the limit on a count. What may be copied goes by what was copied
-- before.
pub record Texts (A : Type 0) : Type 1 where
  pub form : The (Built A)
  pub within : LimitKind → Language Lexeme (Built A)

-- the limit on depth and on the length of chains and lists, and those on counts
pub data TextLimit : Type 0 where
  depth_limit : TextLimit
  count_limit : LimitKind → TextLimit

-- with no limits
abbrev pub any : {A : Type 0} → Texts A → Language Lexeme (Built A)
any T = of_form None T.form

-- within this limit, with so much copied before
abbrev pub keeping : {A : Type 0} → Texts A → ℕ → TextLimit → Language Lexeme (Built A)
keeping T copied depth_limit = of_form (Some most_levels) T.form
keeping T copied (count_limit limit.Columns) = T.within limit.Columns
keeping T copied (count_limit limit.Entries) = T.within limit.Entries
keeping T copied (count_limit limit.Relations) = T.within limit.Relations
keeping T copied (count_limit limit.Copies) = within_copies copied (any T)

-- Where a token passes two limits, that on depth is told before the others, and that on copies behind them. No token passes two others.
abbrev pub IsSooner : TextLimit → TextLimit → Type 0
IsSooner depth_limit depth_limit = ⊥
IsSooner depth_limit (count_limit what) = Unit {0}
IsSooner (count_limit what) depth_limit = ⊥
IsSooner (count_limit what) (count_limit limit.Columns) = ⊥
IsSooner (count_limit what) (count_limit limit.Entries) = ⊥
IsSooner (count_limit what) (count_limit limit.Relations) = ⊥
IsSooner (count_limit limit.Columns) (count_limit limit.Copies) = Unit {0}
IsSooner (count_limit limit.Entries) (count_limit limit.Copies) = Unit {0}
IsSooner (count_limit limit.Relations) (count_limit limit.Copies) = Unit {0}
IsSooner (count_limit limit.Copies) (count_limit limit.Copies) = ⊥

-- all limits, with so much copied before
abbrev pub limited : {A : Type 0} → Texts A → ℕ → Limited Lexeme (Built A)
limited T copied = record { whole = any T; Limit = TextLimit; keeping = keeping T copied; IsSooner = IsSooner }

-- the longest list of tokens that begins a text was taken, and it spells this value within all limits
pub record IsRead {A : Type 0} (T : Texts A) (before : Cursor) (value : A) (after : Cursor) : Type 0 where
  pub taken : List Lexeme
  pub whole : before.tokens ≡ taken ++ after.tokens
  pub leading : IsLongestPrefix (any T) before.tokens taken
  pub read : Built A
  pub spelled : (any T).spells taken read
  pub kept : (which : TextLimit) → (keeping T before.copies which).spells taken read
  pub built : read.build before.numbers ≡ (value, after.numbers)
  pub copied : after.copies ≡ before.copies + read.copies
  pub passed : after.passed ≡ before.passed + length taken
  pub fault : after.fault ≡ before.fault
  pub end : after.end ≡ before.end

-- Of refusals these speak: tokens up to the end of a text or to its first lexical fault, with that fault and the place of the end, and with so
-- much copied before them.

-- the longest list of tokens that begins a text keeps all limits and spells none, and what stands behind it is refused
pub record IsUnfinished {A : Type 0} (T : Texts A) (copied : ℕ) (tokens : List Lexeme) (fault : Option LexFault) (end : ℕ) (refused : ReadFault) : Type 0 where
  pub taken : List Lexeme
  pub rest : List Lexeme
  pub parts : tokens ≡ taken ++ rest
  pub leading : IsLongestPrefix (any T) tokens taken
  pub unspelled : (read : Built A) → (any T).spells taken read → ⊥
  pub kept : (which : TextLimit) → (keeping T copied which).prefix taken
  pub refusal : refused ≡ refusal_of end (next rest fault)

-- a token passes this limit
abbrev pub Passes : {A : Type 0} → Texts A → ℕ → List Lexeme → TextLimit → Type 0
Passes T copied tokens which = PassesLimit (limited T copied) tokens which

-- the token at this place is too deep
pub record PassesDepth {A : Type 0} (T : Texts A) (copied : ℕ) (tokens : List Lexeme) (at : ℕ) : Type 0 where
  pub passes : Passes T copied tokens depth_limit
  pub place : passes.token.start ≡ at

-- Where each refusal comes. Want of memory may come anywhere.
abbrev pub IsRefused : {A : Type 0} → Texts A → ℕ → List Lexeme → Option LexFault → ℕ → ReadFault → Type 0
IsRefused T copied tokens fault end (Lex lexical) = IsUnfinished T copied tokens fault end (Lex lexical)
IsRefused T copied tokens fault end (Unexpected at) = IsUnfinished T copied tokens fault end (Unexpected at)
IsRefused T copied tokens fault end (LeftOut word at) = IsUnfinished T copied tokens fault end (LeftOut word at)
IsRefused T copied tokens fault end (TooDeep at) = PassesDepth T copied tokens at
IsRefused T copied tokens fault end (Limit what) = Passes T copied tokens (count_limit what)
IsRefused T copied tokens fault end NoMemory = Unit {0}
