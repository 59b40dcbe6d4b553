-- What the reading functions do. Each takes the longest list of tokens that begins a form of the left-factored grammar, and answers what it spells, or
-- refuses the token at which it stops.
use Rattle.std.specs.Prelude.{ℕ, ◌+◌, ◌≡◌, ◌∷◌, List, Some, None, Result, Ok, Err, Bool, true, false}
use Rattle.grammar.specs.Form.{form_language, language}
use Rattle.grammar.specs.Language.{Language, no_language}
use Rattle.grammar.specs.Reading.{Took, Failed, Exceeded, Began}
use Rattle.sql_lex.specs.Lexemes.{Lexeme}
use Rattle.sql_cursor.specs.declared.fault.ReadFault.{ReadFault}
use Rattle.sql_cursor.specs.declared.fault.ReadFault.TheVariants.{Lex, Unexpected, LeftOut, TooDeep, Limit, NoMemory}
use Rattle.sql_cursor.specs.declared.fault.LimitKind.{LimitKind}
use Rattle.sql_cursor.specs.declared.fault.LimitKind.TheVariants as limit
use Rattle.sql_cursor.specs.Cursor.{Cursor}
use Rattle.sql_cursor.specs.Eating.{IsNextAt}
use Rattle.sql_grammar.specs.Kinds.{kind_of}
use Rattle.sql_grammar.specs.Numbering.{Built}
use Rattle.sql_grammar.specs.QueryGrammar.{The}
use Rattle.sql_grammar.specs.QueryEntries.{most_further}
use Rattle.sql_grammar.specs.FactoredQueries.{few_factored, in_factored}
use Rattle.sql_cursor.specs.Refusals.{refusal}

-- the language of a form of the left-factored grammar where no block has too many entries
unfoldable pub few_form : {A : Type 0} → The A → Language Lexeme A
few_form f = form_language kind_of (language kind_of (few_factored most_further)) None f

-- the language, if it is allowed
abbrev pub allowed : {A : Type 0} → Bool → Language Lexeme A → Language Lexeme A
allowed true L = L
allowed false L = no_language

-- Of which limits a reading tells: of that on depth and length alone, or of that on the entries of blocks too. In a statement columns are counted
-- besides, and where statements are read one by one they are too.
pub data Told : Type 0 where
  depth_alone : Told
  entries_too : Told
  columns_too : Told
  relations_too : Told

abbrev pub TellsEntries : Told → Type 0
TellsEntries depth_alone = ⊥
TellsEntries entries_too = Unit {0}
TellsEntries columns_too = Unit {0}
TellsEntries relations_too = Unit {0}

abbrev pub TellsColumns : Told → Type 0
TellsColumns depth_alone = ⊥
TellsColumns entries_too = ⊥
TellsColumns columns_too = Unit {0}
TellsColumns relations_too = Unit {0}

abbrev pub TellsRelations : Told → Type 0
TellsRelations depth_alone = ⊥
TellsRelations entries_too = ⊥
TellsRelations columns_too = ⊥
TellsRelations relations_too = Unit {0}

-- ---- what is built

-- built from the numbers at the start it is this value, with the numbers at the end, and all that was copied on the way was copied in it
pub record Builds {A : Type 0} (built : Built A) (start : Cursor) (value : A) (end : Cursor) : Type 0 where
  pub numbers : built.build start.numbers ≡ (value, end.numbers)
  pub copies : end.copies ≡ start.copies + built.copies

-- a part of so many tokens that was built on the way from the start to here
pub record IsBuilt {A : Type 0} (built : Built A) (count : ℕ) (start : Cursor) (value : A) (here : Cursor) : Type 0 where
  pub builds : Builds built start value here
  pub counted : here.passed ≡ start.passed + count

-- ---- what is read

-- In these B is what may be read of the form where no block has too many entries.

-- the tokens up to the rest spell the value, and no more goes on
pub record TakesWithin {V : Type 0} (told : Told) (f : The V) (B : Language Lexeme V) (levels : ℕ) (here : List Lexeme) (value : V) (rest : List Lexeme) : Type 0 where
  pub took : Took (in_factored None f) (in_factored (Some levels) f) here value rest
  pub few : TellsEntries told → Took (in_factored None f) B here value rest

abbrev pub Takes : {V : Type 0} → The V → ℕ → List Lexeme → V → List Lexeme → Type 0
Takes f levels here value rest = TakesWithin entries_too f (few_form f) levels here value rest

-- the longest prefix was read, and spells something that is built as h says
pub record GivesWithin {V A : Type 0} (told : Told) (f : The V) (B : Language Lexeme V) (levels : ℕ) (h : V → Built A) (start before : Cursor) (value : A) (after : Cursor) : Type 0 where
  pub read : V
  pub takes : TakesWithin told f B levels before.tokens read after.tokens
  pub builds : Builds (h read) start value after

abbrev pub Gives : {V A : Type 0} → The V → ℕ → (V → Built A) → Cursor → Cursor → A → Cursor → Type 0
Gives f levels h start before value after = GivesWithin entries_too f (few_form f) levels h start before value after

-- the longest prefix was read, and spells nothing; what stands next is refused
pub record Fails {V : Type 0} (told : Told) (f : The V) (B : Language Lexeme V) (levels : ℕ) (before : Cursor) (fault : ReadFault) (after : Cursor) : Type 0 where
  pub failed : Failed (in_factored None f) (in_factored (Some levels) f) before.tokens after.tokens
  pub few : TellsEntries told → Failed (in_factored None f) B before.tokens after.tokens
  pub refused : fault ≡ refusal after

-- the next token goes on, but passes the limits on depth and length
pub record Exceeds {V : Type 0} (told : Told) (f : The V) (B : Language Lexeme V) (levels : ℕ) (before : Cursor) (at : ℕ) (after : Cursor) : Type 0 where
  pub exceeded : Exceeded (in_factored None f) (in_factored (Some levels) f) before.tokens after.tokens
  pub few : TellsEntries told → Began B before.tokens after.tokens
  pub place : IsNextAt at after.tokens

-- the next token goes on within those limits, but begins an entry too many
pub record Crowds {V : Type 0} (told : Told) (f : The V) (B : Language Lexeme V) (levels : ℕ) (before after : Cursor) : Type 0 where
  pub token : Lexeme
  pub more : List Lexeme
  pub next : after.tokens ≡ token ∷ more
  pub goes_on : Began (in_factored (Some levels) f) before.tokens more
  pub few : TellsEntries told → Exceeded (in_factored None f) B before.tokens after.tokens

-- the next token goes on within the limits on depth and length, and no entry was too many before it, but a count of which is told is full
pub record Fills {V : Type 0} (counted : Type 0) (told : Told) (f : The V) (B : Language Lexeme V) (levels : ℕ) (before after : Cursor) : Type 0 where
  pub counts : counted
  pub token : Lexeme
  pub more : List Lexeme
  pub next : after.tokens ≡ token ∷ more
  pub goes_on : Began (in_factored (Some levels) f) before.tokens more
  pub few : TellsEntries told → Began B before.tokens after.tokens

-- the token that was passed last goes on within the limits on depth, length and entries; what was copied up to it other clauses tell
pub record Spends {V : Type 0} (told : Told) (f : The V) (B : Language Lexeme V) (levels : ℕ) (before after : Cursor) : Type 0 where
  pub goes_on : Began (in_factored (Some levels) f) before.tokens after.tokens
  pub few : TellsEntries told → Began B before.tokens after.tokens

-- what each limit on a count says
abbrev pub SaysLimit : {V : Type 0} → Told → The V → Language Lexeme V → ℕ → Cursor → LimitKind → Cursor → Type 0
SaysLimit told f B levels before limit.Entries after = Crowds told f B levels before after
SaysLimit told f B levels before limit.Copies after = Spends told f B levels before after
SaysLimit told f B levels before limit.Columns after = Fills (TellsColumns told) told f B levels before after
SaysLimit told f B levels before limit.Relations after = Fills (TellsRelations told) told f B levels before after

-- what each fault says; want of memory may come anywhere
abbrev pub Says : {V : Type 0} → Told → The V → Language Lexeme V → ℕ → Cursor → ReadFault → Cursor → Type 0
Says told f B levels before (Lex fault) after = Fails told f B levels before (Lex fault) after
Says told f B levels before (Unexpected at) after = Fails told f B levels before (Unexpected at) after
Says told f B levels before (LeftOut word at) after = Fails told f B levels before (LeftOut word at) after
Says told f B levels before (TooDeep at) after = Exceeds told f B levels before at after
Says told f B levels before (Limit what) after = SaysLimit told f B levels before what after
Says told f B levels before NoMemory after = Unit {0}

pub record RefusesWithin {V : Type 0} (told : Told) (f : The V) (B : Language Lexeme V) (levels : ℕ) (before : Cursor) (fault : ReadFault) (after : Cursor) : Type 0 where
  pub says : Says told f B levels before fault after

abbrev pub Refuses : {V : Type 0} → The V → ℕ → Cursor → ReadFault → Cursor → Type 0
Refuses f levels before fault after = RefusesWithin entries_too f (few_form f) levels before fault after

abbrev pub Answers : {V A : Type 0} → Told → The V → Language Lexeme V → ℕ → (V → Built A) → Cursor → Cursor → Result A ReadFault → Cursor → Type 0
Answers told f B levels h start before (Ok value) after = GivesWithin told f B levels h start before value after
Answers told f B levels h start before (Err fault) after = RefusesWithin told f B levels before fault after

-- the faults that tell where they come
abbrev pub IsPlaced : ReadFault → Type 0
IsPlaced (Lex fault) = Unit {0}
IsPlaced (Unexpected at) = Unit {0}
IsPlaced (LeftOut word at) = Unit {0}
IsPlaced (TooDeep at) = Unit {0}
IsPlaced (Limit limit.Columns) = Unit {0}
IsPlaced (Limit limit.Entries) = Unit {0}
IsPlaced (Limit limit.Relations) = Unit {0}
IsPlaced (Limit limit.Copies) = Unit {0}
IsPlaced NoMemory = ⊥

-- With so many levels left the form was read from `before` to `after`; what it gives is built from the start, which may lie further back.
pub record ReadsWithin {V A : Type 0} (told : Told) (f : The V) (B : Language Lexeme V) (levels : ℕ) (h : V → Built A) (start before : Cursor) (result : Result A ReadFault) (after : Cursor) : Type 0 where
  pub answers : Answers told f B levels h start before result after

abbrev pub Reads : {V A : Type 0} → The V → ℕ → (V → Built A) → Cursor → Cursor → Result A ReadFault → Cursor → Type 0
Reads f levels h start before result after = ReadsWithin entries_too f (few_form f) levels h start before result after
