-- What the reading functions have copied where they refuse a token, and where the limit on copies is passed.
use Rattle.std.specs.Prelude.{◌+◌, ◌≡◌, ◌∷◌, None, Result, Ok, Err}
use Rattle.grammar.specs.Completions.{Overspends, Reaches}
use Rattle.sql_lex.specs.Lexemes.{Lexeme}
use Rattle.sql_cursor.specs.declared.fault.LimitKind.TheVariants as limit
use Rattle.sql_cursor.specs.declared.fault.ReadFault.{ReadFault}
use Rattle.sql_cursor.specs.declared.fault.ReadFault.TheVariants.{Lex, Unexpected, LeftOut, TooDeep, Limit, NoMemory}
use Rattle.sql_cursor.specs.Cursor.{Cursor}
use Rattle.sql_grammar.specs.QueryCopies.{copies_nothing, most_copies}
use Rattle.sql_grammar.specs.Numbering.{Built}
use Rattle.sql_grammar.specs.QueryGrammar.{The}
use Rattle.sql_grammar.specs.FactoredQueries.{in_factored}

-- from the start up to here as much was copied as in what a text spells that goes on from here and copies nothing
pub record CopiesSoFar {V A : Type 0} (f : The V) (h : V → Built A) (start before after : Cursor) : Type 0 where
  pub value : V
  pub up_to : Reaches copies_nothing (in_factored None f) before.tokens value after.tokens
  pub count : after.copies ≡ start.copies + (h value).copies

-- the token that was passed last is the first with which more is copied than may be
pub record CopiesTooMuch {V A : Type 0} (f : The V) (h : V → Built A) (start before after : Cursor) : Type 0 where
  pub token : Lexeme
  pub overspends : Overspends copies_nothing (in_factored None f) (λ v. (h v).copies) most_copies start.copies before.tokens (token ∷ after.tokens)

-- queries have neither columns nor relations to count
abbrev pub Says : {V A : Type 0} → The V → (V → Built A) → Cursor → Cursor → ReadFault → Cursor → Type 0
Says f h start before (Lex fault) after = CopiesSoFar f h start before after
Says f h start before (Unexpected at) after = CopiesSoFar f h start before after
Says f h start before (LeftOut word at) after = CopiesSoFar f h start before after
Says f h start before (TooDeep at) after = CopiesSoFar f h start before after
Says f h start before (Limit limit.Copies) after = CopiesTooMuch f h start before after
Says f h start before (Limit limit.Entries) after = CopiesSoFar f h start before after
Says f h start before (Limit limit.Columns) after = ⊥
Says f h start before (Limit limit.Relations) after = ⊥
Says f h start before NoMemory after = Unit {0}

-- up to a refusal
pub record CopiedToFault {V A : Type 0} (f : The V) (h : V → Built A) (start before : Cursor) (fault : ReadFault) (after : Cursor) : Type 0 where
  pub says : Says f h start before fault after

abbrev pub Answers : {V A B : Type 0} → The V → (V → Built A) → Cursor → Cursor → Result B ReadFault → Cursor → Type 0
Answers f h start before (Ok value) after = Unit {0}
Answers f h start before (Err fault) after = CopiedToFault f h start before fault after

-- What a form copied that was read from `before` to `after`, and is built from the start, which may lie further back. What a whole form
-- copies is in what it builds.
pub record Copied {V A B : Type 0} (f : The V) (h : V → Built A) (start before : Cursor) (result : Result B ReadFault) (after : Cursor) : Type 0 where
  pub answers : Answers f h start before result after
