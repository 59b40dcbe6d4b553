-- What the functions that read statements and cases tell of what was copied where they refuse a token: what the reader of queries tells, and the
-- same where columns or relations are too many, which queries do not count.
use Rattle.std.specs.Prelude.{Result, Ok, Err}
use Rattle.sql_cursor.specs.declared.fault.ReadFault.{ReadFault}
use Rattle.sql_cursor.specs.declared.fault.ReadFault.TheVariants.{Limit}
use Rattle.sql_cursor.specs.declared.fault.LimitKind.TheVariants as limit
use Rattle.sql_read.specs.Copied as of_query
use Rattle.sql_read.specs.Copied.{CopiesSoFar}
use Rattle.sql_cursor.specs.Cursor.{Cursor}
use Rattle.sql_grammar.specs.Numbering.{Built}
use Rattle.sql_grammar.specs.QueryGrammar.{The}

abbrev pub Says : {V A : Type 0} → The V → (V → Built A) → Cursor → Cursor → ReadFault → Cursor → Type 0
Says f h start before (Limit limit.Columns) after = CopiesSoFar f h start before after
Says f h start before (Limit limit.Relations) after = CopiesSoFar f h start before after
Says f h start before fault after = of_query.Says f h start before fault after

-- up to a refusal
pub record CopiedToFault {V A : Type 0} (f : The V) (h : V → Built A) (start before : Cursor) (fault : ReadFault) (after : Cursor) : Type 0 where
  pub says : Says f h start before fault after

abbrev pub Answers : {V A B : Type 0} → The V → (V → Built A) → Cursor → Cursor → Result B ReadFault → Cursor → Type 0
Answers f h start before (Ok value) after = Unit {0}
Answers f h start before (Err fault) after = CopiedToFault f h start before fault after

-- What a form copied that was read from `before` to `after`. What a whole form copies is in what it builds.
pub record Copied {V A B : Type 0} (f : The V) (h : V → Built A) (start before : Cursor) (result : Result B ReadFault) (after : Cursor) : Type 0 where
  pub answers : Answers f h start before result after
