-- A reading that tells of fewer limits tells what one of more does, where the others cannot come.
use Rattle.std.proofs.Common.{ℕ, List, Result, Ok, Err}
use Rattle.grammar.specs.Language.{Language}
use Rattle.sql_lex.specs.Lexemes.{Lexeme}
use Rattle.sql_cursor.specs.declared.fault.ReadFault.{ReadFault}
use Rattle.sql_cursor.specs.declared.fault.ReadFault.TheVariants.{TooDeep, Limit, NoMemory}
use Rattle.sql_cursor.specs.declared.fault.LimitKind.{LimitKind}
use Rattle.sql_cursor.specs.declared.fault.LimitKind.TheVariants as limit
use Rattle.sql_cursor.specs.Cursor.{Cursor}
use Rattle.sql_read.specs.Reads.{GivesWithin, ReadsWithin, RefusesWithin, SaysLimit, TakesWithin, TellsColumns, TellsEntries, TellsRelations, Told, columns_too, entries_too, relations_too}
use Rattle.sql_grammar.specs.Numbering.{Built}
use Rattle.sql_grammar.specs.QueryGrammar.{The}

-- what the one tells of entries the other does, and the limits on counts of which it tells are among those of the other
pub record More (less more : Told) : Type 0 where
  pub entries : TellsEntries more → TellsEntries less
  pub columns : TellsColumns less → TellsColumns more
  pub relations : TellsRelations less → TellsRelations more

-- queries, names and rules are read where no column is counted
pub with_columns : More entries_too columns_too
with_columns = record { entries = λ n. tt; columns = λ n. absurd n; relations = λ n. absurd n }

-- a statement is read where no other is counted
pub with_relations : More columns_too relations_too
with_relations = record { entries = λ n. tt; columns = λ n. tt; relations = λ n. absurd n }

pub with_both : More entries_too relations_too
with_both = record { entries = λ n. tt; columns = λ n. absurd n; relations = λ n. absurd n }

module _ {V : Type 0} {less more : Told} (m : More less more) where
  limit_more : (f : The V) (B : Language Lexeme V) (levels : ℕ) (a b : Cursor) (what : LimitKind) → SaysLimit less f B levels a what b → SaysLimit more f B levels a what b
  limit_more f B levels a b limit.Entries t = record { token = t.token; more = t.more; next = t.next; goes_on = t.goes_on; few = λ n. t.few (m.entries n) }
  limit_more f B levels a b limit.Columns t = record { counts = m.columns t.counts; token = t.token; more = t.more; next = t.next; goes_on = t.goes_on; few = λ n. t.few (m.entries n) }
  limit_more f B levels a b limit.Relations t = record { counts = m.relations t.counts; token = t.token; more = t.more; next = t.next; goes_on = t.goes_on; few = λ n. t.few (m.entries n) }
  limit_more f B levels a b limit.Copies t = record { goes_on = t.goes_on; few = λ n. t.few (m.entries n) }

module _ {V : Type 0} {less more : Told} {f : The V} {B : Language Lexeme V} {levels : ℕ} (m : More less more) where
  pub taken_more : {here rest : List Lexeme} {v : V} → TakesWithin less f B levels here v rest → TakesWithin more f B levels here v rest
  taken_more t = record { took = t.took; few = λ n. t.few (m.entries n) }

  pub refused_more : {a b : Cursor} {fault : ReadFault} → RefusesWithin less f B levels a fault b → RefusesWithin more f B levels a fault b
  refused_more {fault = TooDeep at} t = record { says = record { exceeded = t.says.exceeded; few = λ n. t.says.few (m.entries n); place = t.says.place } }
  refused_more {a = a} {b = b} {fault = Limit what} t = record { says = limit_more m f B levels a b what t.says }
  refused_more {fault = NoMemory} t = record { says = tt }
  refused_more {fault = other} t = record { says = record { failed = t.says.failed; few = λ n. t.says.few (m.entries n); refused = t.says.refused } }

  module _ {A : Type 0} {h : V → Built A} {start before after : Cursor} where
    pub given_more : {value : A} → GivesWithin less f B levels h start before value after → GivesWithin more f B levels h start before value after
    given_more t = record { read = t.read; takes = taken_more t.takes; builds = t.builds }

    pub reads_more : {result : Result A ReadFault} → ReadsWithin less f B levels h start before result after → ReadsWithin more f B levels h start before result after
    reads_more {result = Ok value} t = record { answers = given_more t.answers }
    reads_more {result = Err fault} t = record { answers = refused_more t.answers }
