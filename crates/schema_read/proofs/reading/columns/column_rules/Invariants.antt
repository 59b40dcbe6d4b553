use Rattle.std.proofs.Common.{length}
use Rattle.sql_cursor.specs.Eating.{Extends}
use Rattle.schema_read.specs.StatementReaders as reader
use Rattle.schema_read.proofs.agree.StatementLoops.{Ruling}
use Rattle.schema_read.proofs.reading.columns.column_rules.Given as goal

abbrev pub decreases-more : goal.decreases-more
decreases-more l = length l.tokens.tokens

abbrev pub invariant-more : goal.invariant-more
invariant-more l = record {
  ruling : Ruling l.column l.rules l.tokens (reader.column_rules l.column l.fn.before l.fn.tokens);
  extends : Extends l.fn.tokens l.tokens;
}
