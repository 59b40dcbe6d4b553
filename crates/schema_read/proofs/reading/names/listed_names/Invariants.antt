use Rattle.std.proofs.Common.{◌≡◌}
use Rattle.sql_cursor.specs.Eating.{Extends}
use Rattle.sql_read.specs.Reading.{comma, one_more}
use Rattle.sql_cursor.specs.Readers.{repeated}
use Rattle.schema_read.specs.StatementReaders.{listed_names, name}
use Rattle.schema_read.proofs.reading.names.listed_names.Given as goal

abbrev pub decreases-more : goal.decreases-more
decreases-more l = l.room

abbrev pub invariant-more : goal.invariant-more
invariant-more l = record {
  same : repeated comma (one_more name) l.room l.names l.tokens ≡ listed_names l.fn.tokens;
  extends : Extends l.fn.tokens l.tokens;
}
