use Rattle.std.proofs.Common.{◌≡◌}
use Rattle.sql_cursor.specs.Eating.{Extends}
use Rattle.sql_read.specs.Reading.{comma}
use Rattle.sql_cursor.specs.Readers.{repeated}
use Rattle.schema_read.specs.StatementReaders.{listed_elements, next_element}
use Rattle.schema_read.proofs.reading.elements.listed_elements.Given as goal

abbrev pub decreases-more : goal.decreases-more
decreases-more l = l.room

abbrev pub invariant-more : goal.invariant-more
invariant-more l = record {
  same : repeated comma next_element l.room l.elements l.tokens ≡ listed_elements l.fn.tokens;
  extends : Extends l.fn.tokens l.tokens;
}
