use Rattle.std.proofs.Common.{◌≡◌}
use Rattle.sql_cursor.specs.Eating.{Extends}
use Rattle.std.proofs.Common.{Some}
use Rattle.sql_read.specs.Reading.{comma, group_by, one_more, reference}
use Rattle.sql_cursor.specs.Readers.{◌>>=◌, done, repeated}
use Rattle.sql_read.proofs.reading.block.group_by.Given as goal

abbrev pub decreases-more : goal.decreases-more
decreases-more l = l.room

abbrev pub invariant-more : goal.invariant-more
invariant-more l = record {
  same : (repeated comma (one_more reference) l.room l.columns l.tokens >>= λ columns. done (Some columns)) ≡ group_by l.fn.tokens;
  extends : Extends l.fn.tokens l.tokens;
}
