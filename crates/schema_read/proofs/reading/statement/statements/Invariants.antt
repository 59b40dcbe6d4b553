use Rattle.std.proofs.Common.{◌≡◌, ◌-◌, ◌≤◌, length}
use Rattle.sql_cursor.specs.Eating.{Extends}
use Rattle.schema_read.specs.StatementLimits.{most_relations}
use Rattle.schema_read.specs.StatementReaders.{further_statements, statements}
use Rattle.schema_read.proofs.reading.statement.statements.Given as goal

abbrev pub decreases-more : goal.decreases-more
decreases-more l = most_relations - length l.statements

abbrev pub invariant-more : goal.invariant-more
invariant-more l = record {
  same : further_statements (most_relations - length l.statements) l.statements l.tokens ≡ statements l.fn.tokens;
  few : length l.statements ≤ most_relations;
  extends : Extends l.fn.tokens l.tokens;
}
