use Rattle.schema_read.proofs.spelled.StatementColumns.{narrow, narrow_again}
use Rattle.schema_read.proofs.statement_laws.few_columns.Goals as goal

pub returns : goal.returns
returns c = record { few = narrow; others = narrow_again }
