use Rattle.schema_read.proofs.counts.StatementCounts.{few_entries_spelled}
use Rattle.schema_read.proofs.statement_laws.few_entries.Goals as goal

pub returns : goal.returns
returns c = few_entries_spelled
