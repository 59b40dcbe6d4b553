use Rattle.schema_read.proofs.counts.StatementCounts.{few_rules_spelled}
use Rattle.schema_read.proofs.statement_laws.few_rules.Goals as goal

pub returns : goal.returns
returns c = few_rules_spelled
