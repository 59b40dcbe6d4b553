use Rattle.schema_read.proofs.counts.StatementCounts.{few, few_again}
use Rattle.schema_read.proofs.statement_laws.few_relations.Goals as goal

pub returns : goal.returns
returns c = record { few = few; others = few_again }
