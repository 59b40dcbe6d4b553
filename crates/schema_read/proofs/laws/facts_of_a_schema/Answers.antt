use Rattle.schema_read.proofs.built.FactsLaws.{facts_ok, same_databases}
use Rattle.schema_read.proofs.laws.facts_of_a_schema.Goals as goal

pub returns : goal.returns
returns c = record { fit = facts_ok; databases = same_databases }
