use Rattle.schema_read.proofs.spelled.StatementKnown.{one_list, statements_known}
use Rattle.schema_read.proofs.statement_laws.one_list.Goals as goal

pub returns : goal.returns
returns c = record { lists = one_list; values = λ room. (statements_known room).unique }
