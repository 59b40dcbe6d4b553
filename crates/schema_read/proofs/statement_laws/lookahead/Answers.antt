use Rattle.schema_read.proofs.spelled.StatementKnown.{statements_known}
use Rattle.schema_read.proofs.statement_laws.lookahead.Goals as goal

pub returns : goal.returns
returns c room = (statements_known room).ahead
