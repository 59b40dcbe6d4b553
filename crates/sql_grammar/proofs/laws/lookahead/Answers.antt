use Rattle.sql_grammar.proofs.queries.QueryKnown.{production_known}
use Rattle.sql_grammar.proofs.laws.lookahead.Goals as goal

pub returns : goal.returns
returns c room p = (production_known room p).ahead
