use Rattle.sql_grammar.proofs.queries.QueryKnown.{one_query, production_known}
use Rattle.sql_grammar.proofs.laws.one_query.Goals as goal

pub returns-clause-queries : goal.returns-clause-queries
returns-clause-queries c = one_query

pub returns-clause-productions : goal.returns-clause-productions
returns-clause-productions c room p = (production_known room p).unique
