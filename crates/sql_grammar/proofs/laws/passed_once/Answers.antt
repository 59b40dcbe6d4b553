use Rattle.sql_grammar.proofs.queries.QueryPrefixes.{too_deep_once}
use Rattle.sql_grammar.proofs.laws.passed_once.Goals as goal

pub returns : goal.returns
returns c = too_deep_once
