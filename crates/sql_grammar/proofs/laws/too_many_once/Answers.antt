use Rattle.sql_grammar.proofs.queries.QueryPrefixes.{too_many_once}
use Rattle.sql_grammar.proofs.laws.too_many_once.Goals as goal

pub returns : goal.returns
returns c = too_many_once
