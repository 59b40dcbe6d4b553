use Rattle.sql_grammar.proofs.queries.QueryKnown.{factored_includes}
use Rattle.sql_grammar.proofs.factored.Known.{grammar_includes}
use Rattle.sql_grammar.proofs.laws.same_languages.Goals as goal

pub returns-clause-left_factored : goal.returns-clause-left_factored
returns-clause-left_factored c = factored_includes

pub returns-clause-known : goal.returns-clause-known
returns-clause-known c = grammar_includes
