use Rattle.std.proofs.Common.{Some, None}
use Rattle.grammar.proofs.languages.Heights.{name_grows}
use Rattle.sql_grammar.specs.Kinds.{kind_of}
use Rattle.sql_grammar.specs.Queries.{most_levels, rules}
use Rattle.sql_grammar.specs.QueryGrammar.{query}
use Rattle.sql_grammar.proofs.laws.limits.Goals as goal

pub returns : goal.returns
returns c = name_grows kind_of rules (Some most_levels) None tt query
