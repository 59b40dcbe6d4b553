use Rattle.grammar.proofs.languages.Heights.{name_prefixes}
use Rattle.sql_grammar.specs.Kinds.{kind_of}
use Rattle.sql_grammar.specs.Queries.{rules}
use Rattle.sql_grammar.proofs.queries.QueryPrefixes.{query_prefixes}
use Rattle.sql_grammar.proofs.laws.prefixes.Goals as goal

pub returns-clause-empty : goal.returns-clause-empty
returns-clause-empty c = query_prefixes.empty

pub returns-clause-shorter : goal.returns-clause-shorter
returns-clause-shorter c = query_prefixes.shorter

pub returns-clause-spelled : goal.returns-clause-spelled
returns-clause-spelled c before after ts q s = query_prefixes.spelled ts s.0 s.1

pub returns-clause-productions : goal.returns-clause-productions
returns-clause-productions c = name_prefixes kind_of rules
