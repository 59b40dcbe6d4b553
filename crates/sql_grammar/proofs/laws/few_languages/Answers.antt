use Rattle.std.proofs.Common.{arith}
use Rattle.sql_grammar.specs.QueryEntries.{most_further}
use Rattle.sql_grammar.proofs.entries.FewFactored.{few_factored_includes, few_factored_included, few_rules_include}
use Rattle.sql_grammar.proofs.laws.few_languages.Goals as goal

pub returns-clause-left_factored : goal.returns-clause-left_factored
returns-clause-left_factored c = few_factored_includes most_further (omega arith)

pub returns-clause-known : goal.returns-clause-known
returns-clause-known c = few_rules_include most_further (omega arith)

pub returns-clause-fewer : goal.returns-clause-fewer
returns-clause-fewer c = few_factored_included most_further (omega arith)
