use Rattle.grammar.proofs.languages.Limits.{costs_at_beyond, kept_within_cost, first_beyond, cost_passed_once}
use Rattle.sql_grammar.specs.QueryCopies.{most_copies}
use Rattle.sql_grammar.proofs.copies.CopyOnce.{query_costs}
use Rattle.sql_grammar.proofs.laws.copied_too_much_once.Goals as goal

pub returns-clause-once : goal.returns-clause-once
returns-clause-once c = cost_passed_once query_costs most_copies

pub returns-clause-never : goal.returns-clause-never
returns-clause-never c = kept_within_cost query_costs most_copies

pub returns-clause-passed : goal.returns-clause-passed
returns-clause-passed c = λ copied x t read other r o l m. first_beyond query_costs most_copies copied x t read other r l o m

pub returns-clause-counted : goal.returns-clause-counted
returns-clause-counted c = costs_at_beyond query_costs most_copies
