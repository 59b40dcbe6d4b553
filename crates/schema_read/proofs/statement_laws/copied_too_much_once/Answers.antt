use Rattle.grammar.proofs.languages.Limits.{cost_passed_once, costs_at_beyond, first_beyond, kept_within_cost, whole_within_cost}
use Rattle.sql_grammar.specs.QueryCopies.{most_copies}
use Rattle.schema_read.proofs.counts.StatementCopies.{statement_costs}
use Rattle.schema_read.proofs.statement_laws.copied_too_much_once.Goals as goal

pub returns : goal.returns
returns c = record {
  once = cost_passed_once statement_costs most_copies;
  never = λ copied ts read s l. kept_within_cost statement_costs most_copies copied ts (whole_within_cost statement_costs most_copies copied ts read (s, l));
  completed = statement_costs.completed;
  passed = λ copied x t read other r o l m. first_beyond statement_costs most_copies copied x t read other r l o m;
  counted = costs_at_beyond statement_costs most_copies;
}
