use Rattle.std.proofs.Common.{Some, None}
use Rattle.grammar.proofs.languages.Limits.{passed_once}
use Rattle.sql_grammar.specs.Queries.{most_levels}
use Rattle.sql_grammar.specs.QueryEntries.{most_further}
use Rattle.schema_read.specs.StatementGrammar as g
use Rattle.schema_read.specs.StatementLimits.{few_columns, few_entry_statements, few_statements, most_further_columns, most_relations, narrow_statements}
use Rattle.schema_read.specs.Statements.{shallow_statements, statements}
use Rattle.schema_read.proofs.spelled.StatementPrefixes.{few_entry_prefixes, few_statement_prefixes}
use Rattle.sql_grammar.proofs.queries.QueryForms.{form_has_prefixes}
use Rattle.schema_read.proofs.statement_laws.passed_once.Goals as goal

pub returns : goal.returns
returns c = record {
  depth = passed_once statements shallow_statements (form_has_prefixes (Some most_levels) g.statements).shorter;
  columns = passed_once statements (narrow_statements most_further_columns) (form_has_prefixes None (g.statements_with (few_columns most_further_columns))).shorter;
  relations = passed_once statements (few_statements most_relations) (few_statement_prefixes most_relations).shorter;
  entries = passed_once statements (few_entry_statements most_further) (few_entry_prefixes most_further).shorter;
}
