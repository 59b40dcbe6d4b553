use Rattle.sql_grammar.specs.QueryEntries.{most_further}
use Rattle.schema_read.specs.StatementLimits.{few_entry_statements, few_statements, most_further_columns, most_relations, narrow_statements}
use Rattle.schema_read.specs.Statements.{statements}
use Rattle.schema_read.proofs.counts.CountsApart.{columns_or_entries, not_both, relations_or_columns, relations_or_entries}
use Rattle.schema_read.proofs.statement_laws.one_limit.Goals as goal

pub returns : goal.returns
returns c = record {
  columns_or_entries = not_both statements (narrow_statements most_further_columns) (few_entry_statements most_further) columns_or_entries;
  relations_or_columns = not_both statements (few_statements most_relations) (narrow_statements most_further_columns) relations_or_columns;
  relations_or_entries = not_both statements (few_statements most_relations) (few_entry_statements most_further) relations_or_entries;
}
