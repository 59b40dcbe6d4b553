use Rattle.std.proofs.Common.{Some, None}
use Rattle.sql_grammar.specs.Queries.{most_levels}
use Rattle.schema_read.specs.StatementGrammar as g
use Rattle.schema_read.proofs.spelled.StatementPrefixes.{few_entries_included, few_statements_included, narrow_included}
use Rattle.sql_grammar.proofs.queries.QueryForms.{roomier}
use Rattle.schema_read.proofs.statement_laws.limits.Goals as goal

pub returns : goal.returns
returns c = record { shallow = roomier (Some most_levels) None tt g.statements; narrow = narrow_included; few = few_statements_included; few_entries = few_entries_included }
