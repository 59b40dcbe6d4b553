use Rattle.std.proofs.Common.{None}
use Rattle.schema_read.specs.StatementGrammar as g
use Rattle.sql_grammar.proofs.queries.QueryForms.{form_has_prefixes}
use Rattle.schema_read.proofs.statement_laws.prefixes.Goals as goal

pub returns : goal.returns
returns c = let prefixes = form_has_prefixes None g.statements in record {
  empty = prefixes.empty;
  shorter = prefixes.shorter;
  spelled = λ before after ts list s. prefixes.spelled ts s.0 s.1;
  limited = λ room. form_has_prefixes room g.statements;
}
