use Rattle.schema_read.specs.StatementGrammar as g
use Rattle.sql_grammar.proofs.queries.QueryForms.{known_includes, left_factored_includes}
use Rattle.schema_read.proofs.statement_laws.same_languages.Goals as goal

pub returns : goal.returns
returns c = record { left_factored = λ room. left_factored_includes room g.statements; known = λ room. known_includes room g.statements }
