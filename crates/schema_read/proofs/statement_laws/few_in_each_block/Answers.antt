use Rattle.sql_grammar.proofs.entries.FewSpelled.{built_again}
use Rattle.schema_read.proofs.spelled.FewStatements.{built_few, views_again, views_few}
use Rattle.schema_read.proofs.statement_laws.few_in_each_block.Goals as goal

pub returns : goal.returns
returns c = record { queries = built_few; views = views_few; other_queries = built_again; other_views = views_again }
