use Rattle.std.proofs.Common.{None}
use Rattle.grammar.proofs.languages.ParsesSound.{computed}
use Rattle.sql_grammar.specs.Kinds.{kind_of}
use Rattle.sql_grammar.specs.QueryGrammar.{query}
use Rattle.sql_grammar.specs.Queries.{rules}
use Rattle.sql_grammar.proofs.laws.computing.Goals as goal

pub returns : goal.returns
returns c height ts read others before after q e i = (read, computed kind_of rules height None query ts read others e, i)
