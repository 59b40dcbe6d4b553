use Rattle.std.proofs.Common.{None}
use Rattle.grammar.specs.Form.{ref}
use Rattle.grammar.proofs.languages.Limits.{completed_in}
use Rattle.sql_grammar.specs.QueryGrammar.{query}
use Rattle.sql_grammar.proofs.copies.CopyLimits.{too_many_here}
use Rattle.sql_grammar.proofs.copies.CopyOnce.{query_costs}
use Rattle.sql_grammar.proofs.factored.Known.{grammar_includes}
use Rattle.sql_grammar.proofs.queries.QueryKnown.{factored_includes}
use Rattle.sql_grammar.proofs.laws.factored_copies.Goals as goal

pub returns-clause-there : goal.returns-clause-there
returns-clause-there c = completed_in (grammar_includes None query)

pub returns-clause-back : goal.returns-clause-back
returns-clause-back c = completed_in (factored_includes None query)

pub returns-clause-too_much : goal.returns-clause-too_much
returns-clause-too_much c = too_many_here (ref query) query_costs
