use Rattle.grammar.proofs.languages.Limits.{completed_begins, grows, one_cost, whole_completed}
use Rattle.sql_grammar.proofs.copies.CopyOnce.{query_costs}
use Rattle.sql_grammar.proofs.laws.copies.Goals as goal

pub returns-clause-begins : goal.returns-clause-begins
returns-clause-begins c = completed_begins query_costs.prefixes

pub returns-clause-completed : goal.returns-clause-completed
returns-clause-completed c = query_costs.completed

pub returns-clause-whole : goal.returns-clause-whole
returns-clause-whole c = whole_completed

pub returns-clause-least : goal.returns-clause-least
returns-clause-least c = λ ts more read other r s. query_costs.least ts r.more more read other r.are_chosen r.spelled s

pub returns-clause-one : goal.returns-clause-one
returns-clause-one c = one_cost query_costs

pub returns-clause-grows : goal.returns-clause-grows
returns-clause-grows c = λ x y read other r s. grows query_costs x y other read r s
