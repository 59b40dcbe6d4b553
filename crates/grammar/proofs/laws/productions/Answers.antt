use Rattle.grammar.proofs.languages.Heights.{to_rule, from_rule}
use Rattle.grammar.proofs.laws.productions.Goals as goal

pub returns-clause-there : goal.returns-clause-there
returns-clause-there g c = to_rule g.G.Grammar.kind g.G.Grammar.rules

pub returns-clause-back : goal.returns-clause-back
returns-clause-back g c = from_rule g.G.Grammar.kind g.G.Grammar.rules
