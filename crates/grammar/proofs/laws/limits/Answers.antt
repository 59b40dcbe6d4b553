use Rattle.grammar.proofs.languages.Heights.{name_grows}
use Rattle.grammar.proofs.laws.limits.Goals as goal

pub returns : goal.returns
returns g c = name_grows g.G.Grammar.kind g.G.Grammar.rules
