use Rattle.grammar.proofs.languages.Heights.{name_prefixes}
use Rattle.grammar.proofs.laws.prefixes.Goals as goal

pub returns : goal.returns
returns g c = name_prefixes g.G.Grammar.kind g.G.Grammar.rules
