use Rattle.grammar.proofs.languages.ParsesSound.{computed, computed_prefix}
use Rattle.grammar.proofs.laws.computing.Goals as goal

pub returns-clause-spelled : goal.returns-clause-spelled
returns-clause-spelled g c = computed g.G.Grammar.kind g.G.Grammar.rules

pub returns-clause-begun : goal.returns-clause-begun
returns-clause-begun g c = computed_prefix g.G.Grammar.kind g.G.Grammar.rules
