use Rattle.grammar.proofs.readers.Predictions.{named}
use Rattle.grammar.proofs.laws.lookahead.Goals as goal

pub returns : goal.returns
returns g c room n = (named g.G.Predictive.grammar room n).ahead
