use Rattle.shape_entails.proofs.Positions.{sources-in-order, turning-found}
use Rattle.shape_entails.proofs.laws.turns_are_found.Goals as goal

pub returns-clause-turning : goal.returns-clause-turning
returns-clause-turning c = turning-found

pub returns-clause-sources : goal.returns-clause-sources
returns-clause-sources c = sources-in-order
