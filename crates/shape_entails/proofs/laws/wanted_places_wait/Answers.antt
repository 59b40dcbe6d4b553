use Rattle.shape_entails.proofs.Positions.{others-wait, wanted-waits}
use Rattle.shape_entails.proofs.laws.wanted_places_wait.Goals as goal

pub returns-clause-next : goal.returns-clause-next
returns-clause-next c = wanted-waits

pub returns-clause-others : goal.returns-clause-others
returns-clause-others c = others-wait
