use Rattle.shape_entails.proofs.Turned.{as-many-sums, turning}
use Rattle.shape_entails.proofs.laws.turns_begin.Goals as goal

pub returns-clause-as_many : goal.returns-clause-as_many
returns-clause-as_many c = as-many-sums

pub returns-clause-turning : goal.returns-clause-turning
returns-clause-turning c = turning
