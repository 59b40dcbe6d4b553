use Rattle.shape_entails.proofs.Putting.{put-under}
use Rattle.shape_entails.proofs.laws.values_may_be_put_under_sums.Goals as goal

pub returns-clause-product : goal.returns-clause-product
returns-clause-product c = put-under
