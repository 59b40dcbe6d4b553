use Rattle.shape_entails.proofs.Putting.{product-put}
use Rattle.shape_entails.proofs.laws.values_may_be_put.Goals as goal

pub returns-clause-product : goal.returns-clause-product
returns-clause-product c = product-put
