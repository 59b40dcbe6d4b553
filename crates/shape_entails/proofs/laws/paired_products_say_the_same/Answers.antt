use Rattle.shape_entails.proofs.Matching.{say-the-same}
use Rattle.shape_entails.proofs.laws.paired_products_say_the_same.Goals as goal

pub returns : goal.returns
returns c = say-the-same
