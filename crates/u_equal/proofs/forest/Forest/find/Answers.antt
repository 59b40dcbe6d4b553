use Rattle.u_equal.proofs.products.KeyLaws.{found}
use Rattle.u_equal.proofs.forest.Forest.find.Goals as goal

pub returns : goal.returns
returns c = found c.args.value.now c.args.self.now.values.keys c.get_index_of.result c.get_index_of.ensures.index c.get_index_of.ensures.found
