use Rattle.block_costs.proofs.Permuted.{small-in_any_order}
use Rattle.block_costs.proofs.laws.sizes_stay_in_another_order.Goals as goal

pub returns : goal.returns
returns c = small-in_any_order
