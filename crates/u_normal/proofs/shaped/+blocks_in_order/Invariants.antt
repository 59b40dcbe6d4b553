use Rattle.u_terms.specs.Size.{nodes}
use Rattle.u_normal.proofs.shaped.+blocks_in_order.Given as goal

abbrev pub decreases-blocks_in_order : goal.decreases-blocks_in_order
decreases-blocks_in_order l = nodes l.u.now
