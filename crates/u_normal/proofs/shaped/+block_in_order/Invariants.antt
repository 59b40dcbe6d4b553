use Rattle.u_terms.specs.Size.{nodes}
use Rattle.u_normal.proofs.shaped.+block_in_order.Given as goal

abbrev pub decreases-block_in_order : goal.decreases-block_in_order
decreases-block_in_order l = nodes l.u.now
