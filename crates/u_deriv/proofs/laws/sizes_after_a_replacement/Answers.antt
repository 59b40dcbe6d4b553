use Rattle.u_deriv.proofs.contexts.Extents.{replaced-nodes, replaced-depth, replaced-at_root, replaced-in_square}
use Rattle.u_deriv.proofs.laws.sizes_after_a_replacement.Goals as goal

pub returns-clause-nodes : goal.returns-clause-nodes
returns-clause-nodes c = replaced-nodes

pub returns-clause-depth : goal.returns-clause-depth
returns-clause-depth c = replaced-depth

pub returns-clause-root : goal.returns-clause-root
returns-clause-root c = replaced-at_root

pub returns-clause-square : goal.returns-clause-square
returns-clause-square c = replaced-in_square
