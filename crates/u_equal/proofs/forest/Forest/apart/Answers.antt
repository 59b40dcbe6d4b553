use Rattle.std.proofs.Common.{arith}
use Rattle.u_equal.proofs.edges.Trees.{tree-fresh}
use Rattle.u_equal.proofs.forest.Forest.apart.Goals as goal

pub returns-clause-tree : goal.returns-clause-tree
returns-clause-tree c =
    tree-fresh _ _ _ c.new.ensures.items (omega (arith, c.loop-place.invariant.long, c.len-count.ensures.len))
    (λ i less. c.loop-place.invariant.roots i (omega (arith, less, c.len-count.ensures.len, c.loop-place-test.false)))
