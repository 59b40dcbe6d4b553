use Rattle.std.proofs.Common.{◌++◌, List, drop}
use Rattle.u_entail.specs.declared.hops.Hop.{Hop}
use Rattle.u_entail.specs.Carrying.{AlongPairs}
use Rattle.u_entail.proofs.hops.hops_between.Given as goal

-- whatever leads along the rest leads along all of them
abbrev pub invariant-loop-k : goal.invariant-loop-k
invariant-loop-k l = (made : List Hop) → AlongPairs l.classes l.k (drop l.k l.pairs) made → AlongPairs l.classes 0 l.pairs (l.hops.items ++ made)
