use Rattle.std.proofs.Common.{◌++◌, List, drop}
use Rattle.u_entail.specs.declared.hops.Hop.{Hop}
use Rattle.u_entail.specs.Carrying.{AlongCourses}
use Rattle.u_entail.proofs.hops.hops_along.Given as goal

-- whatever leads along the rest leads along all of them
abbrev pub invariant-loop-k : goal.invariant-loop-k
invariant-loop-k l = (made : List Hop) → AlongCourses l.k (drop l.k l.routes) made → AlongCourses 0 l.routes (l.hops.items ++ made)
