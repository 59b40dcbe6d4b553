use Rattle.std.proofs.Common.{◌++◌, List, drop}
use Rattle.u_equal.specs.Routes.{Course}
use Rattle.u_entail.specs.Carrying.{LeadAlong}
use Rattle.u_entail.proofs.carrying.routes_of.Given as goal

-- whatever leads along the rest leads along all of them
abbrev pub invariant-loop-pair : goal.invariant-loop-pair
invariant-loop-pair l = (made : List Course) → LeadAlong l.classes (drop l.pair-index l.pairs) made → LeadAlong l.classes l.pairs (l.routes.items ++ made)
