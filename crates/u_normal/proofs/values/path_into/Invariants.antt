use Rattle.std.proofs.Common.{◌≡◌, take}
use Rattle.u_normal.proofs.derivations.IntoAggregates.{runs_of}
use Rattle.u_normal.proofs.values.path_into.Given as goal

abbrev pub invariant-loop-index : goal.invariant-loop-index
invariant-loop-index l = l.path ≡ runs_of (take l.index-index l.indices)
