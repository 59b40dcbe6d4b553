use Rattle.std.proofs.Common.{take}
use Rattle.u_equal.specs.Tables.{ArePlaces}
use Rattle.u_equal.proofs.calls.places_of.Given as goal

abbrev pub invariant-loop-value : goal.invariant-loop-value
invariant-loop-value l = ArePlaces l.forest.values.keys (take l.value-index l.values) l.places.items
