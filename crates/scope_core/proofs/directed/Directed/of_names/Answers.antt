use Rattle.std.proofs.Common.{ap}
use Rattle.scope_core.specs.Ropes.{is_sound}
use Rattle.scope_core.proofs.directed.Directed.of_names.Goals as goal

pub invariant_of-result : goal.invariant_of-result
unfolding is_sound
invariant_of-result c = ap is_sound (c.in_ok-rope.ensures {u = tt})
