use Rattle.std.proofs.Common.{ap, ◌∙◌}
use Rattle.scope_core.specs.Ropes.{are_listed_sound}
use Rattle.scope_core.proofs.basics.Ropes.{are_listed_sound-nil}
use Rattle.scope_core.proofs.directed.Joining.with_capacity.Goals as goal

pub invariant_of-result : goal.invariant_of-result
invariant_of-result c = ap are_listed_sound c.in_ok-with_capacity.ensures.items ∙ are_listed_sound-nil
