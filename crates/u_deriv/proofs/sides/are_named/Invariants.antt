use Rattle.std.proofs.Common.{take}
use Rattle.u_rules.specs.Sides.{AreNamed}
use Rattle.u_deriv.proofs.sides.are_named.Given as goal

abbrev pub invariant-loop-arg : goal.invariant-loop-arg
invariant-loop-arg l = AreNamed l.bound (take l.arg-index l.args)
