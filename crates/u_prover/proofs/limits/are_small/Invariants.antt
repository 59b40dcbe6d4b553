use Rattle.std.proofs.Common.{take}
use Rattle.data_model.specs.Lists.{Each}
use Rattle.u_prover.specs.Proving.{IsSmallStep}
use Rattle.u_prover.proofs.limits.are_small.Given as goal

abbrev pub invariant-loop-step : goal.invariant-loop-step
invariant-loop-step l = Each (IsSmallStep l.facts) (take l.step-index l.steps)
