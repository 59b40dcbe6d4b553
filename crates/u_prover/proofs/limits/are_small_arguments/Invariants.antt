use Rattle.std.proofs.Common.{take}
use Rattle.data_model.specs.Lists.{Each}
use Rattle.proof_text.specs.Written.{IsSmall}
use Rattle.u_prover.proofs.limits.are_small_arguments.Given as goal

abbrev pub invariant-loop-argument : goal.invariant-loop-argument
invariant-loop-argument l = Each IsSmall (take l.argument-index l.arguments)
