use Rattle.u_prover.proofs.StepSizes.{none-passed}
use Rattle.u_prover.proofs.laws.plain_derivations_keep_the_limits.Goals as goal

pub returns : goal.returns
returns c = none-passed
