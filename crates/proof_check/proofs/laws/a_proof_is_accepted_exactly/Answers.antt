use Rattle.proof_check.proofs.accepted.StepsTaken.{shown-accepted}
use Rattle.proof_check.proofs.accepted.StepsKept.{accepted-shown}
use Rattle.proof_check.proofs.laws.a_proof_is_accepted_exactly.Goals as goal

pub returns : goal.returns
returns c = λ facts outs left right bytes word. (shown-accepted facts outs left right bytes word, accepted-shown facts outs left right bytes)
