use Rattle.std.proofs.Common.{arith}
use Rattle.proof_text.proofs.writing.LongTexts.{capped_all, length-arguments}
use Rattle.proof_text.proofs.lengths.arguments_length.Goals as goal

pub returns-clause-length : goal.returns-clause-length
returns-clause-length c = capped_all _ c.args.arguments.now c.loop-argument.argument-index _ _ _ c.loop-argument.invariant.sum (omega arith) (length-arguments c.args.arguments.now)
