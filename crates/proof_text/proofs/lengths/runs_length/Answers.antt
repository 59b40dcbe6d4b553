use Rattle.std.proofs.Common.{arith}
use Rattle.proof_text.proofs.writing.LongTexts.{capped_all, length-runs}
use Rattle.proof_text.proofs.lengths.runs_length.Goals as goal

pub returns-clause-length : goal.returns-clause-length
returns-clause-length c = capped_all _ c.args.runs.now c.loop-run.run-index _ _ _ c.loop-run.invariant.sum (omega arith) (length-runs c.args.runs.now)
