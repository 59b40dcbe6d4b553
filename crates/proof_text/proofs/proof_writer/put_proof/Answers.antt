use Rattle.proof_text.proofs.writing.Sending.{writes-then}
use Rattle.proof_text.proofs.proof_writer.put_proof.Goals as goal

pub returns-clause-writes : goal.returns-clause-writes
returns-clause-writes g c = writes-then c.put.ensures (writes-then c.put_number.ensures (writes-then c.put-2.ensures (writes-then c.put_steps.ensures.writes c.put-3.ensures)))
