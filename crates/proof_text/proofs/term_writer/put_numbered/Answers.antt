use Rattle.proof_text.proofs.writing.Sending.{writes-then}
use Rattle.proof_text.proofs.term_writer.put_numbered.Goals as goal

pub returns-clause-writes : goal.returns-clause-writes
returns-clause-writes g c = writes-then c.put.ensures c.put_number.ensures
