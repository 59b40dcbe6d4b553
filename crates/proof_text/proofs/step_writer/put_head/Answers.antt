use Rattle.proof_text.proofs.writing.Sending.{writes-as, writes-then}
use Rattle.proof_text.proofs.writing.TextsAt.{head-parts}
use Rattle.proof_text.proofs.step_writer.put_head.Goals as goal

pub returns-clause-writes : goal.returns-clause-writes
returns-clause-writes g c =
    writes-as (head-parts c.args.step.now _ _ _ _ c.runs.ensures.lent c.arrow.ensures.text c.name_of.ensures.text c.as_slice.ensures)
    (writes-then c.put.ensures (writes-then c.put_runs.ensures.writes (writes-then c.put-2.ensures (writes-then c.put-3.ensures c.put_arguments.ensures.writes))))
