use Rattle.std.proofs.Common.{refl}
use Rattle.proof_text.specs.Words.{RunHasWord}
use Rattle.u_deriv.specs.StepText.{run_text}
use Rattle.proof_text.proofs.writing.Sending.{writes-as, writes-then}
use Rattle.proof_text.proofs.writing.TextsAt.{flat_map-next, each-next}
use Rattle.proof_text.proofs.step_writer.put_runs.Goals as goal

pub loop-run-preserved : goal.loop-run-preserved
loop-run-preserved g c = record {
  writes = writes-as (flat_map-next run_text c.args.runs.now c.loop-run.run-index _ _ refl c.loop-run-test.true) (writes-then c.loop-run.invariant.writes c.put_run.ensures.writes);
  words = each-next RunHasWord c.args.runs.now c.loop-run.run-index _ _ refl c.loop-run-test.true c.loop-run.invariant.words c.put_run.ensures.word;
}
