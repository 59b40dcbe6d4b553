use Rattle.proof_text.specs.Words.{ArgumentHasWords}
use Rattle.proof_text.proofs.writing.Sending.{writes-as, writes-then}
use Rattle.proof_text.proofs.writing.TextsAt.{behind_space, flat_map-next, each-next}
use Rattle.proof_text.proofs.step_writer.put_arguments.Goals as goal

pub loop-argument-preserved : goal.loop-argument-preserved
loop-argument-preserved g c = record {
  writes = writes-as (flat_map-next behind_space c.args.arguments.now c.loop-argument.argument-index _ _ c.argument-item.is c.loop-argument-test.true) (writes-then c.loop-argument.invariant.writes (writes-then c.put.ensures c.put_argument.ensures.writes));
  words = each-next ArgumentHasWords c.args.arguments.now c.loop-argument.argument-index _ _ c.argument-item.is c.loop-argument-test.true c.loop-argument.invariant.words c.put_argument.ensures.words;
}
