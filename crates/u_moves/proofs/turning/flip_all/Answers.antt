use Rattle.u_moves.specs.Turning.{flipped}
use Rattle.u_moves.proofs.contexts.Items.{one-changed}
use Rattle.u_moves.proofs.turning.flip_all.Goals as goal

pub loop-step-preserved : goal.loop-step-preserved
loop-step-preserved c =
    one-changed flipped c.args.steps.now c.loop-step.steps c.loop-step.step-index c.step-item.result c.flip.new.step c.loop-step-test.true c.loop-step.invariant c.step-item.is c.flip.ensures
