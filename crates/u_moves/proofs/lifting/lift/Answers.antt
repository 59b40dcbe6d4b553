use Rattle.u_moves.specs.Lifting.{lifted_step}
use Rattle.u_moves.proofs.contexts.Items.{one-changed}
use Rattle.u_moves.proofs.lifting.lift.Goals as goal

pub loop-step-preserved : goal.loop-step-preserved
loop-step-preserved c =
    one-changed (lifted_step c.args.path.now) c.args.steps.now c.loop-step.steps c.loop-step.step-index c.step-item.result c.lift_step.new.step c.loop-step-test.true c.loop-step.invariant c.step-item.is
    (c.in_ok-lift_step.ensures {u = tt})
