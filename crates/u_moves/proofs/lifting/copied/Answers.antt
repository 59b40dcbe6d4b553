use Rattle.std.proofs.Common.{arith}
use Rattle.u_moves.proofs.contexts.Paths.{pushed-next}
use Rattle.u_moves.proofs.lifting.copied.Goals as goal

pub loop-run-preserved : goal.loop-run-preserved
loop-run-preserved c = grind (arith, pushed-next, c.in_ok-push.ensures {u = tt}, c.runs-run-items.ensures.normal)
