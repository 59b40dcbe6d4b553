use Rattle.std.proofs.Common.{◌≡◌, ◌++◌, take, drop}
use Rattle.u_moves.specs.Lifting.{lifted}
use Rattle.u_moves.proofs.lifting.lift.Given as goal

abbrev pub invariant-loop-step : goal.invariant-loop-step
invariant-loop-step l = l.steps ≡ lifted l.fn.path (take l.step-index l.fn.steps) ++ drop l.step-index l.fn.steps
