use Rattle.std.proofs.Common.{◌≡◌, ◌++◌, take, drop, map}
use Rattle.u_moves.specs.Turning.{flipped}
use Rattle.u_moves.proofs.turning.flip_all.Given as goal

abbrev pub invariant-loop-step : goal.invariant-loop-step
invariant-loop-step l = l.steps ≡ map flipped (take l.step-index l.fn.steps) ++ drop l.step-index l.fn.steps
