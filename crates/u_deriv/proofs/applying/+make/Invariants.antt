use Rattle.std.proofs.Common.{◌+◌, ◌*◌, ◌≤◌, ◌<◌, ◌^◌, take, drop}
use Rattle.u_terms.specs.Syntax.{U}
use Rattle.u_terms.specs.Size.{depth}
use Rattle.u_deriv.specs.StepHeight.{step_height, list_height}
use Rattle.u_deriv.specs.Steps.{Replays}
use Rattle.u_deriv.proofs.applying.+make.Given as goal

abbrev pub decreases-make : goal.decreases-make
decreases-make l = 4 * step_height l.step.now + 3

abbrev pub decreases-make_by_proof : goal.decreases-make_by_proof
decreases-make_by_proof l = 4 * step_height l.step.now + 2

abbrev pub decreases-shows_square : goal.decreases-shows_square
decreases-shows_square l = 4 * list_height l.steps.now + 5

abbrev pub decreases-replay : goal.decreases-replay
decreases-replay l = 4 * list_height l.steps.now + 4

abbrev pub invariant-replay-loop-step : goal.invariant-replay-loop-step
invariant-replay-loop-step l =
    Replays l.facts l.outs l.initial.u (take l.step-index l.steps) l.u
    × ((end : U) → Replays l.facts l.outs l.initial.u l.steps end → Replays l.facts l.outs l.u (drop l.step-index l.steps) end)
    × (l.most < 2 ^ 32 → depth l.u ≤ l.most)
