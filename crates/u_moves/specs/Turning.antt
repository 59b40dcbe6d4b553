-- The same steps the other way.
use Rattle.std.specs.Prelude.{not, List, map, reverse}
use Rattle.u_deriv.specs.declared.step.Step.{Step, out-Step, roll-Step}

-- Only the direction turns: inner steps lead from the square of the argument to the argument in both directions.
abbrev pub flipped : Step → Step
flipped s =
    let d = out-Step s in
    roll-Step (record { path = d.path; forward = not d.forward; rule = d.rule; args = d.args; inner = d.inner })

-- the last one first
abbrev pub turned_back : List Step → List Step
turned_back steps = map flipped (reverse steps)
