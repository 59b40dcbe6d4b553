use Rattle.std.proofs.Common.{◌≡◌, true, false, arith}
use Rattle.u_deriv.specs.declared.step.Step.{out-Step}
use Rattle.u_deriv.proofs.steps.Applied.{forward-depth, backward-depth}
use Rattle.u_deriv.proofs.applying.new_depth.Goals as goal

pub returns-then-step : goal.returns-then-step
returns-then-step c =
    let yes : (out-Step c.args.step.now).forward ≡ true = grind (arith, c.if-step.true) in
    λ from to i. forward-depth c.args.facts.now c.args.step.now c.sizes-sizes.result (rw c.as_slice.ensures at c.sizes-sizes.ensures) (out-Step c.args.step.now).forward yes from to i

pub returns-else-step : goal.returns-else-step
returns-else-step c =
    let no : (out-Step c.args.step.now).forward ≡ false = grind (arith, c.if-step.false) in
    λ from to i. backward-depth c.args.facts.now c.args.step.now c.sizes-sizes.result (rw c.as_slice.ensures at c.sizes-sizes.ensures) (out-Step c.args.step.now).forward no from to i
