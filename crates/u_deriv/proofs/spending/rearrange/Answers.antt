use Rattle.std.proofs.Common.{◌+◌}
use Rattle.u_terms.specs.Size.{depth}
use Rattle.u_deriv.specs.declared.step.Step.{out-Step}
use Rattle.u_deriv.proofs.steps.Spent.{rearranged, left-room, right-room}
use Rattle.u_deriv.proofs.spending.rearrange.Goals as goal

pub write-requires-clause-room : goal.write-requires-clause-room
write-requires-clause-room c =
    let agree = rw (c.in-Ok-true.field-0-test, c.as_slice.ensures) at c.in-Ok-true.ensures in
    right-room (out-Step c.args.step.now).args c.args.measured.sizes (c.args.outs + depth c.args.u.now) agree.left agree.right agree.are c.requires.sizes c.requires.right_room

pub write-requires-else-step-clause-room : goal.write-requires-else-step-clause-room
write-requires-else-step-clause-room c =
    let agree = rw (c.in-Ok-true.field-0-test, c.as_slice.ensures) at c.in-Ok-true.ensures in
    left-room (out-Step c.args.step.now).args c.args.measured.sizes (c.args.outs + depth c.args.u.now) agree.left agree.right agree.are c.requires.sizes c.requires.left_room

pub returns-then-step : goal.returns-then-step
returns-then-step c = λ facts.
    rearranged facts c.args.step.now c.args.product c.requires.rule c.in-Some.names
    (rw c.in-Some.is at c.requires.names) (rw (c.in-Ok-true.field-0-test, c.as_slice.ensures) at c.in-Ok-true.ensures) c.args.outs c.args.u.now c.write.new.u c.write.result
    (rw c.if-step.true c.write.ensures)

pub returns-else-step : goal.returns-else-step
returns-else-step c = λ facts.
    rearranged facts c.args.step.now c.args.product c.requires.rule c.in-Some.names
    (rw c.in-Some.is at c.requires.names) (rw (c.in-Ok-true.field-0-test, c.as_slice.ensures) at c.in-Ok-true.ensures) c.args.outs c.args.u.now c.write-else-step.new.u c.write-else-step.result
    (rw c.if-step.false c.write-else-step.ensures)
