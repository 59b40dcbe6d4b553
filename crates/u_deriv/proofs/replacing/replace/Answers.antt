use Rattle.u_deriv.proofs.editing.Exchanges.{room-there, replaced, not_replaced}
use Rattle.u_deriv.proofs.replacing.replace.Goals as goal

pub edit_at-requires-clause-room : goal.edit_at-requires-clause-room
edit_at-requires-clause-room c = rw (c.along.ensures, c.root.ensures) (room-there c.args.outs c.args.path.now c.args.u.now c.args.to c.requires.room)

pub returns-in-Ok : goal.returns-in-Ok
returns-in-Ok c =
    replaced c.args.outs c.args.path.now c.args.u.now c.args.to c.edit_at.new.u c.args.from c.in-Ok.field-0
    (rw (c.along.ensures, c.root.ensures, c.in-Ok.is) at c.edit_at.ensures.term) (rw (c.along.ensures, c.root.ensures, c.in-Ok.is) at c.edit_at.ensures.found)

pub returns : goal.returns
returns c =
    not_replaced c.args.outs c.args.path.now c.args.u.now c.args.to c.edit_at.new.u c.args.from c.in-Err.fault
    (rw (c.along.ensures, c.root.ensures, c.in-Err.is) at c.edit_at.ensures.term) (rw (c.along.ensures, c.root.ensures, c.in-Err.is) at c.edit_at.ensures.found)
