use Rattle.u_deriv.proofs.editing.Exchanges.{room-there, room-within, written}
use Rattle.u_deriv.proofs.spending.put_term.Goals as goal

pub edit_at-requires-clause-room : goal.edit_at-requires-clause-room
edit_at-requires-clause-room c =
    rw (c.along.ensures, c.root.ensures)
    (room-there c.args.outs c.args.path.now c.args.u.now c.args.other.now (room-within c.args.outs c.args.path.now c.args.u.now c.args.other.now c.requires.room))

pub returns : goal.returns
returns c =
    written c.args.outs c.args.path.now c.args.names c.args.u.now c.args.other.now c.edit_at.new.u c.args.from c.edit_at.result
    (rw (c.along.ensures, c.root.ensures) at c.edit_at.ensures.term) (rw (c.along.ensures, c.root.ensures) at c.edit_at.ensures.found)
