use Rattle.u_deriv.proofs.editing.Exchanges.{room-there, room-Zero, exchanged}
use Rattle.u_deriv.specs.declared.step.Step.{out-Step}
use Rattle.u_terms.specs.declared.term.U.TheVariants as u
use Rattle.u_deriv.proofs.applying.exchange.Goals as goal

pub edit_at-requires-clause-room : goal.edit_at-requires-clause-room
edit_at-requires-clause-room c =
    rw (c.along.ensures, c.root.ensures)
    (room-there c.args.outs (out-Step c.args.step.now).path c.args.u.now u.Zero (room-Zero c.args.outs (out-Step c.args.step.now).path c.args.u.now c.requires.shallow))

pub returns : goal.returns
returns c =
    exchanged c.args.alloc c.args.facts c.args.step c.args.outs c.args.u.now c.edit_at.new.u c.edit_at.result
    (rw (c.along.ensures, c.root.ensures) at c.edit_at.ensures.term) (rw (c.along.ensures, c.root.ensures) at c.edit_at.ensures.found)
