use Rattle.std.proofs.Common.{refl}
use Rattle.u_moves.proofs.derivations.Whole.{if-ok}
use Rattle.u_normal.specs.Leading.{Leads}
use Rattle.u_normal.specs.Rooms.{InRoom}
use Rattle.u_normal.specs.Summing.{IsBlockSum}
use Rattle.u_normal.proofs.derivations.InRooms.{within-over, not-over, leads-within}
use Rattle.u_normal.proofs.whole.over_each_in_room.Goals as goal

pub then_over_each-requires-clause-sum : goal.then_over_each-requires-clause-sum
then_over_each-requires-clause-sum c = c.requires.sum.fits (not-over c.args.room c.args.sum.to (c.if-is_over.ensures {u = tt}).1)

pub returns-then-is_over : goal.returns-then-is_over
returns-then-is_over c =
    record { facts = c.requires.by.facts; outs = c.requires.by.outs; from = refl; reached = within-over c.args.room IsBlockSum c.args.sum.to (c.is_over.ensures.0 c.if-is_over.true) }

pub returns : goal.returns
returns c =
    if-ok (Leads IsBlockSum c.args.moves.facts.now c.args.moves.outs c.args.sum.from) (Leads (InRoom c.args.room IsBlockSum) c.args.moves.facts.now c.args.moves.outs c.args.sum.from)
    (leads-within c.args.room IsBlockSum c.args.moves.facts.now c.args.moves.outs c.args.sum.from)
    c.then_over_each.result c.then_over_each.ensures
