use Rattle.normal_form.specs.NormalTerms.{IsNormal}
use Rattle.u_normal.specs.Rooms.{InRoom}
use Rattle.u_normal.proofs.terms.Largeness.{too-large, shapeless-keeps}
use Rattle.u_normal.proofs.limits.unshaped.Goals as goal

pub returns-in-Some-clause-large : goal.returns-in-Some-clause-large
returns-in-Some-clause-large c =
    too-large c.args.moves.facts.now c.args.moves.outs c.args.u.now (InRoom c.room_for-room.result IsNormal) c.room_for-room.result c.in-Some.nodes c.in_ok-d.d c.room_for-room.ensures
    (c.in_ok-d.ensures {u = tt}) c.in-Some.ensures c.requires.shapeless

pub returns-clause-shapes : goal.returns-clause-shapes
returns-clause-shapes c = shapeless-keeps c.args.moves.outs c.args.u.now c.in_ok-d.d c.requires.shapeless
