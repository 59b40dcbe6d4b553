use Rattle.std.proofs.Common.{[], ◌∷◌}
use Rattle.u_deriv.specs.declared.run.Run.TheVariants.{Right}
use Rattle.u_moves.specs.Lifting.{IsMadeIn}
use Rattle.u_moves.proofs.derivations.Whole.{if-ok}
use Rattle.u_normal.specs.Shaped.{IsBriefBeside}
use Rattle.u_normal.proofs.costs.ShortSteps.{beside-left, beside-right, brief-beside}
use Rattle.u_normal.proofs.shaped.made_beside.Goals as goal

pub made_in_turn-requires-clause-part : goal.made_in_turn-requires-clause-part
made_in_turn-requires-clause-part c =
    beside-left c.args.moves.facts.now c.args.moves.outs c.args.u.now c.args.left c.args.right c.requires.parts c.requires.known c.in_ok-whole.whole (c.in_ok-whole.ensures {u = tt})

pub made_in_turn-requires-2-clause-part : goal.made_in_turn-requires-2-clause-part
made_in_turn-requires-2-clause-part c =
    beside-right c.args.moves.facts.now c.args.moves.outs c.args.u.now c.args.left c.args.right c.requires.parts c.in_ok-whole.whole c.in_ok-half.half (c.in_ok-whole.ensures {u = tt})
    (c.in_ok-half.ensures {u = tt}) c.requires.known

pub returns : goal.returns
returns c =
    if-ok (IsMadeIn (Right 1 ∷ []) c.in_ok-half.half c.args.right)
    (IsBriefBeside c.args.moves.facts.now c.args.moves.outs c.args.u.now c.args.left c.args.right)
    (brief-beside c.args.moves.facts.now c.args.moves.outs c.args.u.now c.args.left c.args.right c.requires.parts c.in_ok-whole.whole c.in_ok-half.half (c.in_ok-whole.ensures {u = tt}) (c.in_ok-half.ensures {u = tt}))
    c.made_in_turn-2.result c.made_in_turn-2.ensures
