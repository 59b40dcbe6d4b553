use Rattle.std.proofs.Common.{◌≡◌, true, false, length, subst}
use Rattle.u_terms.specs.Syntax.{U}
use Rattle.u_moves.specs.Derivations.{IsKnown}
use Rattle.u_normal.specs.Shaped.{HasSomeShape}
use Rattle.u_normal.proofs.terms.KnownParts.{known-squashed}
use Rattle.u_normal.proofs.shapes.TidiedBlocks.{shape-loose}
use Rattle.u_normal.proofs.shapes.ShapedSums.{squash-not_shaped}
use Rattle.u_normal.proofs.costs.ShapedEnds.{squash-part, squash-brief, squash-end}
use Rattle.u_normal.proofs.shaped.squash_of_block.Goals as goal

pub returns-then-not-branch : goal.returns-then-not-branch
returns-then-not-branch c =
    squash-not_shaped c.args.moves.outs c.args.u.now c.args.block.now c.requires.is
    (λ h. let k : c.in_ok-has_shape.field-0 ≡ true = (c.in_ok-has_shape.ensures {u = tt}).1 h in let n : c.in_ok-has_shape.field-0 ≡ false = c.if-not-branch.true in cc)

pub block_in_order-requires-clause-known : goal.block_in_order-requires-clause-known
block_in_order-requires-clause-known c = known-squashed c.args.moves.outs c.args.block.now (subst (λ (u : U). IsKnown 0 c.args.moves.outs u) c.requires.is c.requires.known)

pub block_in_order-requires-clause-block : goal.block_in_order-requires-clause-block
block_in_order-requires-clause-block c =
    let has : HasSomeShape c.args.moves.outs c.args.block.now = (c.in_ok-has_shape.ensures {u = tt}).0 c.if-not-branch.false in
    shape-loose c.args.moves.outs c.args.block.now has.shape has.has

pub made_inside-requires-clause-part : goal.made_inside-requires-clause-part
made_inside-requires-clause-part c =
    let part = c.in_ok-part.ensures {u = tt} in
    squash-part c.args.moves.outs c.in_ok-part.part.outs c.args.u.now c.args.block.now c.in_ok-part.part.from part.ends.outs c.requires.is part.ends.from
    (known-squashed c.args.moves.outs c.args.block.now (subst (λ (u : U). IsKnown 0 c.args.moves.outs u) c.requires.is c.requires.known))

pub returns : goal.returns
returns c =
    let part = c.in_ok-part.ensures {u = tt} in
    squash-end c.args.moves.facts.now c.args.moves.outs c.args.u.now c.args.block.now c.in_ok-part.part.to (length c.in_ok-part.part.steps) c.in_ok-made_inside.field-0 c.requires.is
    ((c.in_ok-has_shape.ensures {u = tt}).0 c.if-not-branch.false) part.ends.to part.short.few
    (squash-brief c.args.moves c.args.u.now c.args.block.now c.in_ok-part.part c.requires.is part c.in_ok-made_inside.field-0 (c.in_ok-made_inside.ensures {u = tt}))
