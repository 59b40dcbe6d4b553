use Rattle.u_normal.proofs.costs.ShapedEnds.{sum-end}
use Rattle.u_normal.proofs.shaped.sum_of_blocks.Goals as goal

pub returns : goal.returns
returns c =
    let row = c.in_ok-then_in_row.ensures {u = tt} in
    sum-end c.args.moves.facts.now c.args.moves.outs c.args.u.now c.in_ok-each.each c.in_ok-then_in_row.field-0 c.requires.other ((c.in_ok-have_shapes.ensures {u = tt}).0 c.if-not-branch.false)
    (c.in_ok-each.ensures {u = tt}) row.ends row.more
