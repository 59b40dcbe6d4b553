use Rattle.bag_search.proofs.Columns.{next-column}
use Rattle.bag_search.proofs.sides.point_fits.Goals as goal

pub loop-column-preserved : goal.loop-column-preserved
loop-column-preserved c =
    next-column _ c.args.step.entry c.loop-column.column c.args.columns _ c.like.result c.loop-column-test.true c.like.ensures c.if-not-like.false c.loop-column.invariant
