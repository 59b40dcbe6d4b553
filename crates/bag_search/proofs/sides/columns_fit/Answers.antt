use Rattle.bag_search.proofs.Columns.{next-column}
use Rattle.bag_search.proofs.sides.columns_fit.Goals as goal

pub loop-column-preserved : goal.loop-column-preserved
loop-column-preserved c =
    next-column _ c.args.one.entry c.loop-column.column c.args.columns _ c.point_fits.result c.loop-column-test.true c.point_fits.ensures c.if-not-point_fits.false c.loop-column.invariant
