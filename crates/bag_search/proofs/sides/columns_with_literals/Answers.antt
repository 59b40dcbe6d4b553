use Rattle.bag_search.proofs.Columns.{next-column}
use Rattle.bag_search.proofs.sides.columns_with_literals.Goals as goal

pub loop-column-preserved : goal.loop-column-preserved
loop-column-preserved c =
    next-column _ c.args.step.entry c.loop-column.column c.args.columns _ c.literals_fit.result c.loop-column-test.true c.literals_fit.ensures c.if-not-literals_fit.false c.loop-column.invariant
