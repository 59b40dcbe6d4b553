use Rattle.std.proofs.Common.{arith}
use Rattle.scope_core.proofs.resolving.Aggregates.{list_has-drop}
use Rattle.scope_core.proofs.checks.+aggregates.Goals as goal

pub some_has_aggregate-returns-then-has_aggregate : goal.some_has_aggregate-returns-then-has_aggregate
some_has_aggregate-returns-then-has_aggregate t c =
    let es = c.args.exprs.now in
    let next = list_has-drop es c.loop-expr.expr-index c.expr-item.result c.loop-expr-test.true c.expr-item.is in
    grind (arith, c.loop-expr.invariant, next, c.has_aggregate.ensures, c.if-has_aggregate.true)

pub some_has_aggregate-loop-expr-preserved : goal.some_has_aggregate-loop-expr-preserved
some_has_aggregate-loop-expr-preserved t c =
    let es = c.args.exprs.now in
    let next = list_has-drop es c.loop-expr.expr-index c.expr-item.result c.loop-expr-test.true c.expr-item.is in
    grind (arith, c.loop-expr.invariant, next, c.has_aggregate.ensures, c.if-has_aggregate.false)
