use Rattle.std.proofs.Common.{arith}
use Rattle.scope_core.proofs.resolving.Aggregates.{items_have-drop}
use Rattle.scope_core.proofs.checks.items_have_aggregate.Goals as goal

pub returns-then-item_has_aggregate : goal.returns-then-item_has_aggregate
returns-then-item_has_aggregate c =
    let next = items_have-drop c.args.items.now c.loop-item.item-index c.item-item.result c.loop-item-test.true c.item-item.is in
    grind (arith, c.loop-item.invariant, next, c.item_has_aggregate.ensures, c.if-item_has_aggregate.true)

pub loop-item-preserved : goal.loop-item-preserved
loop-item-preserved c =
    let next = items_have-drop c.args.items.now c.loop-item.item-index c.item-item.result c.loop-item-test.true c.item-item.is in
    grind (arith, c.loop-item.invariant, next, c.item_has_aggregate.ensures, c.if-item_has_aggregate.false)
