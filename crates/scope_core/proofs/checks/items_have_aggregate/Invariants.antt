use Rattle.std.proofs.Common.{◌≡◌, drop}
use Rattle.scope_core.specs.Lent.{items_have_aggregate_listed}
use Rattle.scope_core.proofs.checks.items_have_aggregate.Given as goal

abbrev pub invariant-loop-item : goal.invariant-loop-item
invariant-loop-item l = items_have_aggregate_listed l.items ≡ items_have_aggregate_listed (drop l.item-index l.items)
