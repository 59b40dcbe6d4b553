use Rattle.std.proofs.Common.{◌≡◌, drop}
use Rattle.scope_core.specs.Lent.{list_has_aggregate}
use Rattle.scope_core.proofs.checks.+aggregates.Given as goal

abbrev pub invariant-some_has_aggregate-loop-expr : goal.invariant-some_has_aggregate-loop-expr
invariant-some_has_aggregate-loop-expr l = list_has_aggregate l.exprs ≡ list_has_aggregate (drop l.expr-index l.exprs)
