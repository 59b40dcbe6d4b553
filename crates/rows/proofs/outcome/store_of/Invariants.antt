use Rattle.std.proofs.Common.{◌≡◌, []}
use Rattle.rows.proofs.outcome.store_of.Given as goal

abbrev pub invariant-loop-text : goal.invariant-loop-text
invariant-loop-text l = l.store.plan.failing ≡ []
