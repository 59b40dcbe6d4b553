use Rattle.std.proofs.Common.{◌≡◌, ◌++◌, ◌≤◌, ◌-◌}
use Rattle.scope_core.specs.Runs.{columns_from}
use Rattle.scope_core.proofs.star.add_columns.Given as goal

abbrev pub invariant-loop-first : goal.invariant-loop-first
invariant-loop-first l = (l.items ≡ l.initial.items ++ columns_from l.entry 0 l.first) × (l.first ≤ l.end)

abbrev pub decreases-loop-first : goal.decreases-loop-first
decreases-loop-first l = l.end - l.first
