use Rattle.std.proofs.Common.{◌≡◌}
use Rattle.scope_core.specs.Runs.{columns_from}
use Rattle.scope_core.proofs.run.written_columns.Given as goal

abbrev pub invariant-loop-place : goal.invariant-loop-place
invariant-loop-place l = l.columns.items ≡ columns_from l.run.entry l.run.first l.place
