use Rattle.std.proofs.Common.{◌≡◌, ◌++◌}
use Rattle.scope_core.specs.Runs.{columns_from}
use Rattle.scope_core.proofs.star.write_columns.Given as goal

abbrev pub invariant-loop-col : goal.invariant-loop-col
invariant-loop-col l = l.columns.items ≡ l.initial.columns.items ++ columns_from l.entry 0 l.col
