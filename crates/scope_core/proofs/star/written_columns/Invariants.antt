use Rattle.std.proofs.Common.{◌≡◌, ◌++◌, drop}
use Rattle.scope_core.specs.Resolving.{star}
use Rattle.scope_core.proofs.star.written_columns.Given as goal

abbrev pub invariant-loop-entry : goal.invariant-loop-entry
invariant-loop-entry l = l.columns.items ++ star l.entry (drop l.entry l.headings) ≡ star 0 l.headings
