use Rattle.std.proofs.Common.{◌≡◌, ◌+◌, drop}
use Rattle.sql_to_u.specs.Listed.{columns_listed}
use Rattle.sql_to_u.proofs.naming.count_columns.Given as goal

abbrev pub invariant-loop-entry : goal.invariant-loop-entry
invariant-loop-entry l = l.count + columns_listed (drop l.entry-index l.entries) ≡ columns_listed l.entries
