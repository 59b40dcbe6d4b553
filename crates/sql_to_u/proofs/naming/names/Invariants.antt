use Rattle.std.proofs.Common.{◌≡◌}
use Rattle.sql_to_u.specs.Factors.{names_from}
use Rattle.sql_to_u.proofs.naming.names.Given as goal

abbrev pub invariant-loop-i : goal.invariant-loop-i
invariant-loop-i l = l.row.items ≡ names_from l.first l.i
