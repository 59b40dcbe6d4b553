use Rattle.std.proofs.Common.{length}
use Rattle.u_rules.proofs.table_same.+are_rows.Given as goal

abbrev pub decreases-are_rows : goal.decreases-are_rows
decreases-are_rows l = length l.s.now
