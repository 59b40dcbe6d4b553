use Rattle.std.proofs.Common.{length}
use Rattle.u_rules.proofs.table_same.+are_places.Given as goal

abbrev pub decreases-are_places : goal.decreases-are_places
decreases-are_places l = length l.values.now
