use Rattle.std.proofs.Common.{length}
use Rattle.u_bag.proofs.sums.+added_pairs.Given as goal

abbrev pub decreases-added_pairs : goal.decreases-added_pairs
decreases-added_pairs l = length l.pairs.now
