use Rattle.std.proofs.Common.{length}
use Rattle.u_bag.proofs.gaining.+with_all.Given as goal

abbrev pub decreases-with_all : goal.decreases-with_all
decreases-with_all l = length l.wanted.now
