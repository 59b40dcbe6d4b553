use Rattle.u_normal.specs.Taking.{load}
use Rattle.u_normal.proofs.merging.+merged.Given as goal

abbrev pub decreases-merged : goal.decreases-merged
decreases-merged l = load l.u.now
