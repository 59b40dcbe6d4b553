use Rattle.u_terms.specs.Size.{nodes}
use Rattle.u_normal.proofs.sums.+over_each.Given as goal

abbrev pub decreases-over_each : goal.decreases-over_each
decreases-over_each l = nodes l.f.now
