use Rattle.std.proofs.Common.{◌+◌, ◌*◌}
use Rattle.u_simple.proofs.points.+at_depth.Given as goal

abbrev pub decreases-at_depth : goal.decreases-at_depth
decreases-at_depth l = 2 * l.count

abbrev pub decreases-in_body : goal.decreases-in_body
decreases-in_body l = 2 * l.count + 1
