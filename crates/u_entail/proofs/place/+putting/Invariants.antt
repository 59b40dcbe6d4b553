use Rattle.std.proofs.Common.{◌+◌, ◌*◌, length}
use Rattle.u_entail.proofs.place.+putting.Given as goal

abbrev pub decreases-put_in_value : goal.decreases-put_in_value
decreases-put_in_value l = 2 * length l.place.now + 1

abbrev pub decreases-put_in_points : goal.decreases-put_in_points
decreases-put_in_points l = 2 * length l.place.now
