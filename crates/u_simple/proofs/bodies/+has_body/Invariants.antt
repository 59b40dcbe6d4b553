use Rattle.std.proofs.Common.{◌+◌, ◌*◌, length}
use Rattle.u_simple.proofs.bodies.+has_body.Given as goal

abbrev pub decreases-value_has_body : goal.decreases-value_has_body
decreases-value_has_body l = 2 * length l.path.now + 2

abbrev pub decreases-row_has_body : goal.decreases-row_has_body
decreases-row_has_body l = 2 * length l.path.now + 1
