use Rattle.std.proofs.Common.{◌+◌, ◌*◌, length}
use Rattle.u_moves.proofs.binders.+walk.Given as goal

abbrev pub decreases-walk : goal.decreases-walk
decreases-walk l = 2 * length l.way

abbrev pub decreases-walk_value : goal.decreases-walk_value
decreases-walk_value l = 2 * length l.way

abbrev pub decreases-walk_argument : goal.decreases-walk_argument
decreases-walk_argument l = 2 * length l.way + 1
