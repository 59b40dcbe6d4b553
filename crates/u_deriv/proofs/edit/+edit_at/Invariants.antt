use Rattle.std.proofs.Common.{◌+◌, ◌*◌, length}
use Rattle.u_deriv.proofs.edit.+edit_at.Given as goal

abbrev pub decreases-edit_at : goal.decreases-edit_at
decreases-edit_at l = 2 * length l.way

abbrev pub decreases-edit_value : goal.decreases-edit_value
decreases-edit_value l = 2 * length l.way

abbrev pub decreases-edit_argument : goal.decreases-edit_argument
decreases-edit_argument l = 2 * length l.way + 1
