use Rattle.std.proofs.Common.{◌+◌, ◌*◌, length}
use Rattle.u_bag.proofs.meeting.+meeting.Given as goal

abbrev pub decreases-meeting : goal.decreases-meeting
decreases-meeting l = 4 * length l.turns.now

abbrev pub decreases-turned : goal.decreases-turned
decreases-turned l = 4 * length l.turns.now + 3

abbrev pub decreases-then_under_sum : goal.decreases-then_under_sum
decreases-then_under_sum l = 4 * length l.turns.now + 2

abbrev pub decreases-under_sum : goal.decreases-under_sum
decreases-under_sum l = 4 * length l.turns.now + 1
