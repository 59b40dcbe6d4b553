use Rattle.std.proofs.Common.{◌<◌, ◌≤◌, ◌-◌}
use Rattle.scope_core.proofs.star.piece.Given as goal

abbrev pub invariant-loop-length : goal.invariant-loop-length
invariant-loop-length l = (0 < l.length) × (l.length ≤ l.count)

abbrev pub decreases-loop-length : goal.decreases-loop-length
decreases-loop-length l = l.count - l.length
