use Rattle.std.proofs.Common.{◌+◌, ◌-◌, length}
use Rattle.u_equal.specs.Numbered.{SameMarks}
use Rattle.u_equal.proofs.numbered.make_place.Given as goal

abbrev pub invariant-loop-marks : goal.invariant-loop-marks
invariant-loop-marks l = SameMarks l.initial.marks.items l.marks.items

abbrev pub decreases-loop-marks : goal.decreases-loop-marks
decreases-loop-marks l = l.number + 1 - length l.marks.items
