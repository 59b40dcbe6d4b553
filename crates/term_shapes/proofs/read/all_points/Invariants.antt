use Rattle.std.proofs.Common.{◌≡◌, drop}
use Rattle.term_shapes.specs.TermShape.{all_points}
use Rattle.term_shapes.proofs.Reading.{all_after}
use Rattle.term_shapes.proofs.read.all_points.Given as goal

abbrev pub invariant-loop-point : goal.invariant-loop-point
invariant-loop-point l = all_points l.points ≡ all_after l.found.items (drop l.point-index l.points)
