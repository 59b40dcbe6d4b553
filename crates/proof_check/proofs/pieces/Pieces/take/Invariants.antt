use Rattle.std.proofs.Common.{ℕ, length}
use Rattle.proof_check.specs.Pieces.{IsTakenSoFar}
use Rattle.proof_check.proofs.pieces.Pieces.take.Given as goal

abbrev pub invariant-loop-line : goal.invariant-loop-line
invariant-loop-line l = IsTakenSoFar l.fn.self l.fn.piece l.lines.text l.self

abbrev pub decreases-loop-line : goal.decreases-loop-line
decreases-loop-line l = length l.lines.text
