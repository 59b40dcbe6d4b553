use Rattle.std.proofs.Common.{◌≡◌, take, length, min}
use Rattle.u_deriv.specs.Turns.{turns}
use Rattle.u_moves.proofs.runs.turn_count.Given as goal

abbrev pub invariant-loop-run : goal.invariant-loop-run
invariant-loop-run l = l.sum ≡ min (length (turns (take l.run-index l.run-items))) 18446744073709551615
