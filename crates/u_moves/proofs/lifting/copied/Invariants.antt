use Rattle.std.proofs.Common.{◌≡◌, take}
use Rattle.u_moves.proofs.lifting.copied.Given as goal

abbrev pub invariant-loop-run : goal.invariant-loop-run
invariant-loop-run l = l.copy ≡ take l.run-index l.run-items
