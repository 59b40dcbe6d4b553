use Rattle.std.proofs.Common.{◌≡◌, take}
use Rattle.u_moves.specs.Lifting.{after}
use Rattle.u_moves.proofs.lifting.joined.Given as goal

abbrev pub invariant-loop-run : goal.invariant-loop-run
invariant-loop-run l = l.path ≡ after l.fn.first (take l.run-index l.run-items)
