use Rattle.std.proofs.Common.{arith}
use Rattle.udp_io.proofs.ReadingLemmas.{TakesAtMost-after}
use Rattle.udp_io.proofs.reading.read_all.Goals as goal

pub returns-in_err-take_piece-clause-bound : goal.returns-in_err-take_piece-clause-bound
returns-in_err-take_piece-clause-bound g c =
    TakesAtMost-after _ _ _ c.loop-piece.whole.items _ _ c.loop-piece.invariant.so_far c.take_piece.ensures.bound (omega arith)
