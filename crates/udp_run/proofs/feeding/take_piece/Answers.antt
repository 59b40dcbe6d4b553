use Rattle.std.proofs.Common.{rules}
use Rattle.udp_run.proofs.Fed.{nothing_left}
use Rattle.udp_run.proofs.feeding.take_piece.Goals as goal

pub returns-clause-end : goal.returns-clause-end
returns-clause-end g c = nothing_left _ _ _ (search rules) c.take.ensures.zero
