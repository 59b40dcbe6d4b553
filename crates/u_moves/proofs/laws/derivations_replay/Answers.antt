use Rattle.u_moves.proofs.derivations.Showing.{term-within}
use Rattle.u_moves.proofs.laws.derivations_replay.Goals as goal

pub returns-clause-within : goal.returns-clause-within
returns-clause-within c = term-within
