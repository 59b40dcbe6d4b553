use Rattle.u_moves.proofs.derivations.Sound.{last-known}
use Rattle.u_moves.proofs.laws.derivations_keep_the_meaning.Goals as goal

pub returns-clause-last : goal.returns-clause-last
returns-clause-last c = last-known
