use Rattle.u_terms.specs.Size.{nodes}
use Rattle.u_entail.proofs.place.+put_at.Given as goal

abbrev pub decreases-put_at : goal.decreases-put_at
decreases-put_at l = nodes l.term.now
