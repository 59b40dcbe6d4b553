use Rattle.u_equal.proofs.entailment.Entailed.{leads-entail, each-entail, distance-entails}
use Rattle.u_equal.proofs.laws.links_lead_to_what_is_entailed.Goals as goal

pub returns-clause-value : goal.returns-clause-value
returns-clause-value c = leads-entail

pub returns-clause-arguments : goal.returns-clause-arguments
returns-clause-arguments c = each-entail

pub returns-clause-distance : goal.returns-clause-distance
returns-clause-distance c = distance-entails
