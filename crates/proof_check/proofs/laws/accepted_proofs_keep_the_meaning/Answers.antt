use Rattle.proof_check.proofs.accepted.Meaning.{accepted-means as lemma}
use Rattle.proof_check.proofs.laws.accepted_proofs_keep_the_meaning.Goals as goal

pub returns : goal.returns
returns c = lemma
