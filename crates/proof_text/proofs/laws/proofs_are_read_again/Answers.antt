use Rattle.proof_text.proofs.texts.StepsAgain.{proof_read as lemma}
use Rattle.proof_text.proofs.laws.proofs_are_read_again.Goals as goal

pub returns : goal.returns
returns c = lemma
