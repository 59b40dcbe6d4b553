use Rattle.proof_text.proofs.texts.TextLines.{lines_of_proof as lemma}
use Rattle.proof_text.proofs.laws.lines_of_a_proof.Goals as goal

pub returns : goal.returns
returns c = lemma
