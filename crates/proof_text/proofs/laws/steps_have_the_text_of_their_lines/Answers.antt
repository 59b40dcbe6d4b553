use Rattle.proof_text.proofs.texts.StepLines.{steps_say as lemma}
use Rattle.proof_text.proofs.laws.steps_have_the_text_of_their_lines.Goals as goal

pub returns : goal.returns
returns c = lemma
