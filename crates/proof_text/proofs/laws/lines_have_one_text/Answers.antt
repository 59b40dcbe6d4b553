use Rattle.proof_text.proofs.answers.OneAnswer.{spelled as lemma}
use Rattle.proof_text.proofs.laws.lines_have_one_text.Goals as goal

pub returns : goal.returns
returns c = λ text says. lemma text says
