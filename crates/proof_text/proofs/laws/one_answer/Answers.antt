use Rattle.proof_text.proofs.answers.OneAnswer.{one_answer as lemma}
use Rattle.proof_text.proofs.laws.one_answer.Goals as goal

pub returns : goal.returns
returns c = λ text one other n m a b. lemma text one other n m a b
