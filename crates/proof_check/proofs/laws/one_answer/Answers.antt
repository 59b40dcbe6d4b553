use Rattle.proof_check.proofs.texts.OneState.{one_answer as lemma}
use Rattle.proof_check.proofs.laws.one_answer.Goals as goal

pub returns : goal.returns
returns c = λ facts outs left right bytes one other n m a b. lemma facts outs left right bytes one other n m a b
