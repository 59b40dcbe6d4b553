use Rattle.proof_text.proofs.spelled.OneText.{one_text as lemma}
use Rattle.proof_text.proofs.laws.one_text.Goals as goal

pub returns : goal.returns
returns c = lemma
