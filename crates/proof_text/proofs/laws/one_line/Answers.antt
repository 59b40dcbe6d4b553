use Rattle.proof_text.proofs.reading.OneLine.{one_line as lemma}
use Rattle.proof_text.proofs.laws.one_line.Goals as goal

pub returns : goal.returns
returns c = lemma
