use Rattle.proof_text.proofs.spelled.LinesAgain.{says_read as lemma}
use Rattle.proof_text.proofs.laws.lines_are_read_again.Goals as goal

pub returns : goal.returns
returns c = lemma
