use Rattle.proof_check.proofs.accepted.Meaning.{accepted-replays as lemma}
use Rattle.proof_check.proofs.laws.accepted_proofs_replay.Goals as goal

pub returns : goal.returns
returns c = lemma
