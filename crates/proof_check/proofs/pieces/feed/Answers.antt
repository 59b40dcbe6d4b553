use Rattle.proof_check.proofs.texts.PiecesTaken.{fed-by, ran_out}
use Rattle.proof_check.proofs.pieces.feed.Goals as goal

pub returns-in-Some : goal.returns-in-Some
returns-in-Some c = fed-by _ _ _ c.feed.result c.feed.ensures.facts c.feed.ensures.outs c.feed.ensures.fed c.feed.ensures.answer

pub returns-in-None : goal.returns-in-None
returns-in-None c = ran_out _ _ _ _ c.run_out.ensures.stop c.run_out.ensures.stopped
