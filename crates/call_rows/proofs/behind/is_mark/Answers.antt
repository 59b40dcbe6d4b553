use Rattle.call_rows.proofs.Taken.{seen-mark}
use Rattle.call_rows.proofs.behind.is_mark.Goals as goal

pub returns-in-Pred : goal.returns-in-Pred
returns-in-Pred c = λ yes. seen-mark c.args.term.now c.in-Pred.is

pub returns-in-Pred-2 : goal.returns-in-Pred-2
returns-in-Pred-2 c = λ yes. seen-mark c.args.term.now c.in-Pred.is
