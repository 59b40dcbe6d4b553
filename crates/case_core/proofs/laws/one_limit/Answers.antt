use Rattle.case_core.proofs.OneCount.{one_limit}
use Rattle.case_core.proofs.laws.one_limit.Goals as goal

pub returns : goal.returns
returns c = one_limit
