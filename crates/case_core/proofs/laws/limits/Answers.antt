use Rattle.case_core.proofs.CasePrefixes.{shallow_included}
use Rattle.case_core.proofs.laws.limits.Goals as goal

pub returns : goal.returns
returns c = shallow_included
