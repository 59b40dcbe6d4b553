use Rattle.case_core.proofs.CasePrefixes.{case_known, one_case}
use Rattle.case_core.proofs.laws.one_case.Goals as goal

pub returns : goal.returns
returns c = record { texts = one_case; values = λ room. (case_known room).unique }
