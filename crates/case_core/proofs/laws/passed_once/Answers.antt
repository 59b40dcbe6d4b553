use Rattle.case_core.proofs.LimitsOnce.{once, one_place}
use Rattle.case_core.proofs.laws.passed_once.Goals as goal

pub returns : goal.returns
returns c = record { tokens = once; places = one_place }
