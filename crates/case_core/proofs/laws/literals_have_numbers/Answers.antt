use Rattle.case_core.proofs.FitCases.{text_fits}
use Rattle.case_core.proofs.laws.literals_have_numbers.Goals as goal

pub returns : goal.returns
returns c = text_fits
