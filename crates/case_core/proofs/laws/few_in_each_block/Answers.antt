use Rattle.case_core.proofs.FewInCases.{read_few}
use Rattle.case_core.proofs.laws.few_in_each_block.Goals as goal

pub returns : goal.returns
returns c = record {
  views = λ text written numbers r. (read_few text written numbers r).views;
  left = λ text written numbers r. (read_few text written numbers r).left;
  right = λ text written numbers r. (read_few text written numbers r).right;
}
