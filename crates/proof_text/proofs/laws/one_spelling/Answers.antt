use Rattle.std.proofs.Common.{sym, ◌∙◌}
use Rattle.proof_text.proofs.laws.one_spelling.Goals as goal

pub returns : goal.returns
returns c = λ bytes others outs steps one other. one.spelled ∙ sym other.spelled
