use Rattle.std.proofs.Common.{refl}
use Rattle.proof_text.proofs.texts.TextLines.{every_text, one_lines, lines_whole}
use Rattle.proof_text.proofs.laws.lines_of_a_text.Goals as goal

pub returns-clause-some : goal.returns-clause-some
returns-clause-some c = every_text

pub returns-clause-one : goal.returns-clause-one
returns-clause-one c = λ text found others a b. one_lines text text found others refl a b

pub returns-clause-whole : goal.returns-clause-whole
returns-clause-whole c = lines_whole
