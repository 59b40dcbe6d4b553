use Rattle.sql_lex.proofs.WholeTexts.{tokens_or_fault, not_both}
use Rattle.sql_lex.proofs.laws.tokens_or_a_fault.Goals as goal

pub returns : goal.returns
returns c = record { either = tokens_or_fault; never_both = not_both }
