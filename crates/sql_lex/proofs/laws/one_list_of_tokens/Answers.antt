use Rattle.sql_lex.proofs.WholeTexts.{same_tokens}
use Rattle.sql_lex.proofs.laws.one_list_of_tokens.Goals as goal

pub returns : goal.returns
returns c = same_tokens 0
