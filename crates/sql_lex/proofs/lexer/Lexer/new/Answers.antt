use Rattle.sql_lex.proofs.WholeTexts.{lexes}
use Rattle.sql_lex.proofs.lexer.Lexer.new.Goals as goal

pub returns : goal.returns
returns c = lexes 0 c.args.text.now
