use Rattle.sql_grammar.proofs.lists.Folding.{same_when_folded}
use Rattle.sql_grammar.proofs.words.is_same_word.Goals as goal

pub returns : goal.returns
returns c = same_when_folded c.eq_ignore_ascii_case.result c.args.text.now c.args.word.now c.eq_ignore_ascii_case.ensures.test
