use Rattle.sql_grammar.proofs.lists.ReservedWords.{reserved_words}
use Rattle.sql_grammar.proofs.laws.reserved_words.Goals as goal

pub returns : goal.returns
returns c = reserved_words
