use Rattle.std.proofs.Common.{drop}
use Rattle.sql_grammar.proofs.lists.KindRows.{SameKind}
use Rattle.sql_grammar.proofs.words.find_kind.Given as goal

abbrev pub invariant-loop-word : goal.invariant-loop-word
invariant-loop-word l = SameKind (drop l.word-index l.rows) l.rows l.text
