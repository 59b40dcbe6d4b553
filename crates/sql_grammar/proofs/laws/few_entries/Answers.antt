use Rattle.std.proofs.Common.{None, arith}
use Rattle.sql_grammar.specs.QueryEntries.{most_further}
use Rattle.sql_grammar.specs.QueryGrammar.{query}
use Rattle.sql_grammar.proofs.entries.EntryLists.{few_included}
use Rattle.sql_grammar.proofs.entries.EntryTexts.{few_spell}
use Rattle.sql_grammar.proofs.laws.few_entries.Goals as goal

pub returns-clause-included : goal.returns-clause-included
returns-clause-included c = few_included most_further (omega arith) None query

pub returns-clause-nothing_else : goal.returns-clause-nothing_else
returns-clause-nothing_else c most ts read n s = few_spell most query ts read n s
