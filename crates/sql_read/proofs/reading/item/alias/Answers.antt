use Rattle.std.proofs.Common.{Option, Result, Ok, Err}
use Rattle.sql_lex.specs.declared.token.Token.{Token}
use Rattle.sql_cursor.specs.declared.fault.ReadFault.{ReadFault}
use Rattle.sql_cursor.specs.Cursor.{Cursor}
use Rattle.sql_cursor.specs.Eating.{Eats, Expects, Extends}
use Rattle.sql_grammar.specs.declared.kinds.Kind.TheVariants as k
use Rattle.sql_grammar.specs.Kinds.{among, same, name_kinds}
use Rattle.sql_cursor.proofs.code.Extending.{◌⨟◌, extends_misses, extends_passes}
use Rattle.sql_read.proofs.parts.ReadBlocks.{extends_eats}
use Rattle.sql_read.proofs.reading.item.alias.Goals as goal

alias_extends : (m n o : Cursor) (word : Option Token) (result : Result Token ReadFault) → Eats (same k.As) m word n → Expects (among name_kinds) n result o → Extends m o
alias_extends m n o word (Ok token) q u = extends_eats (same k.As) m n word q ⨟ extends_passes u
alias_extends m n o word (Err fault) q u = extends_eats (same k.As) m n word q ⨟ extends_misses u

pub returns-clause-extends : goal.returns-clause-extends
returns-clause-extends c = alias_extends _ _ _ c.eat-word.result c.expect_any.result c.eat-word.ensures.eats c.expect_any.ensures.eats
