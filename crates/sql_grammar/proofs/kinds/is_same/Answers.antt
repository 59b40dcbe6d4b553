use Rattle.std.proofs.Common.{refl}
use Rattle.sql_grammar.proofs.lists.KindNumbers.{tag_is_number}
use Rattle.sql_grammar.proofs.kinds.is_same.Goals as goal

pub returns : goal.returns
returns c = rw (tag_is_number c.args.a, tag_is_number c.args.b) refl
