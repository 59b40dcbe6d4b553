use Rattle.std.proofs.Common.{sym, ◌∙◌, arith}
use Rattle.u_bag.proofs.pairing.Partners.{alike-tables, same-tables}
use Rattle.u_bag.proofs.pairs.alike.Goals as goal

pub returns-else-eq : goal.returns-else-eq
returns-else-eq c a =
    let same = alike-tables c.args.left.now.shape c.args.right.now.shape c.args.left.now.tables.items c.args.right.now.tables.items c.requires.left.tables c.requires.right.tables a in
    absurd (grind (arith, sym c.if-eq.false ∙ c.eq.ensures ∙ same-tables c.args.left.now.tables.items c.args.right.now.tables.items same))
