use Rattle.std.proofs.lemmas.Result.{IfOk-weaker}
use Rattle.u_entail.proofs.copies.Carried.{exchanged-paired}
use Rattle.u_entail.proofs.carrying.push_exchanged.Goals as goal

pub returns-in-Eq : goal.returns-in-Eq
returns-in-Eq c =
    IfOk-weaker c.push_equality.result _ _
    (λ answer h. exchanged-paired c.args.classes.now c.args.equality.now c.args.wanted.now c.in-Eq.a c.in-Eq.b c.in-Eq.is c.args.pairs.now.items c.push_equality.new.pairs.items answer h) c.push_equality.ensures
