use Rattle.std.proofs.Common.{Bool, sym, subst}
use Rattle.std.proofs.lemmas.Result.{IfOk-weaker}
use Rattle.u_terms.specs.Syntax.{U}
use Rattle.u_rules.specs.Terms.{◌≐◌}
use Rattle.u_entail.specs.Carrying.{IsPaired, IsMarkPaired}
use Rattle.u_entail.proofs.copies.Carried.{eq-paired}
use Rattle.u_entail.proofs.carrying.push_equality.Goals as goal

pub returns-else-not-branch : goal.returns-else-not-branch
returns-else-not-branch c =
    let product = c.args.classes.now in
    let a = c.args.a.now in
    let b = c.args.b.now in
    let first = subst (λ (k : Bool). IsPaired product a c.in-Eq.c c.args.pairs.now.items c.push_point.new.pairs.items k) c.if-not-branch.false (c.in_ok-push_point-in-Eq.ensures {u = tt}) in
    IfOk-weaker c.push_point-in-Eq.result _ _
    (λ answer h. subst (λ (w : U). IsMarkPaired product (a ≐ b) w c.args.pairs.now.items c.push_point-in-Eq.new.pairs.items answer) (sym c.in-Eq.is)
    (eq-paired product a b c.in-Eq.c c.in-Eq.d c.args.pairs.now.items c.push_point.new.pairs.items c.push_point-in-Eq.new.pairs.items first answer h))
    c.push_point-in-Eq.ensures
