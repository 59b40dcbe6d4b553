use Rattle.std.proofs.Common.{◌≡◌, ap, sym, ◌∙◌, subst}
use Rattle.std.proofs.lemmas.Result.{IfOk-weaker}
use Rattle.u_terms.specs.Syntax.{U}
use Rattle.u_rules.specs.Terms.{neg}
use Rattle.u_entail.specs.Carrying.{IsDifferencePaired}
use Rattle.u_entail.proofs.copies.Carried.{difference-paired}
use Rattle.u_entail.proofs.carrying.push_difference.Goals as goal

pub returns-in-Not-wanted : goal.returns-in-Not-wanted
returns-in-Not-wanted c =
    let product = c.args.classes.now in
    let inner = c.get.result.now in
    let other = c.get-in-Not-wanted.result.now in
    let is : c.args.mark.now ≡ neg inner = c.in-Not.is ∙ ap (λ (x : U). neg x) (sym c.get.ensures) in
    let wanted_is : c.args.wanted.now ≡ neg other = c.in-Not-wanted.is ∙ ap (λ (x : U). neg x) (sym c.get-in-Not-wanted.ensures) in
    IfOk-weaker c.push_exchanged.result _ _
    (λ answer h. subst (λ (x : U). IsDifferencePaired product x c.args.wanted.now c.args.pairs.now.items c.push_exchanged.new.pairs.items answer) (sym is)
    (subst (λ (x : U). IsDifferencePaired product (neg inner) x c.args.pairs.now.items c.push_exchanged.new.pairs.items answer) (sym wanted_is)
    (difference-paired product inner other c.args.pairs.now.items c.push_exchanged.new.pairs.items answer h)))
    c.push_exchanged.ensures
