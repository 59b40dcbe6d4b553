use Rattle.std.proofs.Common.{◌≡◌, ◌+◌, List, drop, ap, sym, ◌∙◌, subst}
use Rattle.std.proofs.lemmas.Result.{IfOk-weaker}
use Rattle.u_terms.specs.Syntax.{U}
use Rattle.u_rules.specs.Terms.{terms}
use Rattle.u_moves.specs.Moving.{IsKnownValue}
use Rattle.u_entail.specs.Spines.{spine}
use Rattle.u_entail.proofs.products.Parts.{terms-behind}
use Rattle.u_entail.proofs.chains.Exchanged.{side-known, body-known, exchange-by}
use Rattle.u_entail.proofs.following.Front.exchanged_forth.Goals as goal

pub eq_subst-requires-clause-a : goal.eq_subst-requires-clause-a
eq_subst-requires-clause-a c =
    let m = c.args.self.now.moves in
    let both = side-known m.facts.now m.outs (terms c.args.self.now.factors.now) c.requires.factors c.args.body.now c.requires.body c.args.factor c.args.a.now c.args.b.now c.requires.is in
    subst (IsKnownValue m.outs) (sym (c.in_ok-copy-2.ensures {u = tt})) both.0

pub eq_subst-requires-clause-b : goal.eq_subst-requires-clause-b
eq_subst-requires-clause-b c =
    let m = c.args.self.now.moves in
    let both = side-known m.facts.now m.outs (terms c.args.self.now.factors.now) c.requires.factors c.args.body.now c.requires.body c.args.factor c.args.a.now c.args.b.now c.requires.is in
    subst (IsKnownValue m.outs) (sym (c.in_ok-copy-3.ensures {u = tt})) both.1

pub eq_subst-requires-clause-f : goal.eq_subst-requires-clause-f
eq_subst-requires-clause-f c =
    let m = c.args.self.now.moves in
    let refs = c.args.self.now.factors.now in
    let is : c.in_ok-rest.rest ≡ spine (drop (c.args.factor + 1) (terms refs)) c.args.body.now =
    c.in_ok-rest.ensures {u = tt} ∙ ap (λ (xs : List U). spine xs c.in_ok-copy.field-0) (terms-behind refs (c.args.factor + 1)) ∙ ap (λ (t : U). spine (drop (c.args.factor + 1) (terms refs)) t) (c.in_ok-copy.ensures {u = tt}) in
    body-known m.facts.now m.outs (terms refs) c.requires.factors c.args.body.now c.requires.body c.args.factor c.args.a.now c.args.b.now c.requires.is c.in_ok-rest.rest is

pub returns : goal.returns
returns c =
    let m = c.args.self.now.moves in
    let refs = c.args.self.now.factors.now in
    let is : c.in_ok-rest.rest ≡ spine (drop (c.args.factor + 1) (terms refs)) c.args.body.now =
    c.in_ok-rest.ensures {u = tt} ∙ ap (λ (xs : List U). spine xs c.in_ok-copy.field-0) (terms-behind refs (c.args.factor + 1)) ∙ ap (λ (t : U). spine (drop (c.args.factor + 1) (terms refs)) t) (c.in_ok-copy.ensures {u = tt}) in
    IfOk-weaker c.eq_subst.result _ _
    (λ d one. exchange-by m.facts.now m.outs (terms refs) c.requires.factors c.args.body.now c.requires.body c.args.factor c.args.a.now c.args.b.now c.requires.is c.in_ok-copy-2.field-0 c.in_ok-copy-3.field-0
    (c.in_ok-copy-2.ensures {u = tt}) (c.in_ok-copy-3.ensures {u = tt}) c.in_ok-rest.rest is _ d one)
    c.eq_subst.ensures
