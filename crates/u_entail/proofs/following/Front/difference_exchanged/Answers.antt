use Rattle.std.proofs.Common.{◌≡◌, ◌+◌, ◌<◌, ◌^◌, ap, sym, ◌∙◌, subst}
use Rattle.std.proofs.lemmas.Result.{IfOk-weaker}
use Rattle.u_terms.specs.Syntax.{U}
use Rattle.u_terms.specs.Places.{IsClosed}
use Rattle.u_terms.specs.Size.{depth}
use Rattle.u_rules.specs.Terms.{◌≐◌, neg, terms}
use Rattle.u_moves.specs.Derivations.{IsKnown}
use Rattle.u_entail.proofs.copies.Copied.{equality-closed, mark-here, shallow-mark}
use Rattle.u_entail.proofs.products.Negated.{negation-exchanged, part-of-negation}
use Rattle.u_entail.proofs.following.Front.difference_exchanged.Goals as goal

pub under-requires : goal.under-requires
under-requires c =
    let outs = c.args.self.now.moves.outs in
    let factors = terms c.args.self.now.factors.now in
    let mark : U = neg (c.args.a.now ≐ c.args.b.now) in
    let is : c.get.result.now ≡ mark = c.get.ensures ∙ c.in_ok-whole.ensures {u = tt} in
    let one = c.in_ok-turned.ensures {u = tt} in
    let l = one.leads in
    part-of-negation c.in_ok-path.path (c.in_ok-path.ensures {u = tt}) outs c.in_ok-turned.turned.outs c.get.result.now c.in_ok-turned.turned.from (is ∙ ap (λ (x : U). neg x) (sym l.from))
    (subst (λ (x : U). IsKnown 0 outs x) (sym is) (mark-here outs factors c.requires.factors c.args.place mark c.requires.at))
    (subst (λ (x : U). outs + depth x < 2 ^ 32) (sym is) (shallow-mark outs factors c.requires.factors c.args.place c.args.a.now c.args.b.now c.requires.at c.requires.shallow))
    (subst (λ (x : U). IsClosed 0 x) (sym l.from) (equality-closed outs factors c.requires.factors c.args.place c.args.a.now c.args.b.now c.requires.at)) l.outs

pub returns : goal.returns
returns c =
    let m = c.args.self.now.moves in
    let is : c.get.result.now ≡ neg (c.args.a.now ≐ c.args.b.now) = c.get.ensures ∙ c.in_ok-whole.ensures {u = tt} in
    IfOk-weaker c.under.result _ _
    (λ d u. negation-exchanged c.in_ok-path.path (c.in_ok-path.ensures {u = tt}) m.facts.now m.outs c.args.a.now c.args.b.now c.get.result.now c.in_ok-turned.turned d is (c.in_ok-turned.ensures {u = tt}) u)
    c.under.ensures
