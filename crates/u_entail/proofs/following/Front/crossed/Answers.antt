use Rattle.std.proofs.Common.{◌≡◌, sym, ◌∙◌, subst}
use Rattle.std.proofs.lemmas.Result.{IfOk-weaker}
use Rattle.u_terms.specs.Syntax.{U}
use Rattle.u_rules.specs.Terms.{terms}
use Rattle.u_moves.specs.Derivations.{IsKnown}
use Rattle.u_entail.specs.Following.{Exchanges}
use Rattle.u_entail.proofs.chains.Followed.{hop-spot, hop-side, body-known, crosses}
use Rattle.u_entail.proofs.following.Front.crossed.Goals as goal

pub put_at-requires : goal.put_at-requires
put_at-requires c = hop-spot (terms c.args.self.now.factors.now) c.args.last.now c.args.hop.now c.as_slice.result.now (sym c.as_slice.ensures) c.requires.leads

pub exchanged-requires-clause-body : goal.exchanged-requires-clause-body
exchanged-requires-clause-body c =
    let m = c.args.self.now.moves in
    let factors = terms c.args.self.now.factors.now in
    subst (λ (x : U). IsKnown 1 m.outs x) (sym (c.get.ensures ∙ c.in_ok-body-2.ensures {u = tt}))
    (body-known m.outs factors c.args.last.now c.requires.known c.args.hop.now c.as_slice.result.now (sym c.as_slice.ensures) c.in_ok-body.body (c.in_ok-body.ensures {u = tt}) c.requires.leads)

pub exchanged-requires-clause-side : goal.exchanged-requires-clause-side
exchanged-requires-clause-side c = hop-side (terms c.args.self.now.factors.now) c.args.last.now c.args.hop.now c.requires.leads

pub returns : goal.returns
returns c =
    let m = c.args.self.now.moves in
    let factors = terms c.args.self.now.factors.now in
    let is : c.get.result.now ≡ c.in_ok-body.body = c.get.ensures ∙ c.in_ok-body-2.ensures {u = tt} in
    IfOk-weaker c.exchanged.result _ _
    (λ d e. crosses m.outs factors c.args.last.now c.requires.known c.args.hop.now c.as_slice.result.now (sym c.as_slice.ensures) c.in_ok-body.body (c.in_ok-body.ensures {u = tt}) m.facts.now d
    (subst (λ (x : U). Exchanges m.facts.now m.outs factors c.args.hop.now.factor c.args.hop.now.turned x d) is e))
    c.exchanged.ensures
