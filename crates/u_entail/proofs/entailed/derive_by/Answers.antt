use Rattle.std.proofs.Common.{◌≡◌, List, Some, refl, ap, sym, ◌∙◌, subst}
use Rattle.u_rules.specs.Terms.{mul_leaves, terms}
use Rattle.u_entail.specs.declared.hops.Hop.{Hop}
use Rattle.u_entail.specs.Gaining.{right_side}
use Rattle.u_entail.specs.Hops.{AreHops}
use Rattle.u_entail.proofs.chains.Chained.{all-leaves, are-factors, hops-lead, derives}
use Rattle.u_entail.proofs.entailed.derive_by.Goals as goal

pub derived-requires-clause-factors : goal.derived-requires-clause-factors
derived-requires-clause-factors c =
    let p = c.args.product.now in
    let is : terms c.as_slice.result.now ≡ mul_leaves p = ap terms c.as_slice.ensures ∙ c.in_ok-factors.ensures {u = tt} in
    are-factors c.args.moves.outs p (terms c.as_slice.result.now) is c.requires.product c.requires.few

pub derived-requires-clause-leaves : goal.derived-requires-clause-leaves
derived-requires-clause-leaves c = ap terms c.as_slice.ensures ∙ c.in_ok-factors.ensures {u = tt}

pub derived-requires-clause-lead : goal.derived-requires-clause-lead
derived-requires-clause-lead c =
    let p = c.args.product.now in
    let links = c.args.links.now in
    let is : terms c.as_slice.result.now ≡ mul_leaves p = ap terms c.as_slice.ensures ∙ c.in_ok-factors.ensures {u = tt} in
    let are = subst (λ (hs : List Hop). AreHops right_side links hs) (sym c.as_slice-2.ensures.value) (c.in_ok-hops.ensures {u = tt}) in
    hops-lead p p refl c.args.a.now c.args.b.now (Some links) c.requires.chain links refl c.as_slice-2.result.now are (terms c.as_slice.result.now) (all-leaves p (terms c.as_slice.result.now) is)

pub returns : goal.returns
returns c =
    let p = c.args.product.now in
    let links = c.args.links.now in
    let is : terms c.as_slice.result.now ≡ mul_leaves p = ap terms c.as_slice.ensures ∙ c.in_ok-factors.ensures {u = tt} in
    let are = subst (λ (hs : List Hop). AreHops right_side links hs) (sym c.as_slice-2.ensures.value) (c.in_ok-hops.ensures {u = tt}) in
    derives p p refl c.args.a.now c.args.b.now (Some links) c.requires.chain links refl c.as_slice-2.result.now are c.args.moves.facts.now c.args.moves.outs (terms c.as_slice.result.now) is c.in_ok-deriv.deriv
    (c.in_ok-deriv.ensures {u = tt})
