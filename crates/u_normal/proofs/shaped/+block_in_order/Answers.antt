use Rattle.std.proofs.Common.{◌≡◌, ℕ, ◌+◌, [], ◌∷◌, ap, sym, subst, ◌∙◌, arith}
use Rattle.u_terms.specs.Syntax.{U}
use Rattle.u_terms.specs.Size.{nodes}
use Rattle.u_terms.specs.Products.{product_of}
use Rattle.u_terms.specs.Binding.{opened}
use Rattle.u_terms.proofs.Sizes.{nodes-Sum}
use Rattle.u_rules.specs.Terms.{mul_leaves}
use Rattle.u_deriv.specs.declared.run.Run.TheVariants.{Inside}
use Rattle.u_moves.specs.Derivations.{IsKnown}
use Rattle.u_moves.proofs.derivations.Whole.{if-ok}
use Rattle.normal_form.specs.Kinds.{ordered}
use Rattle.normal_form.specs.LooseTerms.{IsLooseBlock}
use Rattle.normal_form.proofs.Loose.{sum_body-block}
use Rattle.normal_form.proofs.Renamed.{loose_block-opened}
use Rattle.u_normal.specs.Shaped.{IsBrief, IsMadeAt, tidied}
use Rattle.u_normal.proofs.products.Nodes.{opened-nodes}
use Rattle.u_normal.proofs.terms.KnownParts.{known-body, known-opened}
use Rattle.u_normal.proofs.shapes.TidiedBlocks.{tidied-product}
use Rattle.u_normal.proofs.costs.ShapedEnds.{brief-to, sum-part, sum-brief}
use Rattle.u_normal.proofs.shaped.+block_in_order.Goals as goal

pub block_in_order-requires : goal.block_in_order-requires
block_in_order-requires t c =
    let outs : ℕ = c.args.moves.outs in
    let e : c.get-in-Sum.result.now ≡ opened c.in-Sum.f outs =
    c.get-in-Sum.ensures ∙ c.in_ok-body-in-Sum.ensures {u = tt} ∙ c.in_ok-opened-in-Sum.ensures {u = tt} ∙ ap (λ (f : U). opened f outs) c.get.ensures in (
      omega (arith, c.decreases, ap nodes e, opened-nodes c.in-Sum.f outs, ap nodes c.in-Sum.is, nodes-Sum c.in-Sum.f),
      (
        subst (λ (m : ℕ). IsKnown 0 m c.get-in-Sum.result.now) (sym c.in_ok-inner-in-Sum.ensures.outs)
            (subst (λ (u : U). IsKnown 0 (outs + 1) u) (sym e) (known-opened outs c.in-Sum.f (known-body outs c.in-Sum.f (subst (λ (u : U). IsKnown 0 outs u) c.in-Sum.is c.requires.known)))),
        subst (λ (u : U). IsLooseBlock u) (sym e) (loose_block-opened outs c.in-Sum.f (sum_body-block c.in-Sum.f (subst (λ (u : U). IsLooseBlock u) c.in-Sum.is c.requires.block))),
      ),
    )

pub made_inside-requires-clause-part : goal.made_inside-requires-clause-part
made_inside-requires-clause-part t c =
    let outs : ℕ = c.args.moves.outs in
    let e : c.get-in-Sum.result.now ≡ opened c.in-Sum.f outs =
    c.get-in-Sum.ensures ∙ c.in_ok-body-in-Sum.ensures {u = tt} ∙ c.in_ok-opened-in-Sum.ensures {u = tt} ∙ ap (λ (f : U). opened f outs) c.get.ensures in
    let part = c.in_ok-part-in-Sum.ensures {u = tt} in
    sum-part outs c.in_ok-part-in-Sum.part.outs c.args.u.now c.in-Sum.f c.in_ok-part-in-Sum.part.from (part.ends.outs ∙ c.in_ok-inner-in-Sum.ensures.outs) c.in-Sum.is (part.ends.from ∙ e)
    (known-body outs c.in-Sum.f (subst (λ (u : U). IsKnown 0 outs u) c.in-Sum.is c.requires.known))

pub returns-in_ok-part-in-Sum : goal.returns-in_ok-part-in-Sum
returns-in_ok-part-in-Sum t c =
    let outs : ℕ = c.args.moves.outs in
    let e : c.get-in-Sum.result.now ≡ opened c.in-Sum.f outs =
    c.get-in-Sum.ensures ∙ c.in_ok-body-in-Sum.ensures {u = tt} ∙ c.in_ok-opened-in-Sum.ensures {u = tt} ∙ ap (λ (f : U). opened f outs) c.get.ensures in
    if-ok (IsMadeAt (Inside 1 ∷ []) c.args.moves c.args.u.now c.in_ok-part-in-Sum.part) (IsBrief c.args.moves.facts.now outs c.args.u.now (tidied c.args.u.now) 1)
    (sum-brief c.args.moves c.args.u.now c.in-Sum.f c.in_ok-inner-in-Sum.inner.facts.now c.in_ok-inner-in-Sum.inner.outs c.get-in-Sum.result.now c.in_ok-part-in-Sum.part
    (known-body outs c.in-Sum.f (subst (λ (u : U). IsKnown 0 outs u) c.in-Sum.is c.requires.known)) c.in-Sum.is e c.in_ok-inner-in-Sum.ensures.facts c.in_ok-inner-in-Sum.ensures.outs
    (c.in_ok-part-in-Sum.ensures {u = tt}))
    c.made_inside.result c.made_inside.ensures

pub returns-in_default : goal.returns-in_default
returns-in_default t c =
    if-ok (IsBrief c.args.moves.facts.now c.args.moves.outs c.args.u.now (product_of (ordered (mul_leaves c.args.u.now))) 1) (IsBrief c.args.moves.facts.now c.args.moves.outs c.args.u.now (tidied c.args.u.now) 1)
    (λ d brief. brief-to c.args.moves.facts.now c.args.moves.outs c.args.u.now (product_of (ordered (mul_leaves c.args.u.now))) (tidied c.args.u.now) 1 1 d (sym (tidied-product c.args.u.now c.in_default.not-Sum)) (omega arith) brief)
    c.product_in_order.result c.product_in_order.ensures
