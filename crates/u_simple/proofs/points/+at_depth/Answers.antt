use Rattle.std.proofs.Common.{◌≡◌, ℕ, ◌+◌, ap, sym, subst, ◌∙◌, arith}
use Rattle.std.specs.Prelude.{IfSome}
use Rattle.u_terms.specs.Binding.{closed_at, opened}
use Rattle.u_terms.specs.Syntax.{U}
use Rattle.u_rules.specs.Terms.{S}
use Rattle.u_moves.specs.Derivations.{IsKnown}
use Rattle.u_normal.proofs.terms.KnownParts.{known-body, known-opened, body-again}
use Rattle.u_simple.specs.Passes.{IsFrom}
use Rattle.u_simple.proofs.points.+at_depth.Goals as goal

pub at_depth-at_product-requires : goal.at_depth-at_product-requires
at_depth-at_product-requires t c =
    subst (λ (u : U). IsKnown 1 c.args.moves.outs u) (sym c.get.ensures)
    (known-body c.args.moves.outs c.in-Sum.f (subst (λ (u : U). IsKnown 0 c.args.moves.outs u) c.in-Sum.is c.requires))

pub at_depth-in_body-requires : goal.at_depth-in_body-requires
at_depth-in_body-requires t c = (
  omega (arith, c.decreases, c.if-count-eq0.false),
  subst (λ (u : U). IsKnown 1 c.args.moves.outs u) (sym c.get-in-Sum-2.ensures)
      (known-body c.args.moves.outs c.in-Sum-2.f (subst (λ (u : U). IsKnown 0 c.args.moves.outs u) c.in-Sum-2.is c.requires)),
)

pub in_body-at_depth-requires : goal.in_body-at_depth-requires
in_body-at_depth-requires t c =
    let e : c.get.result.now ≡ opened c.args.f.now c.args.moves.outs = c.get.ensures ∙ c.in_ok-body.ensures {u = tt} ∙ c.in_ok-opened.ensures {u = tt} in (
      omega (arith, c.decreases),
      subst (λ (m : ℕ). IsKnown 0 m c.get.result.now) (sym c.in_ok-inner.ensures.outs)
          (subst (λ (u : U). IsKnown 0 (c.args.moves.outs + 1) u) (sym e) (known-opened c.args.moves.outs c.args.f.now c.requires)),
    )

pub in_body-returns-in-Some : goal.in_body-returns-in-Some
in_body-returns-in-Some t c =
    let outs = c.args.moves.outs in
    let e : c.get.result.now ≡ opened c.args.f.now outs = c.get.ensures ∙ c.in_ok-body.ensures {u = tt} ∙ c.in_ok-opened.ensures {u = tt} in
    let part : IsFrom c.in_ok-inner.inner.facts.now c.in_ok-inner.inner.outs c.get.result.now c.in-Some.part =
    subst (λ o. IfSome o (IsFrom c.in_ok-inner.inner.facts.now c.in_ok-inner.inner.outs c.get.result.now)) c.in-Some.is (c.in_ok-part.ensures {u = tt}) in
    let sum = c.in_ok-summed-in-Some.ensures.ends in
    record {
      facts = sum.facts;
      outs = sum.outs;
      from = sum.from ∙ ap (λ (u : U). S (closed_at u outs)) (part.from ∙ e) ∙ ap (λ (u : U). S u) (body-again outs c.args.f.now c.requires);
    }
