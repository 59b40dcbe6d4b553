use Rattle.std.proofs.Common.{ℕ, [], ◌∷◌, refl, ap, sym, subst, ◌∙◌, arith}
use Rattle.std.specs.Prelude.{IfSome}
use Rattle.std.proofs.lemmas.List.{length-map, map-append}
use Rattle.u_terms.specs.Syntax.{U}
use Rattle.u_rules.specs.Terms.{terms}
use Rattle.u_entail.specs.Sides.{AreFactors}
use Rattle.u_entail.specs.Small.{AreBasic}
use Rattle.u_bag.specs.Costs.{FactorCosts}
use Rattle.u_terms.specs.Products.{product_of}
use Rattle.u_bag.proofs.products.Factors.{each-known}
use Rattle.u_moves.specs.Derivations.{IsKnown}
use Rattle.u_bag.proofs.costs.GainedCosts.{row-one}
use Rattle.u_bag.proofs.gaining.with_one.Goals as goal

pub factor_gained-requires-clause-factors : goal.factor_gained-requires-clause-factors
factor_gained-requires-clause-factors c =
    let few = (c.if-not-has_room.ensures {u = tt}).few refl in
    let known : IsKnown 0 c.args.moves.outs (product_of (terms c.args.row.factors.items)) =
    subst (λ (u : U). IsKnown 0 c.args.moves.outs u) (c.end_of.ensures.lent ∙ c.requires.row.to) (subst (λ (n : ℕ). IsKnown 0 n c.end_of.result.now) c.requires.row.outs c.end_of.ensures.known) in
    subst (λ fs. AreFactors c.args.moves.outs (terms fs)) (sym c.as_slice.ensures.value)
    (record {
      known = each-known c.args.moves.outs (terms c.args.row.factors.items) known;
      few = omega (arith, few, c.len.ensures, length-map c.args.row.factors.items (λ r. r.now));
    })

pub returns-in-Some-clause-costs : goal.returns-in-Some-clause-costs
returns-in-Some-clause-costs c basic =
    row-one c.args.classes.now c.args.row _ c.in-Some.step c.in_ok-deriv-in-Some.deriv c.args.factor.now c.in_ok-deriv-in-Some.ensures.costs refl
    (ap terms c.in_ok-push-in-Some.ensures.items ∙ map-append (λ r. r.now) c.args.row.factors.items (c.args.factor ∷ []))
    (subst (λ fs. AreBasic (terms fs) → FactorCosts c.args.classes.now (terms fs) c.args.factor.now c.in-Some.step) c.as_slice.ensures.value
    (subst (λ o. IfSome o (λ d. AreBasic (terms c.as_slice.result.now) → FactorCosts c.args.classes.now (terms c.as_slice.result.now) c.args.factor.now d)) c.in-Some.is c.in_ok-step.ensures.costs)) basic
