use Rattle.std.proofs.Common.{arith, ◌≡◌, ap, ◌∙◌, sym, subst}
use Rattle.u_terms.specs.Syntax.{U}
use Rattle.u_terms.specs.declared.term.U.TheVariants as u
use Rattle.u_terms.specs.Size.{nodes}
use Rattle.u_terms.proofs.Sizes.{nodes-Not}
use Rattle.u_entail.specs.Spots.{HasSpot, IsPut}
use Rattle.u_entail.proofs.substitution.Placed.{pred-spot, pred-put, not-spot, not-put, no-mark}
use Rattle.u_entail.proofs.place.+put_at.Goals as goal

pub put_in_points-requires : goal.put_in_points-requires
put_in_points-requires t c =
    let is : c.args.term.now ≡ u.Pred c.in-Pred.symbol c.as_slice.result.now = c.in-Pred.is ∙ ap (u.Pred c.in-Pred.symbol) (sym c.as_slice.ensures) in
    pred-spot c.in-Pred.symbol c.as_slice.result.now c.args.place.now (subst (λ (x : U). HasSpot x c.args.place.now) is c.requires)

pub put_at-requires : goal.put_at-requires
put_at-requires t c =
    let is : c.args.term.now ≡ u.Not c.get.result.now = c.in-Not.is ∙ ap u.Not (sym c.get.ensures) in (
      omega (arith, c.decreases, ap nodes c.in-Not.is, nodes-Not c.in-Not.inner, ap nodes c.get.ensures),
      not-spot c.get.result.now c.args.place.now (subst (λ (x : U). HasSpot x c.args.place.now) is c.requires),
    )

pub unreachable-requires : goal.unreachable-requires
unreachable-requires t c =
    no-mark c.args.term.now c.args.place.now c.in_default.not-Pred c.in_default.not-Eq c.in_default.not-Not c.requires

pub returns-in_ok-points-in-Pred : goal.returns-in_ok-points-in-Pred
returns-in_ok-points-in-Pred t c =
    let is : c.args.term.now ≡ u.Pred c.in-Pred.symbol c.as_slice.result.now = c.in-Pred.is ∙ ap (u.Pred c.in-Pred.symbol) (sym c.as_slice.ensures) in
    subst (λ (x : U). IsPut x c.args.place.now c.args.value.now (u.Pred c.in-Pred.symbol c.in_ok-points-in-Pred.points)) (sym is)
    (pred-put c.in-Pred.symbol c.as_slice.result.now c.args.place.now c.args.value.now c.in_ok-points-in-Pred.points (c.in_ok-points-in-Pred.ensures {u = tt}))

pub returns-in_ok-new-in-Not : goal.returns-in_ok-new-in-Not
returns-in_ok-new-in-Not t c =
    let is : c.args.term.now ≡ u.Not c.get.result.now = c.in-Not.is ∙ ap u.Not (sym c.get.ensures) in
    subst (λ (x : U). IsPut x c.args.place.now c.args.value.now (u.Not c.in_ok-new-in-Not.field-0)) (sym is)
    (subst (λ (x : U). IsPut (u.Not c.get.result.now) c.args.place.now c.args.value.now (u.Not x)) (sym (c.in_ok-new-in-Not.ensures {u = tt}))
    (not-put c.get.result.now c.args.place.now c.args.value.now c.in_ok-inner-in-Not.inner (c.in_ok-inner-in-Not.ensures {u = tt})))
