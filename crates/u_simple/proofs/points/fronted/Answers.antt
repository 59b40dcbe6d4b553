use Rattle.std.proofs.Common.{◌≡◌, ℕ, ◌+◌, Bool, true, sym, subst, ◌∙◌}
use Rattle.u_terms.specs.Binding.{opened}
use Rattle.u_terms.specs.Syntax.{U, Free}
use Rattle.u_rules.specs.Terms.{◌⊗◌, ◌≐◌}
use Rattle.u_moves.specs.Derivations.{IsKnown}
use Rattle.u_normal.specs.Taking.{Takes}
use Rattle.u_normal.proofs.terms.KnownParts.{known-opened}
use Rattle.u_simple.specs.Points.{equation}
use Rattle.u_simple.proofs.Known.{known-taken}
use Rattle.u_simple.proofs.points.fronted.Goals as goal

pub equation_first-requires-clause-known : goal.equation_first-requires-clause-known
equation_first-requires-clause-known c =
    let e : c.get.result.now ≡ opened c.args.f.now c.args.moves.outs = c.get.ensures ∙ c.in_ok-body.ensures {u = tt} ∙ c.in_ok-opened.ensures {u = tt} in
    subst (λ (m : ℕ). IsKnown 0 m c.get.result.now) (sym c.in_ok-inner.ensures.outs)
    (subst (λ (u : U). IsKnown 0 (c.args.moves.outs + 1) u) (sym e) (known-opened c.args.moves.outs c.args.f.now c.requires.known))

pub equation_first-requires-else-point-clause-known : goal.equation_first-requires-else-point-clause-known
equation_first-requires-else-point-clause-known c =
    let e : c.get-else-point.result.now ≡ opened c.args.f.now c.args.moves.outs = c.get-else-point.ensures ∙ c.in_ok-body.ensures {u = tt} ∙ c.in_ok-opened.ensures {u = tt} in
    subst (λ (m : ℕ). IsKnown 0 m c.get-else-point.result.now) (sym c.in_ok-inner.ensures.outs)
    (subst (λ (u : U). IsKnown 0 (c.args.moves.outs + 1) u) (sym e) (known-opened c.args.moves.outs c.args.f.now c.requires.known))

pub then_turned-requires-clause-known : goal.then_turned-requires-clause-known
then_turned-requires-clause-known c =
    let outs = c.args.moves.outs in
    let taken : Takes (opened c.args.f.now outs) c.args.point.now.rest (equation outs c.args.point.now.value true) =
    subst (λ (t : Bool). Takes (opened c.args.f.now outs) c.args.point.now.rest (equation outs c.args.point.now.value t)) c.if-point.true c.requires.point.takes in
    subst (λ (m : ℕ). IsKnown 0 m ((c.args.point.now.value ≐ Free outs) ⊗ c.get-then-point-2.result.now)) (sym c.in_ok-inner.ensures.outs)
    (subst (λ (u : U). IsKnown 0 (outs + 1) ((c.args.point.now.value ≐ Free outs) ⊗ u)) (sym c.get-then-point-2.ensures)
    (known-taken (outs + 1) (opened c.args.f.now outs) c.args.point.now.rest (c.args.point.now.value ≐ Free outs) taken (known-opened outs c.args.f.now c.requires.known)))
