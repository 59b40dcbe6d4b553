use Rattle.std.proofs.Common.{◌≡◌, ap, sym, subst, ◌∙◌}
use Rattle.u_terms.specs.Binding.{closed_at}
use Rattle.u_terms.specs.Syntax.{U, Val, Bound}
use Rattle.u_rules.specs.Terms.{◌⊗◌, ◌≐◌, S}
use Rattle.u_moves.specs.Derivations.{IsKnown}
use Rattle.u_congruence.proofs.Turned.{known-closed}
use Rattle.u_simple.proofs.points.then_put.Goals as goal

pub sum_point-requires-clause-f : goal.sum_point-requires-clause-f
sum_point-requires-clause-f c =
    let e : c.into_inner.result ≡ closed_at c.args.point.now.rest c.args.moves.outs = c.into_inner.ensures ∙ c.in_ok-body.ensures {u = tt} ∙ ap (λ (u : U). closed_at u c.args.moves.outs) c.get.ensures in
    subst (λ (u : U). IsKnown 1 c.args.moves.outs u) (sym e) (known-closed c.args.moves.outs c.args.point.now.rest c.requires.rest)

pub joined-requires-clause-joins : goal.joined-requires-clause-joins
joined-requires-clause-joins c =
    let e : c.into_inner.result ≡ closed_at c.args.point.now.rest c.args.moves.outs = c.into_inner.ensures ∙ c.in_ok-body.ensures {u = tt} ∙ ap (λ (u : U). closed_at u c.args.moves.outs) c.get.ensures in
    c.requires.to
    ∙ sym
    ((ap (λ d. d.from) (c.in_ok-step.ensures {u = tt})) ∙ (c.in_ok-sum_point.ensures {u = tt}).from
    ∙ ap (λ (v : Val). S ((Bound 0 ≐ v) ⊗ c.into_inner.result)) (c.in_ok-value.ensures {u = tt})
    ∙ ap (λ (u : U). S ((Bound 0 ≐ c.args.point.now.value) ⊗ u)) e)
