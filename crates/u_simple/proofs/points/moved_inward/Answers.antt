use Rattle.std.proofs.Common.{◌≡◌, ◌+◌, ap, sym, subst, ◌∙◌}
use Rattle.u_terms.specs.Syntax.{U}
use Rattle.u_moves.specs.Derivations.{Derivation, IsKnown, IsSound}
use Rattle.u_normal.proofs.terms.KnownParts.{to-known}
use Rattle.u_simple.proofs.Known.{known-inside}
use Rattle.u_simple.proofs.points.moved_inward.Goals as goal

pub sum_swap-requires-clause-f : goal.sum_swap-requires-clause-f
sum_swap-requires-clause-f c =
    subst (λ (u : U). IsKnown (1 + c.args.count) c.args.moves.outs u) (sym (c.in_ok-body.ensures {u = tt}))
    (known-inside c.args.moves.outs 1 c.args.count c.inside_sums.result.now (subst (λ (u : U). IsKnown 1 c.args.moves.outs u) c.inside_sums.ensures c.requires.known))

pub at_depth-requires : goal.at_depth-requires
at_depth-requires c =
    let move = c.in_ok-sum_swap.ensures {u = tt} in
    let d : c.in_ok-inward.inward ≡ c.in_ok-sum_swap.field-0 = c.in_ok-inward.ensures {u = tt} in
    let facts : c.in_ok-inward.inward.facts ≡ c.args.moves.facts.now = ap (λ (d : Derivation). d.facts) d ∙ move.facts in
    let outs : c.in_ok-inward.inward.outs ≡ c.args.moves.outs = ap (λ (d : Derivation). d.outs) d ∙ move.outs in
    subst (λ (u : U). IsKnown 0 c.args.moves.outs u) (sym (c.to.ensures.lent ∙ ap (λ (d : Derivation). d.to) c.get.ensures))
    (to-known c.args.moves.facts.now c.args.moves.outs c.in_ok-inward.inward (record { facts = facts; outs = outs })
    (subst (λ (d : Derivation). IsSound d) c.get.ensures c.to.ensures.sound))
