use Rattle.std.proofs.Common.{ℕ, ◌+◌, ap, subst, ◌∙◌}
use Rattle.u_terms.specs.Syntax.{U}
use Rattle.u_terms.proofs.Sizes.{nodes-Sum, depth-Sum}
use Rattle.u_terms.proofs.MappedSizes.{closed_at-nodes, closed_at-depth}
use Rattle.u_terms.specs.Binding.{closed_at}
use Rattle.u_rules.specs.Terms.{S}
use Rattle.u_moves.specs.Derivations.{Derivation, IsSound}
use Rattle.u_moves.specs.Lifting.{IsMadeIn}
use Rattle.u_moves.proofs.derivations.Whole.{if-ok}
use Rattle.u_deriv.specs.declared.run.Run.TheVariants.{Inside}
use Rattle.std.proofs.Common.{[], ◌∷◌}
use Rattle.u_congruence.specs.Congruence.{IsFromTo, IsOneDown}
use Rattle.u_congruence.proofs.Turned.{known-Sum, known-closed, part-sum, made-sum}
use Rattle.u_congruence.proofs.Pairs.{one-known, one-part, one-shown, one-costs}
use Rattle.u_congruence.proofs.parts.summed.Goals as goal

pub still-requires : goal.still-requires
still-requires c =
    one-known (λ (a : U). S (closed_at a c.args.moves.outs)) c.args.moves.facts.now c.args.moves.outs (c.args.moves.outs + 1) c.args.part c.requires (λ a h. known-Sum c.args.moves.outs (closed_at a c.args.moves.outs) (known-closed c.args.moves.outs a h)) (part-sum c.args.moves.outs) (made-sum c.args.moves.outs)
    c.in_ok-new.field-0 (subst (λ (d : Derivation). IsSound d) c.get.ensures c.from.ensures.sound) (c.in_ok-new.ensures {u = tt} ∙ ap (λ (a : U). S a) (c.in_ok-body.ensures {u = tt}) ∙ ap (λ (a : U). S (closed_at a c.args.moves.outs)) (c.from.ensures.lent ∙ ap (λ (d : Derivation). d.from) c.get.ensures))

pub made_in_turn-requires-clause-part : goal.made_in_turn-requires-clause-part
made_in_turn-requires-clause-part c =
    one-part (λ (a : U). S (closed_at a c.args.moves.outs)) c.args.moves.facts.now c.args.moves.outs (c.args.moves.outs + 1) c.args.part c.requires (λ a h. known-Sum c.args.moves.outs (closed_at a c.args.moves.outs) (known-closed c.args.moves.outs a h)) (part-sum c.args.moves.outs) (made-sum c.args.moves.outs)
    c.in_ok-new.field-0 (c.in_ok-new.ensures {u = tt} ∙ ap (λ (a : U). S a) (c.in_ok-body.ensures {u = tt}) ∙ ap (λ (a : U). S (closed_at a c.args.moves.outs)) (c.from.ensures.lent ∙ ap (λ (d : Derivation). d.from) c.get.ensures)) c.in_ok-d.d c.in_ok-d.ensures.ends (subst (λ (d : Derivation). IsSound d) c.get.ensures c.from.ensures.sound)

pub returns-clause-ends : goal.returns-clause-ends
returns-clause-ends c =
    if-ok (IsMadeIn (Inside 1 ∷ []) c.in_ok-d.d c.args.part) (IsFromTo c.args.moves.facts.now c.args.moves.outs (S (closed_at c.args.part.from c.args.moves.outs)) (S (closed_at c.args.part.to c.args.moves.outs)))
    (one-shown (λ (a : U). S (closed_at a c.args.moves.outs)) c.args.moves.facts.now c.args.moves.outs (c.args.moves.outs + 1) c.args.part c.requires (λ a h. known-Sum c.args.moves.outs (closed_at a c.args.moves.outs) (known-closed c.args.moves.outs a h)) (part-sum c.args.moves.outs) (made-sum c.args.moves.outs)
    c.in_ok-new.field-0 (c.in_ok-new.ensures {u = tt} ∙ ap (λ (a : U). S a) (c.in_ok-body.ensures {u = tt}) ∙ ap (λ (a : U). S (closed_at a c.args.moves.outs)) (c.from.ensures.lent ∙ ap (λ (d : Derivation). d.from) c.get.ensures)) c.in_ok-d.d c.in_ok-d.ensures.ends)
    c.made_in_turn.result c.made_in_turn.ensures

pub returns-clause-costs : goal.returns-clause-costs
returns-clause-costs c =
    if-ok (IsMadeIn (Inside 1 ∷ []) c.in_ok-d.d c.args.part) (IsOneDown c.args.part)
    (one-costs (λ (a : U). S (closed_at a c.args.moves.outs)) c.args.moves.facts.now c.args.moves.outs (c.args.moves.outs + 1) c.args.part c.requires (λ a h. known-Sum c.args.moves.outs (closed_at a c.args.moves.outs) (known-closed c.args.moves.outs a h)) (part-sum c.args.moves.outs) (made-sum c.args.moves.outs)
    c.in_ok-new.field-0 (c.in_ok-new.ensures {u = tt} ∙ ap (λ (a : U). S a) (c.in_ok-body.ensures {u = tt}) ∙ ap (λ (a : U). S (closed_at a c.args.moves.outs)) (c.from.ensures.lent ∙ ap (λ (d : Derivation). d.from) c.get.ensures)) c.in_ok-d.d c.in_ok-d.ensures.ends (λ a. nodes-Sum (closed_at a c.args.moves.outs) ∙ ap (λ (n : ℕ). 1 + n) (closed_at-nodes a c.args.moves.outs)) (λ a. depth-Sum (closed_at a c.args.moves.outs) ∙ ap (λ (n : ℕ). 1 + n) (closed_at-depth a c.args.moves.outs))
    (subst (λ (d : Derivation). IsSound d) c.get.ensures c.from.ensures.sound) c.in_ok-d.ensures.costs)
    c.made_in_turn.result c.made_in_turn.ensures
