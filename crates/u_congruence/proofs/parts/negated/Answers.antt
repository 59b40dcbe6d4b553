use Rattle.std.proofs.Common.{ap, subst, ◌∙◌}
use Rattle.u_terms.specs.Syntax.{U}
use Rattle.u_terms.proofs.Sizes.{nodes-Not, depth-Not}
use Rattle.u_rules.specs.Terms.{neg}
use Rattle.u_moves.specs.Derivations.{Derivation, IsSound}
use Rattle.u_moves.specs.Lifting.{IsMadeIn}
use Rattle.u_moves.proofs.derivations.Whole.{if-ok}
use Rattle.u_deriv.specs.declared.run.Run.TheVariants.{Inside}
use Rattle.std.proofs.Common.{[], ◌∷◌}
use Rattle.u_congruence.specs.Congruence.{IsFromTo, IsOneDown}
use Rattle.u_congruence.proofs.Turned.{known-Not, part-not, made-not}
use Rattle.u_congruence.proofs.Pairs.{one-known, one-part, one-shown, one-costs}
use Rattle.u_congruence.proofs.parts.negated.Goals as goal

pub still-requires : goal.still-requires
still-requires c =
    one-known (λ (a : U). neg a) c.args.moves.facts.now c.args.moves.outs c.args.moves.outs c.args.part c.requires (known-Not 0 c.args.moves.outs) (part-not c.args.moves.outs) (made-not c.args.moves.outs)
    c.in_ok-new.field-0 (subst (λ (d : Derivation). IsSound d) c.get.ensures c.from.ensures.sound) (c.in_ok-new.ensures {u = tt} ∙ ap (λ (a : U). neg a) (c.in_ok-a.ensures {u = tt} ∙ c.from.ensures.lent ∙ ap (λ (d : Derivation). d.from) c.get.ensures))

pub made_in_turn-requires-clause-part : goal.made_in_turn-requires-clause-part
made_in_turn-requires-clause-part c =
    one-part (λ (a : U). neg a) c.args.moves.facts.now c.args.moves.outs c.args.moves.outs c.args.part c.requires (known-Not 0 c.args.moves.outs) (part-not c.args.moves.outs) (made-not c.args.moves.outs)
    c.in_ok-new.field-0 (c.in_ok-new.ensures {u = tt} ∙ ap (λ (a : U). neg a) (c.in_ok-a.ensures {u = tt} ∙ c.from.ensures.lent ∙ ap (λ (d : Derivation). d.from) c.get.ensures)) c.in_ok-d.d c.in_ok-d.ensures.ends (subst (λ (d : Derivation). IsSound d) c.get.ensures c.from.ensures.sound)

pub returns-clause-ends : goal.returns-clause-ends
returns-clause-ends c =
    if-ok (IsMadeIn (Inside 1 ∷ []) c.in_ok-d.d c.args.part) (IsFromTo c.args.moves.facts.now c.args.moves.outs (neg c.args.part.from) (neg c.args.part.to))
    (one-shown (λ (a : U). neg a) c.args.moves.facts.now c.args.moves.outs c.args.moves.outs c.args.part c.requires (known-Not 0 c.args.moves.outs) (part-not c.args.moves.outs) (made-not c.args.moves.outs)
    c.in_ok-new.field-0 (c.in_ok-new.ensures {u = tt} ∙ ap (λ (a : U). neg a) (c.in_ok-a.ensures {u = tt} ∙ c.from.ensures.lent ∙ ap (λ (d : Derivation). d.from) c.get.ensures)) c.in_ok-d.d c.in_ok-d.ensures.ends)
    c.made_in_turn.result c.made_in_turn.ensures

pub returns-clause-costs : goal.returns-clause-costs
returns-clause-costs c =
    if-ok (IsMadeIn (Inside 1 ∷ []) c.in_ok-d.d c.args.part) (IsOneDown c.args.part)
    (one-costs (λ (a : U). neg a) c.args.moves.facts.now c.args.moves.outs c.args.moves.outs c.args.part c.requires (known-Not 0 c.args.moves.outs) (part-not c.args.moves.outs) (made-not c.args.moves.outs)
    c.in_ok-new.field-0 (c.in_ok-new.ensures {u = tt} ∙ ap (λ (a : U). neg a) (c.in_ok-a.ensures {u = tt} ∙ c.from.ensures.lent ∙ ap (λ (d : Derivation). d.from) c.get.ensures)) c.in_ok-d.d c.in_ok-d.ensures.ends nodes-Not depth-Not
    (subst (λ (d : Derivation). IsSound d) c.get.ensures c.from.ensures.sound) c.in_ok-d.ensures.costs)
    c.made_in_turn.result c.made_in_turn.ensures
