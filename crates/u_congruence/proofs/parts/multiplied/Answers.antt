use Rattle.std.proofs.Common.{[], ◌∷◌, ap, subst, ◌∙◌}
use Rattle.u_terms.specs.Syntax.{U}
use Rattle.u_terms.proofs.Sizes.{nodes-Mul, depth-Mul}
use Rattle.u_rules.specs.Terms.{◌⊗◌}
use Rattle.u_deriv.specs.declared.run.Run.TheVariants.{Right}
use Rattle.u_moves.specs.Derivations.{Derivation, IsSound}
use Rattle.u_moves.specs.Lifting.{IsMadeIn}
use Rattle.u_moves.proofs.derivations.Whole.{if-ok}
use Rattle.u_congruence.specs.Congruence.{AreBeside, IsFromTo}
use Rattle.u_congruence.proofs.Turned.{known-Mul, part-mul_left, made-mul_left, part-mul_right, made-mul_right}
use Rattle.u_congruence.proofs.Pairs.{pair-known, pair-left, pair-right, pair-shown, pair-costs}
use Rattle.u_congruence.proofs.parts.multiplied.Goals as goal

pub still-requires : goal.still-requires
still-requires c =
    pair-known (λ (a b : U). a ⊗ b) (known-Mul 0) (λ outs. part-mul_left outs) (λ outs. made-mul_left outs) (λ outs. part-mul_right outs) (λ outs. made-mul_right outs) c.args.moves.facts.now c.args.moves.outs c.args.left c.args.right c.requires.left c.requires.right
    c.in_ok-new.field-0 (subst (λ (d : Derivation). IsSound d) c.get.ensures c.from.ensures.sound) (subst (λ (d : Derivation). IsSound d) c.get-2.ensures c.from-2.ensures.sound)
    (c.in_ok-new.ensures {u = tt} ∙ ap (λ (a : U). a ⊗ c.in_ok-b.b) (c.in_ok-a.ensures {u = tt} ∙ c.from.ensures.lent ∙ ap (λ (d : Derivation). d.from) c.get.ensures) ∙ ap (λ (b : U). c.args.left.from ⊗ b) (c.in_ok-b.ensures {u = tt} ∙ c.from-2.ensures.lent ∙ ap (λ (d : Derivation). d.from) c.get-2.ensures))

pub made_in_turn-requires-clause-part : goal.made_in_turn-requires-clause-part
made_in_turn-requires-clause-part c =
    pair-left (λ (a b : U). a ⊗ b) (known-Mul 0) (λ outs. part-mul_left outs) (λ outs. made-mul_left outs) (λ outs. part-mul_right outs) (λ outs. made-mul_right outs) c.args.moves.facts.now c.args.moves.outs c.args.left c.args.right c.requires.left c.requires.right
    c.in_ok-new.field-0
    (c.in_ok-new.ensures {u = tt} ∙ ap (λ (a : U). a ⊗ c.in_ok-b.b) (c.in_ok-a.ensures {u = tt} ∙ c.from.ensures.lent ∙ ap (λ (d : Derivation). d.from) c.get.ensures) ∙ ap (λ (b : U). c.args.left.from ⊗ b) (c.in_ok-b.ensures {u = tt} ∙ c.from-2.ensures.lent ∙ ap (λ (d : Derivation). d.from) c.get-2.ensures))
    c.in_ok-d.d c.in_ok-d.ensures.ends (subst (λ (d : Derivation). IsSound d) c.get.ensures c.from.ensures.sound)

pub made_in_turn-requires-2-clause-part : goal.made_in_turn-requires-2-clause-part
made_in_turn-requires-2-clause-part c =
    pair-right (λ (a b : U). a ⊗ b) (known-Mul 0) (λ outs. part-mul_left outs) (λ outs. made-mul_left outs) (λ outs. part-mul_right outs) (λ outs. made-mul_right outs) c.args.moves.facts.now c.args.moves.outs c.args.left c.args.right c.requires.left c.requires.right
    c.in_ok-new.field-0
    (c.in_ok-new.ensures {u = tt} ∙ ap (λ (a : U). a ⊗ c.in_ok-b.b) (c.in_ok-a.ensures {u = tt} ∙ c.from.ensures.lent ∙ ap (λ (d : Derivation). d.from) c.get.ensures) ∙ ap (λ (b : U). c.args.left.from ⊗ b) (c.in_ok-b.ensures {u = tt} ∙ c.from-2.ensures.lent ∙ ap (λ (d : Derivation). d.from) c.get-2.ensures))
    c.in_ok-d.d c.in_ok-d.ensures.ends c.in_ok-d-2.d (c.in_ok-d-2.ensures {u = tt}) (subst (λ (d : Derivation). IsSound d) c.get-2.ensures c.from-2.ensures.sound)

pub returns-clause-ends : goal.returns-clause-ends
returns-clause-ends c =
    if-ok (IsMadeIn (Right 1 ∷ []) c.in_ok-d-2.d c.args.right) (IsFromTo c.args.moves.facts.now c.args.moves.outs (c.args.left.from ⊗ c.args.right.from) (c.args.left.to ⊗ c.args.right.to))
    (pair-shown (λ (a b : U). a ⊗ b) (known-Mul 0) (λ outs. part-mul_left outs) (λ outs. made-mul_left outs) (λ outs. part-mul_right outs) (λ outs. made-mul_right outs) c.args.moves.facts.now c.args.moves.outs c.args.left c.args.right c.requires.left c.requires.right
    c.in_ok-new.field-0
    (c.in_ok-new.ensures {u = tt} ∙ ap (λ (a : U). a ⊗ c.in_ok-b.b) (c.in_ok-a.ensures {u = tt} ∙ c.from.ensures.lent ∙ ap (λ (d : Derivation). d.from) c.get.ensures) ∙ ap (λ (b : U). c.args.left.from ⊗ b) (c.in_ok-b.ensures {u = tt} ∙ c.from-2.ensures.lent ∙ ap (λ (d : Derivation). d.from) c.get-2.ensures))
    c.in_ok-d.d c.in_ok-d.ensures.ends c.in_ok-d-2.d (c.in_ok-d-2.ensures {u = tt}))
    c.made_in_turn-2.result c.made_in_turn-2.ensures

pub returns-clause-costs : goal.returns-clause-costs
returns-clause-costs c =
    if-ok (IsMadeIn (Right 1 ∷ []) c.in_ok-d-2.d c.args.right) (AreBeside c.args.left c.args.right)
    (pair-costs (λ (a b : U). a ⊗ b) (known-Mul 0) (λ outs. part-mul_left outs) (λ outs. made-mul_left outs) (λ outs. part-mul_right outs) (λ outs. made-mul_right outs) c.args.moves.facts.now c.args.moves.outs c.args.left c.args.right c.requires.left c.requires.right
    c.in_ok-new.field-0
    (c.in_ok-new.ensures {u = tt} ∙ ap (λ (a : U). a ⊗ c.in_ok-b.b) (c.in_ok-a.ensures {u = tt} ∙ c.from.ensures.lent ∙ ap (λ (d : Derivation). d.from) c.get.ensures) ∙ ap (λ (b : U). c.args.left.from ⊗ b) (c.in_ok-b.ensures {u = tt} ∙ c.from-2.ensures.lent ∙ ap (λ (d : Derivation). d.from) c.get-2.ensures))
    c.in_ok-d.d c.in_ok-d.ensures.ends c.in_ok-d-2.d (c.in_ok-d-2.ensures {u = tt}) nodes-Mul depth-Mul
    (subst (λ (d : Derivation). IsSound d) c.get.ensures c.from.ensures.sound) (subst (λ (d : Derivation). IsSound d) c.get-2.ensures c.from-2.ensures.sound) c.in_ok-d.ensures.costs)
    c.made_in_turn-2.result c.made_in_turn-2.ensures
