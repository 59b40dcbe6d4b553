-- One move that takes both terms, by a rule that sets parts in another order, is one plain step.
use Rattle.std.proofs.Common.{◌≡◌, ◌+◌, ◌*◌, List, [], ◌∷◌, length, ap, subst, ◌∙◌, arith}
use Rattle.u_terms.specs.Syntax.{U}
use Rattle.u_terms.specs.Size.{nodes}
use Rattle.u_rules.specs.declared.rule.Arg.TheVariants as arg
use Rattle.u_rules.specs.declared.rule.Rule.{Rule}
use Rattle.u_rules.specs.declared.rule.Rule.TheVariants as rule
use Rattle.u_deriv.specs.LineBounds.{lines_bound}
use Rattle.u_moves.specs.declared.moves.Moves.{Moves}
use Rattle.u_moves.specs.Derivations.{Derivation}
use Rattle.u_moves.specs.Moving.{IsMove, root_step}
use Rattle.u_moves.proofs.derivations.Lines.{bound-move}
use Rattle.u_moves.proofs.derivations.Plain.{move-plain}
use Rattle.u_simple.specs.Steps.{IsOnePlainStep}

module _ (moves : Moves) (q : Rule) (proves : q ≡ rule.SqFix → ⊥) (uses : q ≡ rule.SumUse → ⊥) where
  one-step : (x y : U) (d : Derivation) → IsMove moves q (arg.Term x ∷ arg.Term y ∷ []) x y d → IsOnePlainStep x y d
  one-step x y d h = record {
    steps = ap length h.steps;
    nodes = h.nodes;
    depth = h.depth;
    bytes = ap lines_bound h.steps ∙ bound-move q (arg.Term x ∷ arg.Term y ∷ []) ∙ omega arith;
    plain = move-plain q (arg.Term x ∷ arg.Term y ∷ []) d proves uses h.steps;
  }

  of-copies : (x y first last : U) (d : Derivation) → x ≡ first → y ≡ last → IsMove moves q (arg.Term x ∷ arg.Term y ∷ []) x y d → IsOnePlainStep first last d
  of-copies x y first last d e f h = subst (λ (s : U). IsOnePlainStep s last d) e (subst (λ (t : U). IsOnePlainStep x t d) f (one-step x y d h))

pub product-step : (moves : Moves) (x y first last : U) (d : Derivation) → x ≡ first → y ≡ last → IsMove moves rule.MulAc (arg.Term x ∷ arg.Term y ∷ []) x y d → IsOnePlainStep first last d
product-step moves = of-copies moves rule.MulAc (λ e. cc) (λ e. cc)

pub sum-step : (moves : Moves) (x y first last : U) (d : Derivation) → x ≡ first → y ≡ last → IsMove moves rule.AddAc (arg.Term x ∷ arg.Term y ∷ []) x y d → IsOnePlainStep first last d
sum-step moves = of-copies moves rule.AddAc (λ e. cc) (λ e. cc)
