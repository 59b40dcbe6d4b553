-- Derivations whose steps are plain: without a step, of one move, turned back, and one after the other.
use Rattle.std.proofs.Common.{◌≡◌, List, [], ◌∷◌, ◌++◌, sym, subst}
use Rattle.data_model.specs.Lists.{Each}
use Rattle.u_rules.specs.declared.rule.Arg.{Arg}
use Rattle.u_rules.specs.declared.rule.Rule.{Rule}
use Rattle.u_rules.specs.declared.rule.Rule.TheVariants as rule
use Rattle.u_deriv.specs.LineBounds.{IsPlain}
use Rattle.u_deriv.specs.declared.run.Run.{Run}
use Rattle.u_deriv.specs.declared.step.Step.{Step}
use Rattle.u_moves.specs.Derivations.{Derivation, HasPlainSteps}
use Rattle.u_moves.specs.Lifting.{lifted}
use Rattle.u_moves.specs.Moving.{root_step}
use Rattle.u_moves.specs.Turning.{turned_back}
use Rattle.u_moves.proofs.derivations.Lines.{plain-back, plain-lifted, plain-move, plain-then}

steps-plain : (d : Derivation) (xs : List Step) → d.steps ≡ xs → Each IsPlain xs → HasPlainSteps d
steps-plain d xs is each = subst (Each IsPlain) (sym is) each

pub still-plain : (d : Derivation) → d.steps ≡ [] → HasPlainSteps d
still-plain d is = steps-plain d [] is tt

pub move-plain : (q : Rule) (args : List Arg) (d : Derivation) → (q ≡ rule.SqFix → ⊥) → (q ≡ rule.SumUse → ⊥) → d.steps ≡ root_step q args ∷ [] → HasPlainSteps d
move-plain q args d proves uses is = steps-plain d (root_step q args ∷ []) is (plain-move q args proves uses, tt)

pub back-plain : (first d : Derivation) → d.steps ≡ turned_back first.steps → HasPlainSteps first → HasPlainSteps d
back-plain first d is plain = steps-plain d (turned_back first.steps) is (plain-back first.steps plain)

pub joined-plain : (first rest d : Derivation) → d.steps ≡ first.steps ++ rest.steps → HasPlainSteps first → HasPlainSteps rest → HasPlainSteps d
joined-plain first rest d is plain more = steps-plain d (first.steps ++ rest.steps) is (plain-then first.steps rest.steps plain more)

-- the one, and then the other at the end of a path
pub made-plain : (path : List Run) (first part d : Derivation) → d.steps ≡ first.steps ++ lifted path part.steps → HasPlainSteps first → HasPlainSteps part → HasPlainSteps d
made-plain path first part d is plain more = steps-plain d (first.steps ++ lifted path part.steps) is (plain-then first.steps (lifted path part.steps) plain (plain-lifted path part.steps more))

pub under-plain : (path : List Run) (part d : Derivation) → d.steps ≡ lifted path part.steps → HasPlainSteps part → HasPlainSteps d
under-plain path part d is plain = steps-plain d (lifted path part.steps) is (plain-lifted path part.steps plain)
