-- One move has plain steps, for code that makes it.
use Rattle.std.proofs.Common.{◌≡◌, List, [], ◌∷◌}
use Rattle.u_rules.specs.declared.rule.Arg.{Arg}
use Rattle.u_rules.specs.declared.rule.Rule.TheVariants as rule
use Rattle.u_moves.specs.Derivations.{Derivation, HasPlainSteps}
use Rattle.u_moves.specs.Moving.{root_step}
use Rattle.u_moves.specs.Turning.{turned_back}
use Rattle.u_moves.proofs.derivations.Plain as moves

pub back-plain : (first d : Derivation) → d.steps ≡ turned_back first.steps → HasPlainSteps first → HasPlainSteps d
back-plain first d is plain = moves.back-plain first d is plain

pub mul_ac-plain : (args : List Arg) (d : Derivation) → d.steps ≡ root_step rule.MulAc args ∷ [] → HasPlainSteps d
mul_ac-plain args d is = moves.move-plain rule.MulAc args d (λ e. cc) (λ e. cc) is

pub eq_refl-plain : (args : List Arg) (d : Derivation) → d.steps ≡ root_step rule.EqRefl args ∷ [] → HasPlainSteps d
eq_refl-plain args d is = moves.move-plain rule.EqRefl args d (λ e. cc) (λ e. cc) is

pub eq_sym-plain : (args : List Arg) (d : Derivation) → d.steps ≡ root_step rule.EqSym args ∷ [] → HasPlainSteps d
eq_sym-plain args d is = moves.move-plain rule.EqSym args d (λ e. cc) (λ e. cc) is

pub sq_abs-plain : (args : List Arg) (d : Derivation) → d.steps ≡ root_step rule.SqAbs args ∷ [] → HasPlainSteps d
sq_abs-plain args d is = moves.move-plain rule.SqAbs args d (λ e. cc) (λ e. cc) is

pub sq_pred-plain : (args : List Arg) (d : Derivation) → d.steps ≡ root_step rule.SqPred args ∷ [] → HasPlainSteps d
sq_pred-plain args d is = moves.move-plain rule.SqPred args d (λ e. cc) (λ e. cc) is

pub sq_not-plain : (args : List Arg) (d : Derivation) → d.steps ≡ root_step rule.SqNot args ∷ [] → HasPlainSteps d
sq_not-plain args d is = moves.move-plain rule.SqNot args d (λ e. cc) (λ e. cc) is

pub ruleset one_move = (back-plain, mul_ac-plain, eq_refl-plain, eq_sym-plain, sq_abs-plain, sq_pred-plain, sq_not-plain)
