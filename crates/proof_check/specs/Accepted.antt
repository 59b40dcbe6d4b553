-- A proof that is accepted: its text spells steps that lead from the one term to the other, and no limit is passed.
use Rattle.std.specs.Prelude.{◌≡◌, ℕ, ◌+◌, ◌<◌, ◌≤◌, List, [], ◌∷◌}
use Rattle.data_model.specs.Lists.{Each}
use Rattle.u_terms.specs.Syntax.{U}
use Rattle.u_terms.specs.declared.facts.Facts.{Facts}
use Rattle.u_rules.specs.declared.rule.Rule.TheVariants as rule
use Rattle.u_rules.specs.declared.rule.Arg.TheVariants.{Term}
use Rattle.u_rules.specs.Terms.{◌⊗◌}
use Rattle.u_deriv.specs.declared.step.Step.{Step, out-Step}
use Rattle.u_deriv.specs.Contexts.{binders}
use Rattle.u_deriv.specs.Steps.{Exchanged}
use Rattle.proof_text.specs.Written.{ProofText, IsSmall as IsSmallArgument}
use Rattle.proof_text.specs.StepLines.{lines_of, steps_in}
use Rattle.proof_check.specs.Limits.{IsSmall, SidesAreSmall, sizes_for, most_steps, most_nesting}

-- neither an argument of the step, nor a side of its row, nor the term after it passes a limit
pub record KeepsLimits (facts : Facts) (step : Step) (after : U) : Type 0 where
  pub arguments : Each IsSmallArgument (out-Step step).args
  pub sides : SidesAreSmall (sizes_for facts step)
  pub term : IsSmall after

mutual
  -- the step makes the one term the other and passes no limit, where so many inner proofs are open
  pub data Fits (facts : Facts) : ℕ → ℕ → U → Step → U → Type 0 where
    by_rule : {nesting outs : ℕ} {before : U} {step : Step} {after : U}
        → Exchanged facts outs before step after
        → ((out-Step step).rule ≡ rule.SqFix → ⊥)
        → (out-Step step).inner ≡ []
        → KeepsLimits facts step after
        → Fits facts nesting outs before step after
    by_proof : {nesting outs : ℕ} {before : U} {step : Step} {after : U} (x : U)
        → (exchanged : Exchanged facts outs before step after)
        → (out-Step step).rule ≡ rule.SqFix
        → (out-Step step).args ≡ Term x ∷ []
        → KeepsLimits facts step after
        → nesting < most_nesting
        → AllFit facts (nesting + 1) (outs + binders exchanged.replaced.context) (x ⊗ x) (out-Step step).inner x
        → Fits facts nesting outs before step after

  -- so do the steps, one after the other
  pub data AllFit (facts : Facts) : ℕ → ℕ → U → List Step → U → Type 0 where
    no_step : {nesting outs : ℕ} {before : U} → AllFit facts nesting outs before [] before
    first_then : {nesting outs : ℕ} {before middle after : U} {step : Step} {rest : List Step}
        → Fits facts nesting outs before step middle
        → AllFit facts nesting outs middle rest after
        → AllFit facts nesting outs before (step ∷ rest) after

-- the bytes are the text of steps that lead from the one term to the other, and no limit but that on bytes is passed
pub record Accepted (facts : Facts) (outs : ℕ) (left right : U) (bytes : List ℕ) : Type 0 where
  pub steps : List Step
  pub text : ProofText bytes outs steps
  pub few : steps_in (lines_of steps) ≤ most_steps
  pub fit : AllFit facts 0 outs left steps right
