-- What a step does: in a context at its path, one side of an instance becomes the other one.
use Rattle.std.specs.Prelude.{◌≡◌, ℕ, ◌+◌, Bool, true, false, List, [], ◌∷◌}
use Rattle.u_terms.specs.Syntax.{U}
use Rattle.u_terms.specs.declared.facts.Facts.{Facts}
use Rattle.u_terms.specs.Binding.{closed_path}
use Rattle.u_rules.specs.declared.rule.Rule.TheVariants as rule
use Rattle.u_rules.specs.declared.rule.Arg.TheVariants.{Term}
use Rattle.u_rules.specs.Terms.{◌⊗◌}
use Rattle.u_rules.specs.Rows.{Instance}
use Rattle.u_rules.specs.Sides.{AreNamed}
use Rattle.u_deriv.specs.declared.run.Run.{Run}
use Rattle.u_deriv.specs.declared.step.Step.{Step, out-Step}
use Rattle.u_deriv.specs.Turns.{turns}
use Rattle.u_deriv.specs.Contexts.{Context, filled, way, binders}

-- In a context at the path, `from` becomes `to`. Both are closed terms, with names for the binders on the path, the outermost first: the
-- names are closed where the terms fill the context.
pub record Replaced (outs : ℕ) (path : List Run) (before from to after : U) : Type 0 where
  pub context : Context
  pub at_path : way context ≡ turns path
  pub is_from : before ≡ filled context (closed_path from outs (binders context))
  pub is_to : after ≡ filled context (closed_path to outs (binders context))

-- the sides of an instance, in the direction of the step
abbrev pub Sides : Facts → Bool → Step → U → U → Type 0
Sides facts true step from to = Instance facts (out-Step step).rule (out-Step step).args from to
Sides facts false step from to = Instance facts (out-Step step).rule (out-Step step).args to from

-- one side of the instance becomes the other one, and the arguments have no names beside those of the term and of the binders on the path
pub record Exchanged (facts : Facts) (outs : ℕ) (before : U) (step : Step) (after : U) : Type 0 where
  pub from : U
  pub to : U
  pub sides : Sides facts (out-Step step).forward step from to
  pub replaced : Replaced outs (out-Step step).path before from to after
  pub named : AreNamed (outs + binders replaced.context) (out-Step step).args

mutual
  -- the step leads from the one term to the other; it is meant for closed terms with names below `outs`
  pub data Rewrites (facts : Facts) : ℕ → U → Step → U → Type 0 where
    by_rule : {outs : ℕ} {before : U} {step : Step} {after : U}
        → Exchanged facts outs before step after
        → ((out-Step step).rule ≡ rule.SqFix → ⊥)
        → (out-Step step).inner ≡ []
        → Rewrites facts outs before step after
    by_proof : {outs : ℕ} {before : U} {step : Step} {after : U} (x : U)
        → (exchanged : Exchanged facts outs before step after)
        → (out-Step step).rule ≡ rule.SqFix
        → (out-Step step).args ≡ Term x ∷ []
        → Replays facts (outs + binders exchanged.replaced.context) (x ⊗ x) (out-Step step).inner x
        → Rewrites facts outs before step after

  -- the steps lead from the one term to the other, one after the other
  pub data Replays (facts : Facts) : ℕ → U → List Step → U → Type 0 where
    no_step : {outs : ℕ} {before : U} → Replays facts outs before [] before
    first_then : {outs : ℕ} {before middle after : U} {step : Step} {rest : List Step}
        → Rewrites facts outs before step middle
        → Replays facts outs middle rest after
        → Replays facts outs before (step ∷ rest) after
