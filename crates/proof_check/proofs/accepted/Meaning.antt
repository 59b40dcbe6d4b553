-- A proof that is accepted is one: its steps replay, and keep the meaning.
use Rattle.std.proofs.Common.{ℕ, ◌+◌, List}
use Rattle.u_terms.specs.Syntax.{U}
use Rattle.u_terms.specs.Facts.{FactsOk}
use Rattle.u_terms.specs.declared.facts.Facts.{Facts}
use Rattle.u_rules.specs.Sides.{SameMeaning}
use Rattle.u_rules.specs.Terms.{◌⊗◌}
use Rattle.u_deriv.specs.declared.step.Step.{Step, out-Step}
use Rattle.u_deriv.specs.Contexts.{binders}
use Rattle.u_deriv.specs.Steps as steps
use Rattle.u_deriv.specs.Steps.{Rewrites, Replays}
use Rattle.u_deriv.proofs.steps.Soundness.{replays-mean}
use Rattle.proof_text.specs.Written.{ProofText}
use Rattle.proof_check.specs.Accepted.{Fits, AllFit, by_rule, by_proof, no_step, first_then, Accepted}

module _ (facts : Facts) where
  mutual
    fits-rewrite : (nesting outs : ℕ) (before : U) (step : Step) (after : U) → Fits facts nesting outs before step after → Rewrites facts outs before step after
    fits-rewrite nesting outs before step after (by_rule t other empty keeps) = steps.by_rule t other empty
    fits-rewrite nesting outs before step after (by_proof x t is are keeps few inner) =
        steps.by_proof x t is are (all-replay (nesting + 1) (outs + binders t.replaced.context) (x ⊗ x) (out-Step step).inner x inner)

    all-replay : (nesting outs : ℕ) (before : U) (ss : List Step) (after : U) → AllFit facts nesting outs before ss after → Replays facts outs before ss after
    all-replay nesting outs before _ _ no_step = steps.no_step
    all-replay nesting outs before _ after (first_then {middle = middle} {step = s} {rest = ss} f more) =
        steps.first_then (fits-rewrite nesting outs before s middle f) (all-replay nesting outs middle ss after more)

pub accepted-replays : (facts : Facts) (outs : ℕ) (left right : U) (bytes : List ℕ) → Accepted facts outs left right bytes
    → (ss : List Step) × ProofText bytes outs ss × Replays facts outs left ss right
accepted-replays facts outs left right bytes a = (a.steps, a.text, all-replay facts 0 outs left a.steps right a.fit)

pub accepted-means : (facts : Facts) (outs : ℕ) (left right : U) (bytes : List ℕ) → Accepted facts outs left right bytes → FactsOk facts → SameMeaning facts left right
accepted-means facts outs left right bytes a ok = replays-mean facts ok outs left a.steps right (all-replay facts 0 outs left a.steps right a.fit)
