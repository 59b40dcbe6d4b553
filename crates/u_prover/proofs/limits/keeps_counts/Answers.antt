use Rattle.std.proofs.Common.{rules, List, length, ◌≡◌, ◌≤◌, sym, subst, ◌∙◌}
use Rattle.data_model.specs.Lists.{Each}
use Rattle.u_terms.specs.declared.facts.Facts.{Facts}
use Rattle.u_deriv.specs.declared.step.Step.{Step}
use Rattle.proof_check.specs.Limits.{IsWithin, most_steps}
use Rattle.u_prover.specs.Proving.{IsSmallStep}
use Rattle.u_prover.proofs.limits.keeps_counts.Goals as goal
use Rattle.u_prover.proofs.limits.keeps_counts.Goals.{then-len-le-MOST_STEPS, else-len-le-MOST_STEPS}

pub returns-then-is_within : goal.returns-then-is_within
returns-then-is_within c =
    let steps : c.as_slice.result.now ≡ c.args.d.now.steps = c.as_slice.ensures ∙ c.steps-then-is_within.ensures.lent in
    let few : length c.args.d.now.steps ≤ most_steps = elim c.if-len-le-MOST_STEPS.branch [ then-len-le-MOST_STEPS w ↦ search rules | else-len-le-MOST_STEPS w ↦ search rules ] in
    let within : IsWithin c.args.d.now.nodes c.args.d.now.depth = elim c.if-len-le-MOST_STEPS.branch [ then-len-le-MOST_STEPS w ↦ search rules | else-len-le-MOST_STEPS w ↦ search rules ] in
    let each : Each (IsSmallStep c.facts.result.now) c.as_slice.result.now → Each (IsSmallStep c.args.d.now.facts) c.args.d.now.steps =
    λ h. subst (λ (F : Facts). Each (IsSmallStep F) c.args.d.now.steps) c.facts.ensures (subst (λ (xs : List Step). Each (IsSmallStep c.facts.result.now) xs) steps h) in
    let back : Each (IsSmallStep c.args.d.now.facts) c.args.d.now.steps → Each (IsSmallStep c.facts.result.now) c.as_slice.result.now =
    λ h. subst (λ (xs : List Step). Each (IsSmallStep c.facts.result.now) xs) (sym steps) (subst (λ (F : Facts). Each (IsSmallStep F) c.args.d.now.steps) (sym c.facts.ensures) h) in
    record {
      exact = (λ small. record { few = few; within = within; small = each (c.are_small.ensures.0 small) }, λ h. c.are_small.ensures.1 (back h.small));
      sound = c.steps.ensures.sound;
    }
