use Rattle.std.proofs.Common.{subst}
use Rattle.std.proofs.lemmas.Result.{IfOk-weaker}
use Rattle.u_terms.specs.Syntax.{U}
use Rattle.u_moves.specs.Derivations.{IsStill}
use Rattle.u_simple.specs.Steps.{IsOnePlainStep}
use Rattle.u_bag.specs.Costs.{IsOneStepAtMost}
use Rattle.u_bag.proofs.costs.GainedCosts.{no-step, one-step}
use Rattle.u_bag.proofs.regrouping.sums_regrouped.Goals as goal

pub returns-in_ok-copied-clause-costs : goal.returns-in_ok-copied-clause-costs
returns-in_ok-copied-clause-costs c =
    let F = c.args.moves.facts.now in
    let outs = c.args.moves.outs in
    let left = c.args.left.now in
    let right = c.args.right.now in
    IfOk-weaker c.still.result (IsStill F outs c.in_ok-copied.field-0) (IsOneStepAtMost left right)
    (λ d h. no-step F outs left right d (subst (λ (u : U). IsStill F outs u d) (c.in_ok-copied.ensures {u = tt}) h)) c.still.ensures.costs

pub returns-else-same-clause-costs : goal.returns-else-same-clause-costs
returns-else-same-clause-costs c =
    let left = c.args.left.now in
    let right = c.args.right.now in
    IfOk-weaker c.sums_rearranged.result (IsOnePlainStep left right) (IsOneStepAtMost left right) (one-step left right) c.sums_rearranged.ensures.step
