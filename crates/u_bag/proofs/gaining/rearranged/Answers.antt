use Rattle.std.proofs.Common.{subst}
use Rattle.std.proofs.lemmas.Result.{IfOk-weaker}
use Rattle.u_terms.specs.Syntax.{U}
use Rattle.u_moves.specs.Derivations.{IsStill}
use Rattle.u_simple.specs.Steps.{IsOnePlainStep}
use Rattle.u_bag.specs.Costs.{IsOneStepAtMost}
use Rattle.u_bag.proofs.costs.GainedCosts.{no-step, one-step}
use Rattle.u_bag.proofs.gaining.rearranged.Goals as goal

pub returns-in_ok-copied-clause-costs : goal.returns-in_ok-copied-clause-costs
returns-in_ok-copied-clause-costs c =
    let F = c.args.moves.facts.now in
    let outs = c.args.moves.outs in
    let u = c.args.u.now in
    let row = c.args.row.now in
    IfOk-weaker c.still.result (IsStill F outs c.in_ok-copied.field-0) (IsOneStepAtMost u row)
    (λ d h. no-step F outs u row d (subst (λ (t : U). IsStill F outs t d) (c.in_ok-copied.ensures {u = tt}) h)) c.still.ensures.costs

pub returns-else-same-clause-costs : goal.returns-else-same-clause-costs
returns-else-same-clause-costs c =
    let u = c.args.u.now in
    let row = c.args.row.now in
    IfOk-weaker c.products_rearranged.result (IsOnePlainStep u row) (IsOneStepAtMost u row) (one-step u row) c.products_rearranged.ensures.step
