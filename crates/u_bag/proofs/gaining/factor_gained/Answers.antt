use Rattle.std.proofs.lemmas.Result.{IfOk-weaker}
use Rattle.u_rules.specs.Terms.{terms}
use Rattle.u_bag.specs.Rows.{IsFactorGained, IsMarkGained}
use Rattle.u_bag.proofs.products.Marked.{as-factor}
use Rattle.u_bag.proofs.gaining.factor_gained.Goals as goal

pub returns-in_default-clause-leads : goal.returns-in_default-clause-leads
returns-in_default-clause-leads c =
    let F = c.args.moves.facts.now in
    let names = c.args.moves.outs in
    let product = c.args.classes.now in
    let factors = terms c.args.factors.now in
    let wanted = c.args.wanted.now in
    IfOk-weaker c.mark_gained.result (IsMarkGained F names product factors wanted) (IsFactorGained F names product factors wanted)
    (as-factor F names product factors wanted c.in_default.not-Eq) c.mark_gained.ensures.leads
