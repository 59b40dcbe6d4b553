use Rattle.std.proofs.lemmas.Result.{IfOk-weaker}
use Rattle.u_bag.specs.Costs.{IsThreefold, MetCosts}
use Rattle.u_bag.proofs.costs.GainedCosts.{met-costs}
use Rattle.u_bag.proofs.gaining.met.Goals as goal

pub returns-clause-costs : goal.returns-clause-costs
returns-clause-costs c =
    IfOk-weaker c.joined_by.result (IsThreefold c.args.down c.in_ok-between.between c.in_ok-back.back) (MetCosts c.args.down c.args.up)
    (λ d h. met-costs c.end_of.result.now c.end_of-2.result.now c.args.down c.in_ok-between.between c.args.up c.in_ok-back.back d c.in_ok-between.ensures.costs c.end_of.ensures.within c.end_of-2.ensures.within
    c.in_ok-back.ensures.costs h) c.joined_by.ensures.costs
