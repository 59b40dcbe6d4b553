use Rattle.std.proofs.lemmas.Result.{IfOk-weaker}
use Rattle.u_congruence.specs.Congruence.{IsSequence}
use Rattle.u_bag.specs.Costs.{IsThreefold}
use Rattle.u_bag.proofs.costs.GainedCosts.{threefold}
use Rattle.u_bag.proofs.regrouping.joined_by.Goals as goal

pub returns-clause-costs : goal.returns-clause-costs
returns-clause-costs c =
    IfOk-weaker c.joined-2.result (IsSequence c.in_ok-first.first c.args.last) (IsThreefold c.args.first c.args.between c.args.last)
    (λ d h. threefold c.args.first c.args.between c.in_ok-first.first c.args.last d c.in_ok-first.ensures.costs h) c.joined-2.ensures.costs
