use Rattle.std.proofs.Common.{◌-◌, take, drop, length, arith}
use Rattle.std.proofs.lemmas.Result.{IfOk-weaker}
use Rattle.u_rules.specs.Terms.{terms}
use Rattle.u_bag.specs.Rows.{IsRowWith}
use Rattle.u_bag.proofs.products.Gained.{all-gained, first-and-rest}
use Rattle.u_bag.proofs.costs.GainedCosts.{KeepsRowCosts, all-costs, both-ok}
use Rattle.u_bag.proofs.gaining.+with_all.Goals as goal

pub returns-in-Some-clause-leads : goal.returns-in-Some-clause-leads
returns-in-Some-clause-leads t c =
    let F = c.args.moves.facts.now in
    let names = c.args.moves.outs in
    let all = c.args.wanted.now in
    let rest = terms (take (length all - 1) (drop 1 all)) in
    IfOk-weaker c.with_all.result (IsRowWith F names c.args.classes.now (terms c.in-Some.row.factors.items) rest)
    (IsRowWith F names c.args.classes.now (terms c.args.row.factors.items) (terms all))
    (all-gained F names c.args.classes.now (terms c.args.row.factors.items) (terms all) rest c.factor-item.result.now c.in-Some.row
    (first-and-rest all c.factor-item.result (omega (arith, c.in-len1-up.len_at_least)) c.factor-item.is) c.in_ok-row-in-len1-up.field-0 c.in-Some.is c.in_ok-row-in-len1-up.ensures.leads)
    c.with_all.ensures.leads

pub returns-in-Some-clause-costs : goal.returns-in-Some-clause-costs
returns-in-Some-clause-costs t c =
    let F = c.args.moves.facts.now in
    let names = c.args.moves.outs in
    let all = c.args.wanted.now in
    let rest = terms (take (length all - 1) (drop 1 all)) in
    both-ok (IsRowWith F names c.args.classes.now (terms c.in-Some.row.factors.items) rest) (KeepsRowCosts c.args.classes.now c.in-Some.row rest) (KeepsRowCosts c.args.classes.now c.args.row (terms all))
    (all-costs F names c.args.classes.now c.args.row (terms all) rest c.factor-item.result.now c.in-Some.row
    (first-and-rest all c.factor-item.result (omega (arith, c.in-len1-up.len_at_least)) c.factor-item.is) c.in_ok-row-in-len1-up.field-0 c.in-Some.is c.in_ok-row-in-len1-up.ensures.costs)
    c.with_all.result c.with_all.ensures.leads c.with_all.ensures.costs
