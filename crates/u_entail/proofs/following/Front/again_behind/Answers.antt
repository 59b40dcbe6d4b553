use Rattle.std.proofs.Common.{sym, ◌∙◌}
use Rattle.u_rules.specs.Terms.{terms}
use Rattle.u_entail.proofs.copies.Doubled.{again-behind}
use Rattle.u_entail.proofs.following.Front.again_behind.Goals as goal

pub then-requires-clause-joins : goal.then-requires-clause-joins
then-requires-clause-joins c =
    let d = c.in_ok-doubled.ensures {u = tt} in
    let g = c.in_ok-gathered.ensures {u = tt} in
    let k = d.leads in
    let l = g.leads in
    k.to ∙ sym l.from

pub then-requires-clause-facts : goal.then-requires-clause-facts
then-requires-clause-facts c =
    let d = c.in_ok-doubled.ensures {u = tt} in
    let g = c.in_ok-gathered.ensures {u = tt} in
    let k = d.leads in
    let l = g.leads in
    k.facts ∙ sym l.facts

pub then-requires-clause-outs : goal.then-requires-clause-outs
then-requires-clause-outs c =
    let d = c.in_ok-doubled.ensures {u = tt} in
    let g = c.in_ok-gathered.ensures {u = tt} in
    let k = d.leads in
    let l = g.leads in
    k.outs ∙ sym l.outs

pub returns : goal.returns
returns c =
    let m = c.args.self.now.moves in
    let t = c.then.ensures in
    again-behind (terms c.args.self.now.factors.now) (terms c.args.others.now) c.args.place c.args.mark.now c.requires.parted m.facts.now m.outs c.in_ok-doubled.doubled c.in_ok-gathered.gathered
    (c.in_ok-doubled.ensures {u = tt}) (c.in_ok-gathered.ensures {u = tt}) c.then.result t.facts t.outs t.from t.to t.steps t.bounds
