use Rattle.std.proofs.Common.{sym, ◌∙◌}
use Rattle.u_rules.specs.Terms.{terms}
use Rattle.u_entail.proofs.chains.Gained.{regathered}
use Rattle.u_entail.proofs.following.Front.regathered.Goals as goal

pub then-requires-clause-joins : goal.then-requires-clause-joins
then-requires-clause-joins c = let r = c.in_ok-gathered.ensures {u = tt} in let l = r.leads in let g = c.requires.gained in g.to ∙ sym l.from

pub then-requires-clause-facts : goal.then-requires-clause-facts
then-requires-clause-facts c = let r = c.in_ok-gathered.ensures {u = tt} in let l = r.leads in let g = c.requires.gained in g.facts ∙ sym l.facts

pub then-requires-clause-outs : goal.then-requires-clause-outs
then-requires-clause-outs c = let r = c.in_ok-gathered.ensures {u = tt} in let l = r.leads in let g = c.requires.gained in g.outs ∙ sym l.outs

pub returns : goal.returns
returns c =
    let m = c.args.self.now.moves in
    let t = c.then.ensures in
    regathered m.facts.now m.outs (terms c.args.self.now.factors.now) c.args.product.now c.args.a.now c.args.b.now c.args.gained c.in_ok-gathered.gathered (c.in_ok-gathered.ensures {u = tt}) c.then.result
    t.facts t.outs t.from t.to t.steps t.bounds
