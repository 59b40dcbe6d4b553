use Rattle.std.proofs.lemmas.Result.{IfOk-weaker}
use Rattle.u_rules.specs.Terms.{◌≐◌, terms}
use Rattle.u_entail.proofs.chains.Gained.{gained-between, product-gained}
use Rattle.u_entail.proofs.following.Front.derived.Goals as goal

pub gained_in-requires-clause-lead : goal.gained_in-requires-clause-lead
gained_in-requires-clause-lead c = record { to = c.args.a.now ≐ c.args.b.now; by = c.requires.lead }

pub regathered-requires-clause-gained : goal.regathered-requires-clause-gained
regathered-requires-clause-gained c =
    let m = c.args.self.now.moves in
    gained-between m.facts.now m.outs c.args.product.now (terms c.args.self.now.factors.now) c.args.a.now c.args.b.now c.args.hops.now c.in_ok-gained.gained c.requires.lead (c.in_ok-gained.ensures {u = tt})

pub returns : goal.returns
returns c =
    let m = c.args.self.now.moves in
    IfOk-weaker c.regathered.result _ _
    (λ d k. product-gained m.facts.now m.outs c.args.product.now (terms c.args.self.now.factors.now) c.requires.leaves c.args.a.now c.args.b.now c.requires.a c.args.hops.now c.requires.lead
    c.in_ok-gained.gained d (c.in_ok-gained.ensures {u = tt}) k)
    c.regathered.ensures
