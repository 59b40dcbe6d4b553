use Rattle.std.proofs.lemmas.Result.{IfOk-weaker}
use Rattle.u_rules.specs.Terms.{I, terms}
use Rattle.u_entail.specs.Spines.{spine}
use Rattle.u_entail.proofs.chains.Gained.{spread-ends}
use Rattle.u_entail.proofs.following.Front.gained_in.Goals as goal

pub gained-requires-clause-first : goal.gained-requires-clause-first
gained-requires-clause-first c =
    let m = c.args.self.now.moves in
    spread-ends m.facts.now m.outs c.args.product.now (spine (terms c.args.self.now.factors.now) I) c.in_ok-spread.spread (c.in_ok-spread.ensures {u = tt})

pub returns : goal.returns
returns c = IfOk-weaker c.gained.result _ _ (λ d g. record { spread = c.in_ok-spread.spread; first = c.in_ok-spread.ensures {u = tt}; gained = g }) c.gained.ensures
