use Rattle.std.proofs.Common.{sym, subst}
use Rattle.std.proofs.lemmas.Result.{IfOk-weaker}
use Rattle.u_terms.specs.Syntax.{U}
use Rattle.u_rules.specs.Terms.{◌≐◌, neg, terms}
use Rattle.u_entail.specs.Gaining.{EndsIn, IsLed}
use Rattle.u_entail.specs.Hops.{Lead}
use Rattle.u_entail.specs.Spines.{spine}
use Rattle.u_entail.proofs.copies.Copied.{copied-by, ends-between, exchanged-known}
use Rattle.u_entail.proofs.following.Front.copied_exchanged.Goals as goal

pub led-requires-clause-begun : goal.led-requires-clause-begun
led-requires-clause-begun c =
    let m = c.args.self.now.moves in
    let factors = terms c.args.self.now.factors.now in
    let h = c.in_ok-ready.ensures {u = tt} in
    subst (λ (x : U). EndsIn m.facts.now m.outs (spine factors x) c.in_ok-ready.ready) (sym (c.in_ok-last.ensures {u = tt}))
    (ends-between m.facts.now m.outs factors (neg (c.args.b.now ≐ c.args.a.now)) c.in_ok-ready.ready h.leads)

pub led-requires-clause-known : goal.led-requires-clause-known
led-requires-clause-known c =
    exchanged-known c.args.self.now.moves.outs (terms c.args.self.now.factors.now) c.requires.factors c.args.place c.args.a.now c.args.b.now c.requires.at c.in_ok-last.last (c.in_ok-last.ensures {u = tt})

pub led-requires-clause-lead : goal.led-requires-clause-lead
led-requires-clause-lead c = subst (λ (x : U). Lead (terms c.args.self.now.factors.now) x c.args.hops.now) (sym (c.in_ok-last.ensures {u = tt})) c.requires.lead

pub returns : goal.returns
returns c =
    let m = c.args.self.now.moves in
    let factors = terms c.args.self.now.factors.now in
    let h = c.in_ok-ready.ensures {u = tt} in
    IfOk-weaker c.led.result _ _
    (λ d l. copied-by m.facts.now m.outs factors (neg (c.args.b.now ≐ c.args.a.now)) c.args.hops.now 5 c.in_ok-ready.ready d h.leads h.steps h.lean
    (subst (λ (x : U). IsLed m.facts.now m.outs factors x c.args.hops.now c.in_ok-ready.ready d) (c.in_ok-last.ensures {u = tt}) l))
    c.led.ensures
