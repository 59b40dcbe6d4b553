use Rattle.std.proofs.Common.{sym, subst, arith}
use Rattle.std.proofs.lemmas.List.{length-map}
use Rattle.std.proofs.lemmas.Result.{IfOk-weaker}
use Rattle.u_terms.specs.Syntax.{U}
use Rattle.u_terms.specs.Places.{IsClosed}
use Rattle.u_rules.specs.Terms.{◌≐◌, neg, terms}
use Rattle.u_entail.proofs.copies.Copied.{again-facts, again-outs, again-stands, mark-closed, exchange-ready, negation-stands}
use Rattle.u_entail.proofs.following.Front.exchanged_again.Goals as goal

pub again-requires-clause-mark : goal.again-requires-clause-mark
again-requires-clause-mark c = negation-stands (terms c.args.self.now.factors.now) c.args.place (c.args.a.now ≐ c.args.b.now) c.requires.at

pub then_behind-requires-clause-facts : goal.then_behind-requires-clause-facts
then_behind-requires-clause-facts c =
    let m = c.args.self.now.moves in
    let stands = c.in_ok-again.ensures {u = tt} in
    again-facts m.facts.now m.outs (terms c.args.self.now.factors.now) c.args.a.now c.args.b.now c.in_ok-again.again c.in_ok-turned.turned (stands.each (neg (c.args.a.now ≐ c.args.b.now)) c.requires.at) (c.in_ok-turned.ensures {u = tt})

pub then_behind-requires-clause-outs : goal.then_behind-requires-clause-outs
then_behind-requires-clause-outs c =
    let m = c.args.self.now.moves in
    let stands = c.in_ok-again.ensures {u = tt} in
    again-outs m.facts.now m.outs (terms c.args.self.now.factors.now) c.args.a.now c.args.b.now c.in_ok-again.again c.in_ok-turned.turned (stands.each (neg (c.args.a.now ≐ c.args.b.now)) c.requires.at) (c.in_ok-turned.ensures {u = tt})

pub then_behind-requires-clause-few : goal.then_behind-requires-clause-few
then_behind-requires-clause-few c = let ready = c.requires.factors in omega (arith, ready.few, length-map c.args.self.now.factors.now (λ r. r.now))

pub then_behind-requires-clause-closed : goal.then_behind-requires-clause-closed
then_behind-requires-clause-closed c =
    let m = c.args.self.now.moves in
    let t = c.in_ok-turned.ensures {u = tt} in
    let l = t.leads in
    subst (λ (x : U). IsClosed 0 x) (sym l.from) (mark-closed m.outs (terms c.args.self.now.factors.now) c.requires.factors c.args.place c.args.a.now c.args.b.now c.requires.at)

pub then_behind-requires-clause-stands : goal.then_behind-requires-clause-stands
then_behind-requires-clause-stands c =
    let m = c.args.self.now.moves in
    let stands = c.in_ok-again.ensures {u = tt} in
    again-stands m.facts.now m.outs (terms c.args.self.now.factors.now) c.args.a.now c.args.b.now c.in_ok-again.again c.in_ok-turned.turned (stands.each (neg (c.args.a.now ≐ c.args.b.now)) c.requires.at) (c.in_ok-turned.ensures {u = tt})

pub returns : goal.returns
returns c =
    let m = c.args.self.now.moves in
    let stands = c.in_ok-again.ensures {u = tt} in
    IfOk-weaker c.then_behind.result _ _
    (λ d made. exchange-ready m.facts.now m.outs (terms c.args.self.now.factors.now) c.args.a.now c.args.b.now c.in_ok-again.again c.in_ok-turned.turned (stands.each (neg (c.args.a.now ≐ c.args.b.now)) c.requires.at)
    (c.in_ok-turned.ensures {u = tt}) d made)
    c.then_behind.ensures
