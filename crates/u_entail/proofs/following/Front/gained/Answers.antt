use Rattle.std.proofs.Common.{◌≡◌, sym, subst}
use Rattle.std.proofs.lemmas.Result.{IfOk-weaker}
use Rattle.u_terms.specs.Syntax.{U}
use Rattle.u_rules.specs.Terms.{◌≐◌, terms}
use Rattle.u_moves.specs.Derivations.{IsKnown}
use Rattle.u_entail.specs.Gaining.{EndsIn}
use Rattle.u_entail.specs.Hops.{Lead}
use Rattle.u_entail.specs.Spines.{spine}
use Rattle.u_entail.proofs.chains.Gained.{equality-gained}
use Rattle.u_entail.proofs.products.Parts.{eq-known}
use Rattle.u_entail.proofs.following.Front.gained.Goals as goal

pub led-requires-clause-begun : goal.led-requires-clause-begun
led-requires-clause-begun c =
    let m = c.args.self.now.moves in
    let factors = terms c.args.self.now.factors.now in
    let b = c.in_ok-begun.ensures {u = tt} in
    let is : c.in_ok-last.last ≡ (c.args.a.now ≐ c.args.a.now) = c.in_ok-last.ensures {u = tt} in
    subst (λ (x : U). EndsIn m.facts.now m.outs (spine factors x) c.in_ok-begun.begun) (sym is) b.ends

pub led-requires-clause-known : goal.led-requires-clause-known
led-requires-clause-known c =
    let outs = c.args.self.now.moves.outs in
    let is : c.in_ok-last.last ≡ (c.args.a.now ≐ c.args.a.now) = c.in_ok-last.ensures {u = tt} in
    subst (λ (x : U). IsKnown 0 outs x) (sym is) (eq-known outs c.args.a.now c.args.a.now c.requires.a c.requires.a)

pub led-requires-clause-lead : goal.led-requires-clause-lead
led-requires-clause-lead c =
    let is : c.in_ok-last.last ≡ (c.args.a.now ≐ c.args.a.now) = c.in_ok-last.ensures {u = tt} in
    subst (λ (x : U). Lead (terms c.args.self.now.factors.now) x c.args.hops.now) (sym is) c.requires.lead

pub returns : goal.returns
returns c =
    let m = c.args.self.now.moves in
    let is : c.in_ok-last.last ≡ (c.args.a.now ≐ c.args.a.now) = c.in_ok-last.ensures {u = tt} in
    IfOk-weaker c.led.result _ _
    (λ d l. equality-gained m.facts.now m.outs (terms c.args.self.now.factors.now) c.args.a.now c.args.hops.now c.args.first c.in_ok-begun.begun d c.in_ok-last.last is c.requires.first (c.in_ok-begun.ensures {u = tt}) l)
    c.led.ensures
