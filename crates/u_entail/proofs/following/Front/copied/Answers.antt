use Rattle.std.proofs.Common.{◌≡◌, sym, ◌∙◌, subst, arith}
use Rattle.std.proofs.lemmas.Result.{IfOk-weaker}
use Rattle.u_terms.specs.Syntax.{U}
use Rattle.u_rules.specs.Terms.{terms}
use Rattle.u_moves.specs.Derivations.{IsKnown}
use Rattle.u_entail.specs.Gaining.{EndsIn, IsLed}
use Rattle.u_entail.specs.Hops.{Lead}
use Rattle.u_entail.specs.Spines.{spine}
use Rattle.u_entail.proofs.copies.Copied.{copied-by, ends-between, mark-here}
use Rattle.u_entail.proofs.following.Front.copied.Goals as goal

pub again-requires-clause-mark : goal.again-requires-clause-mark
again-requires-clause-mark c = record { mark = c.args.mark.now; at = c.requires.at; is = c.requires.is }

pub led-requires-clause-begun : goal.led-requires-clause-begun
led-requires-clause-begun c =
    let m = c.args.self.now.moves in
    let factors = terms c.args.self.now.factors.now in
    let is : c.in_ok-last.last ≡ c.args.mark.now = c.in_ok-last.ensures {u = tt} ∙ c.in_ok-copy.ensures {u = tt} in
    let stands = c.in_ok-again.ensures {u = tt} in
    let h = stands.each c.args.mark.now c.requires.at in
    subst (λ (x : U). EndsIn m.facts.now m.outs (spine factors x) c.in_ok-again.again) (sym is) (ends-between m.facts.now m.outs factors c.args.mark.now c.in_ok-again.again h.leads)

pub led-requires-clause-known : goal.led-requires-clause-known
led-requires-clause-known c =
    let outs = c.args.self.now.moves.outs in
    let is : c.in_ok-last.last ≡ c.args.mark.now = c.in_ok-last.ensures {u = tt} ∙ c.in_ok-copy.ensures {u = tt} in
    subst (λ (x : U). IsKnown 0 outs x) (sym is) (mark-here outs (terms c.args.self.now.factors.now) c.requires.factors c.args.place c.args.mark.now c.requires.at)

pub led-requires-clause-lead : goal.led-requires-clause-lead
led-requires-clause-lead c =
    let is : c.in_ok-last.last ≡ c.args.mark.now = c.in_ok-last.ensures {u = tt} ∙ c.in_ok-copy.ensures {u = tt} in
    subst (λ (x : U). Lead (terms c.args.self.now.factors.now) x c.args.hops.now) (sym is) c.requires.lead

pub returns : goal.returns
returns c =
    let m = c.args.self.now.moves in
    let factors = terms c.args.self.now.factors.now in
    let is : c.in_ok-last.last ≡ c.args.mark.now = c.in_ok-last.ensures {u = tt} ∙ c.in_ok-copy.ensures {u = tt} in
    let stands = c.in_ok-again.ensures {u = tt} in
    let h = stands.each c.args.mark.now c.requires.at in
    IfOk-weaker c.led.result _ _
    (λ d l. copied-by m.facts.now m.outs factors c.args.mark.now c.args.hops.now 4 c.in_ok-again.again d h.leads (omega (arith, h.steps)) h.lean (subst (λ (x : U). IsLed m.facts.now m.outs factors x c.args.hops.now c.in_ok-again.again d) is l))
    c.led.ensures
