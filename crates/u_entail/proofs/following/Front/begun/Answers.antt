use Rattle.std.proofs.Common.{◌≡◌, sym, ◌∙◌, subst, arith}
use Rattle.std.proofs.lemmas.List.{length-map}
use Rattle.std.proofs.lemmas.Result.{IfOk-weaker}
use Rattle.u_terms.specs.Syntax.{U}
use Rattle.u_terms.specs.Places.{IsClosed}
use Rattle.u_rules.specs.Terms.{terms}
use Rattle.u_entail.specs.Spines.{spine}
use Rattle.u_entail.proofs.products.Parts.{one-known}
use Rattle.u_entail.proofs.chains.Gained.{equality-begun}
use Rattle.u_entail.proofs.following.Front.begun.Goals as goal

pub then_behind-requires-clause-facts : goal.then_behind-requires-clause-facts
then_behind-requires-clause-facts c = let r = c.in_ok-itself.ensures {u = tt} in let l = r.leads in let e = c.requires.first in e.facts ∙ sym l.facts

pub then_behind-requires-clause-outs : goal.then_behind-requires-clause-outs
then_behind-requires-clause-outs c = let r = c.in_ok-itself.ensures {u = tt} in let l = r.leads in let e = c.requires.first in e.outs ∙ sym l.outs

pub then_behind-requires-clause-few : goal.then_behind-requires-clause-few
then_behind-requires-clause-few c = let ready = c.requires.factors in omega (arith, ready.few, length-map c.args.self.now.factors.now (λ r. r.now))

pub then_behind-requires-clause-closed : goal.then_behind-requires-clause-closed
then_behind-requires-clause-closed c =
    let r = c.in_ok-itself.ensures {u = tt} in
    let l = r.leads in
    let k = one-known c.args.self.now.moves.outs in
    subst (IsClosed 0) (sym l.from) k.closed

pub then_behind-requires-clause-stands : goal.then_behind-requires-clause-stands
then_behind-requires-clause-stands c =
    let r = c.in_ok-itself.ensures {u = tt} in
    let l = r.leads in
    let e = c.requires.first in
    subst (λ (t : U). c.args.first.to ≡ spine (terms c.args.self.now.factors.now) t) (sym l.from) e.to

pub returns : goal.returns
returns c =
    let m = c.args.self.now.moves in
    IfOk-weaker c.then_behind.result _ _
    (λ d made. equality-begun m.facts.now m.outs (terms c.args.self.now.factors.now) c.args.a.now c.args.first c.in_ok-itself.itself d c.requires.first (c.in_ok-itself.ensures {u = tt}) made)
    c.then_behind.ensures
