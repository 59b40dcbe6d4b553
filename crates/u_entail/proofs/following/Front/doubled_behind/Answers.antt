use Rattle.std.proofs.Common.{sym, ◌∙◌, subst, ap, arith}
use Rattle.std.proofs.lemmas.List.{length-map}
use Rattle.std.proofs.lemmas.Result.{IfOk-weaker}
use Rattle.u_terms.specs.Syntax.{U}
use Rattle.u_terms.specs.Places.{IsClosed}
use Rattle.u_rules.specs.Terms.{terms}
use Rattle.u_entail.specs.Spines.{spine}
use Rattle.u_entail.proofs.copies.Doubled.{doubled-behind, fewer, mark-known}
use Rattle.u_entail.proofs.following.Front.doubled_behind.Goals as goal

pub doubled-requires-clause-known : goal.doubled-requires-clause-known
doubled-requires-clause-known c =
    mark-known (terms c.args.self.now.factors.now) (terms c.args.others.now) c.args.place c.args.mark.now c.requires.parted c.args.self.now.moves.outs c.requires.factors

pub doubled-requires-clause-mark : goal.doubled-requires-clause-mark
doubled-requires-clause-mark c = let p = c.requires.parted in p.is

pub then_behind-requires-clause-facts : goal.then_behind-requires-clause-facts
then_behind-requires-clause-facts c =
    let l = c.in_ok-last.ensures {u = tt} in
    let t = c.in_ok-twice.ensures {u = tt} in
    let j = l.leads in
    let k = t.leads in
    j.facts ∙ sym k.facts

pub then_behind-requires-clause-outs : goal.then_behind-requires-clause-outs
then_behind-requires-clause-outs c =
    let l = c.in_ok-last.ensures {u = tt} in
    let t = c.in_ok-twice.ensures {u = tt} in
    let j = l.leads in
    let k = t.leads in
    j.outs ∙ sym k.outs

pub then_behind-requires-clause-few : goal.then_behind-requires-clause-few
then_behind-requires-clause-few c =
    let ready = c.requires.factors in
    let less = fewer (terms c.args.self.now.factors.now) (terms c.args.others.now) c.args.place c.args.mark.now c.requires.parted in
    omega (arith, ready.few, less, length-map c.args.others.now (λ r. r.now))

pub then_behind-requires-clause-closed : goal.then_behind-requires-clause-closed
then_behind-requires-clause-closed c =
    let t = c.in_ok-twice.ensures {u = tt} in
    let k = t.leads in
    let known = mark-known (terms c.args.self.now.factors.now) (terms c.args.others.now) c.args.place c.args.mark.now c.requires.parted c.args.self.now.moves.outs c.requires.factors in
    subst (IsClosed 0) (sym k.from) known.closed

pub then_behind-requires-clause-stands : goal.then_behind-requires-clause-stands
then_behind-requires-clause-stands c =
    let l = c.in_ok-last.ensures {u = tt} in
    let t = c.in_ok-twice.ensures {u = tt} in
    let j = l.leads in
    let k = t.leads in
    j.to ∙ ap (λ (x : U). spine (terms c.args.others.now) x) (sym k.from)

pub returns : goal.returns
returns c =
    let m = c.args.self.now.moves in
    IfOk-weaker c.then_behind.result _ _
    (λ d made. doubled-behind (terms c.args.self.now.factors.now) (terms c.args.others.now) c.args.place c.args.mark.now c.requires.parted m.facts.now m.outs c.in_ok-last.last c.in_ok-twice.twice d
    (c.in_ok-last.ensures {u = tt}) (c.in_ok-twice.ensures {u = tt}) made)
    c.then_behind.ensures
