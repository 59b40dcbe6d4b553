use Rattle.std.proofs.Common.{ap, sym, ◌∙◌, subst}
use Rattle.std.proofs.lemmas.Result.{IfOk-weaker}
use Rattle.u_terms.specs.Syntax.{U}
use Rattle.u_terms.specs.Places.{IsClosed}
use Rattle.u_rules.specs.Terms.{◌⊗◌}
use Rattle.u_entail.proofs.copies.Doubled.{doubled, squash-closed}
use Rattle.u_entail.proofs.marks.doubled.Goals as goal

pub then_behind-requires-clause-facts : goal.then_behind-requires-clause-facts
then_behind-requires-clause-facts c =
    let s = c.in_ok-squared.ensures {u = tt} in
    let p = c.in_ok-plain.ensures {u = tt} in
    let k = s.leads in
    let l = p.leads in
    k.facts ∙ sym l.facts

pub then_behind-requires-clause-outs : goal.then_behind-requires-clause-outs
then_behind-requires-clause-outs c =
    let s = c.in_ok-squared.ensures {u = tt} in
    let p = c.in_ok-plain.ensures {u = tt} in
    let k = s.leads in
    let l = p.leads in
    k.outs ∙ sym l.outs

pub then_behind-requires-clause-closed : goal.then_behind-requires-clause-closed
then_behind-requires-clause-closed c =
    let p = c.in_ok-plain.ensures {u = tt} in
    let l = p.leads in
    let k = c.requires.known in
    subst (IsClosed 0) (sym l.from) (squash-closed c.args.mark.now k.closed)

pub then_behind-requires-clause-stands : goal.then_behind-requires-clause-stands
then_behind-requires-clause-stands c =
    let s = c.in_ok-squared.ensures {u = tt} in
    let p = c.in_ok-plain.ensures {u = tt} in
    let k = s.leads in
    let l = p.leads in
    k.to ∙ ap (λ (x : U). c.args.mark.now ⊗ x) (sym l.from)

pub returns : goal.returns
returns c =
    let m = c.args.moves in
    IfOk-weaker c.then_behind.result _ _
    (λ d made. doubled m.facts.now m.outs c.args.mark.now c.in_ok-squared.squared c.in_ok-plain.plain d (c.in_ok-squared.ensures {u = tt}) (c.in_ok-plain.ensures {u = tt}) made)
    c.then_behind.ensures
