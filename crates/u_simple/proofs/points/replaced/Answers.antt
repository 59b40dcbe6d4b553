use Rattle.std.proofs.Common.{◌≡◌, ◌+◌, ap, ◌∙◌}
use Rattle.u_terms.specs.Binding.{closed_at, opened}
use Rattle.u_terms.specs.Syntax.{U}
use Rattle.u_rules.specs.Terms.{S}
use Rattle.u_moves.proofs.derivations.Whole.{if-ok}
use Rattle.u_normal.proofs.terms.KnownParts.{known-opened, rest-known, body-again}
use Rattle.u_simple.specs.Passes.{IsFrom}
use Rattle.u_simple.proofs.Known.{known-point, closed-point}
use Rattle.u_simple.proofs.points.replaced.Goals as goal

pub then_put-requires-clause-value : goal.then_put-requires-clause-value
then_put-requires-clause-value c =
    known-point c.args.moves.outs (opened c.args.f.now c.args.moves.outs) c.args.point.now c.requires.point (known-opened c.args.moves.outs c.args.f.now c.requires.known)

pub then_put-requires-clause-rest : goal.then_put-requires-clause-rest
then_put-requires-clause-rest c =
    rest-known (c.args.moves.outs + 1) c.requires.point.takes (known-opened c.args.moves.outs c.args.f.now c.requires.known)

pub then_put-requires-clause-to : goal.then_put-requires-clause-to
then_put-requires-clause-to c =
    let front = c.in_ok-front.ensures {u = tt} in
    let sum = c.in_ok-sum.ensures.ends in
    sum.to ∙ ap (λ (u : U). S (closed_at u c.args.moves.outs)) front.to
    ∙ ap (λ (u : U). S u) (closed-point c.args.moves.outs c.args.point.now.value c.args.point.now.rest c.requires.point.apart)

pub returns : goal.returns
returns c =
    let front = c.in_ok-front.ensures {u = tt} in
    let sum = c.in_ok-sum.ensures.ends in
    let whole : c.in_ok-sum.sum.from ≡ S c.args.f.now =
    sum.from ∙ ap (λ (u : U). S (closed_at u c.args.moves.outs)) front.from ∙ ap (λ (u : U). S u) (body-again c.args.moves.outs c.args.f.now c.requires.known) in
    if-ok (IsFrom c.args.moves.facts.now c.args.moves.outs c.in_ok-sum.sum.from) (IsFrom c.args.moves.facts.now c.args.moves.outs (S c.args.f.now))
    (λ d h. record { facts = h.facts; outs = h.outs; from = h.from ∙ whole }) c.then_put.result c.then_put.ensures
