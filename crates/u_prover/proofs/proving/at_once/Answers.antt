use Rattle.std.proofs.Common.{◌≡◌, true, false, sym, subst, ◌∙◌}
use Rattle.std.specs.Prelude.{IfSome, MatchOption, Option}
use Rattle.u_moves.specs.Derivations.{Derivation, IsStill}
use Rattle.u_congruence.specs.Congruence.{IsFromTo}
use Rattle.u_prover.specs.Proving.{IsKept, IsPassing}
use Rattle.u_prover.proofs.Fitting.{still-passes}
use Rattle.u_prover.proofs.Outcomes.{at-once}
use Rattle.u_prover.proofs.proving.at_once.Goals as goal

pub returns-then-same : goal.returns-then-same
returns-then-same c =
    let m = c.args.moves in
    let d = c.in_ok-unmoved.field-0 in
    let still : IsStill m.facts.now m.outs c.args.left.now d = c.in_ok-unmoved.ensures {u = tt} in
    at-once m.facts.now m.outs c.args.left.now c.args.right.now d c.kept.result
    (subst (λ (x : Derivation). MatchOption c.kept.result (IsPassing x) (IsKept x)) c.into_inner.ensures c.kept.ensures)
    (record { facts = still.facts; outs = still.outs; from = still.from; to = still.to ∙ c.same.ensures.0 c.if-same.true })
    (λ passing same. still-passes m.facts.now m.outs c.args.left.now d still passing)

pub returns-in-Some : goal.returns-in-Some
returns-in-Some c =
    let m = c.args.moves in
    let leads : IsFromTo m.facts.now m.outs c.args.left.now c.args.right.now c.in-Some.turn =
    subst (λ (o : Option Derivation). IfSome o (IsFromTo m.facts.now m.outs c.args.left.now c.args.right.now)) c.in-Some.is (c.in_ok-turn.ensures {u = tt}) in
    at-once m.facts.now m.outs c.args.left.now c.args.right.now c.in-Some.turn c.kept-in-Some.result
    (subst (λ (d : Derivation). MatchOption c.kept-in-Some.result (IsPassing d) (IsKept d)) c.into_inner-in-Some.ensures c.kept-in-Some.ensures) leads
    (λ passing same. let e : false ≡ true = sym c.if-same.false ∙ c.same.ensures.1 same in absurd (cc))
