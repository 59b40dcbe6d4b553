use Rattle.std.proofs.Common.{List, ap, length, sym, subst, arith}
use Rattle.std.specs.Prelude.{IfSome}
use Rattle.std.proofs.lemmas.Option.{MatchOption-at_none, MatchOption-at_some}
use Rattle.u_congruence.specs.Congruence.{IsFromTo}
use Rattle.u_bag.specs.Costs.{KeepsMeetingCosts}
use Rattle.u_bag.specs.Meeting.{Turn}
use Rattle.u_bag.specs.Order.{IsTurn}
use Rattle.u_bag.specs.Shapes.{HasTooManySums}
use Rattle.u_bag.proofs.pairing.Meets.{by-turn}
use Rattle.u_bag.proofs.costs.TurnedCosts.{pairing-costs}
use Rattle.u_bag.proofs.blocks.paired.Goals as goal

pub meeting-requires-clause-few : goal.meeting-requires-clause-few
meeting-requires-clause-few c =
    let is = MatchOption-at_some (HasTooManySums c.args.left.now) (λ turns. IsTurn turns.items c.args.left.now c.args.right.now) c.in-Some.turns c.in-Some.is (c.in_ok-turns.ensures {u = tt}) in
    let few = is.few in
    omega (arith, few, ap length c.as_slice.ensures.value)

pub returns-in_default-2-clause-leads : goal.returns-in_default-2-clause-leads
returns-in_default-2-clause-leads c =
    let F = c.args.moves.facts.now in
    let names = c.args.moves.outs in
    let left = c.args.left.now in
    let right = c.args.right.now in
    let is = MatchOption-at_some (HasTooManySums c.args.left.now) (λ turns. IsTurn turns.items c.args.left.now c.args.right.now) c.in-Some.turns c.in-Some.is (c.in_ok-turns.ensures {u = tt}) in
    let turn : Turn c.as_slice.result.now c.args.left.now c.args.right.now = subst (λ (turns : List _). Turn turns c.args.left.now c.args.right.now) (sym c.as_slice.ensures.value) is.turn in
    MatchOption-at_none (HasTooManySums left) (IsFromTo F names left right) c.in_default-2.is
    (by-turn F names c.as_slice.result.now left right turn c.in_ok-deriv.field-0 c.in_ok-deriv.ensures.leads)

pub returns-clause-costs : goal.returns-clause-costs
returns-clause-costs c =
    let turns = c.as_slice.result.now in
    let left = c.args.left.now in
    let right = c.args.right.now in
    let is = MatchOption-at_some (HasTooManySums c.args.left.now) (λ turns. IsTurn turns.items c.args.left.now c.args.right.now) c.in-Some.turns c.in-Some.is (c.in_ok-turns.ensures {u = tt}) in
    let turn : Turn c.as_slice.result.now c.args.left.now c.args.right.now = subst (λ (turns : List _). Turn turns c.args.left.now c.args.right.now) (sym c.as_slice.ensures.value) is.turn in
    pairing-costs c.args.moves.outs turns left right c.in-Some-2.deriv c.start_of.ensures.sound turn
    (subst (λ o. IfSome o (KeepsMeetingCosts (length turns) (length turns) left right)) c.in-Some-2.is c.in_ok-deriv.ensures.costs)

pub returns-in_default-clause-leads : goal.returns-in_default-clause-leads
returns-in_default-clause-leads c = MatchOption-at_none (HasTooManySums c.args.left.now) (λ turns. IsTurn turns.items c.args.left.now c.args.right.now) c.in_default.is (c.in_ok-turns.ensures {u = tt})
