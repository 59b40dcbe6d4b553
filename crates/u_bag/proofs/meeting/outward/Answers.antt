use Rattle.std.proofs.Common.{◌≡◌, ℕ, ◌+◌, sym, subst, arith}
use Rattle.u_terms.specs.Syntax.{U}
use Rattle.u_moves.specs.Derivations.{IsKnown}
use Rattle.u_simple.proofs.Known.{known-inside}
use Rattle.u_bag.proofs.costs.TurnedCosts.{outward-costs}
use Rattle.u_bag.proofs.meeting.outward.Goals as goal

pub sum_swap-requires-clause-f : goal.sum_swap-requires-clause-f
sum_swap-requires-clause-f c =
    let outs = c.args.moves.outs in
    let n : 1 + c.args.turn ≡ c.args.turn + 1 = omega arith in
    subst (λ (u : U). IsKnown (c.args.turn + 1) outs u) (sym (c.in_ok-copy-in-Some.ensures {u = tt}))
    (subst (λ (m : ℕ). IsKnown m outs c.in-Some.body.now) n
    (known-inside outs 1 c.args.turn c.in-Some.body.now (subst (λ (u : U). IsKnown 1 outs u) c.in-Some.ensures c.requires.f)))

pub returns-in_ok-new-in-Some-clause-costs : goal.returns-in_ok-new-in-Some-clause-costs
returns-in_ok-new-in-Some-clause-costs c =
    outward-costs c.args.moves _ c.args.turn c.args.f.now c.in-Some.body.now c.in_ok-copy-in-Some.field-0 c.in_ok-step-in-Some.step c.in_ok-new-in-Some.field-0 (c.in_ok-new-in-Some.ensures {u = tt})
    (c.in_ok-copy-in-Some.ensures {u = tt}) c.in-Some.ensures (c.in_ok-step-in-Some.ensures {u = tt})
