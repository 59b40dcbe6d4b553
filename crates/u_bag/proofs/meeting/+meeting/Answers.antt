use Rattle.std.proofs.Common.{rules, ◌≡◌, ℕ, ◌+◌, ◌-◌, ◌∷◌, length, take, drop, ap, sym, subst, ◌∙◌, arith}
use Rattle.u_terms.specs.Syntax.{U}
use Rattle.u_terms.specs.Binding.{closed_at, opened}
use Rattle.u_rules.specs.Terms.{S}
use Rattle.u_moves.specs.Derivations.{Derivation, IsKnown, IsSound}
use Rattle.u_congruence.specs.Congruence.{IsFromTo}
use Rattle.u_normal.proofs.terms.KnownParts.{known-body, known-opened, body-again, to-known}
use Rattle.std.proofs.lemmas.Result.{IfOk-weaker}
use Rattle.u_bag.specs.Rows.{AreMet}
use Rattle.u_bag.specs.Meeting.{GoesOutward, IsMeeting, IsMeetingAfter, IsMeetingInside, IsOutward}
use Rattle.u_bag.proofs.pairing.Meets.{others-few, no-sums-left, by-end, by-still, by-outward, by-none}
use Rattle.std.specs.Prelude.{IfSome}
use Rattle.u_bag.specs.Costs.{KeepsMeetingCosts, KeepsMeetingCostsAfter, KeepsProductCosts, OutwardCosts}
use Rattle.u_bag.proofs.costs.GainedCosts.{if-some}
use Rattle.u_bag.proofs.costs.TurnedCosts.{at-end, first-turn, no-turn-costs, others-long, then-costs, turn-costs, under-costs}
use Rattle.u_bag.proofs.meeting.+meeting.Goals as goal
use Rattle.u_bag.proofs.meeting.+meeting.Goals.{meeting-in_default-via-in-Sum+in_default, meeting-in_default-via-in_default}

pub meeting-turned-requires : goal.meeting-turned-requires
meeting-turned-requires t c =
    let outs = c.args.moves.outs in (
      search rules,
      (
        subst (λ (u : U). IsKnown 1 outs u) (sym c.get.ensures) (known-body outs c.in-Sum-Sum.f (subst (λ (u : U). IsKnown 0 outs u) c.in-Sum-Sum.is-0 c.requires.left)),
        (
          subst (λ (u : U). IsKnown 1 outs u) (sym c.get-in-Sum-Sum.ensures) (known-body outs c.in-Sum-Sum.g (subst (λ (u : U). IsKnown 0 outs u) c.in-Sum-Sum.is-1 c.requires.right)),
          others-few c.args.turns.now (omega (arith, c.in-len1-up.len_at_least)) c.requires.few,
        ),
      ),
    )

pub then_under_sum-under_sum-requires : goal.then_under_sum-under_sum-requires
then_under_sum-under_sum-requires t c =
    let outs = c.args.moves.outs in
    let known : IsKnown 0 outs c.args.first.to = to-known c.args.moves.facts.now outs c.args.first c.requires.first (subst (λ (d : Derivation). IsSound d) c.get.ensures c.to.ensures.sound) in
    let is : c.args.first.to ≡ S c.in-Sum.f = sym (c.to.ensures.lent ∙ ap (λ (d : Derivation). d.to) c.get.ensures) ∙ c.in-Sum.is in (
      omega (arith, c.decreases),
      (subst (λ (u : U). IsKnown 1 outs u) (sym c.get-in-Sum.ensures) (known-body outs c.in-Sum.f (subst (λ (u : U). IsKnown 0 outs u) is known)), (c.requires.g, c.requires.few)),
    )

pub under_sum-meeting-requires : goal.under_sum-meeting-requires
under_sum-meeting-requires t c =
    let e : c.get.result.now ≡ opened c.args.f.now c.args.moves.outs = c.get.ensures ∙ c.in_ok-left.ensures {u = tt} ∙ c.in_ok-opened.ensures {u = tt} in
    let k : c.get-2.result.now ≡ opened c.args.g.now c.args.moves.outs = c.get-2.ensures ∙ c.in_ok-right.ensures {u = tt} ∙ c.in_ok-opened-2.ensures {u = tt} in
    let n : c.in_ok-inner.inner.outs ≡ c.args.moves.outs + 1 = c.in_ok-inner.ensures.outs in (
      omega (arith, c.decreases),
      (
        subst (λ (m : ℕ). IsKnown 0 m c.get.result.now) (sym n)
            (subst (λ (u : U). IsKnown 0 (c.args.moves.outs + 1) u) (sym e) (known-opened c.args.moves.outs c.args.f.now c.requires.f)),
        (
          subst (λ (m : ℕ). IsKnown 0 m c.get-2.result.now) (sym n)
              (subst (λ (u : U). IsKnown 0 (c.args.moves.outs + 1) u) (sym k) (known-opened c.args.moves.outs c.args.g.now c.requires.g)),
          omega (arith, c.requires.few),
        ),
      ),
    )

pub under_sum-returns-in-Some-clause-leads : goal.under_sum-returns-in-Some-clause-leads
under_sum-returns-in-Some-clause-leads t c =
    let outs = c.args.moves.outs in
    let e : c.get.result.now ≡ opened c.args.f.now outs = c.get.ensures ∙ c.in_ok-left.ensures {u = tt} ∙ c.in_ok-opened.ensures {u = tt} in
    let k : c.get-2.result.now ≡ opened c.args.g.now outs = c.get-2.ensures ∙ c.in_ok-right.ensures {u = tt} ∙ c.in_ok-opened-2.ensures {u = tt} in
    let part : IsFromTo c.in_ok-inner.inner.facts.now c.in_ok-inner.inner.outs c.get.result.now c.get-2.result.now c.in-Some.part =
    subst (λ o. IsMeeting c.in_ok-inner.inner.facts.now c.in_ok-inner.inner.outs c.args.turns.now c.get.result.now c.get-2.result.now o) c.in-Some.is c.in_ok-part.ensures.leads in
    let sum = c.in_ok-summed-in-Some.ensures.ends in
    record {
      facts = sum.facts;
      outs = sum.outs;
      from = sum.from ∙ ap (λ (u : U). S (closed_at u outs)) (part.from ∙ e) ∙ ap (λ (u : U). S u) (body-again outs c.args.f.now c.requires.f);
      to = sum.to ∙ ap (λ (u : U). S (closed_at u outs)) (part.to ∙ k) ∙ ap (λ (u : U). S u) (body-again outs c.args.g.now c.requires.g);
    }

pub meeting-returns-in-empty-clause-leads : goal.meeting-returns-in-empty-clause-leads
meeting-returns-in-empty-clause-leads t c =
    let F = c.args.moves.facts.now in
    let names = c.args.moves.outs in
    IfOk-weaker c.products_meet.result (AreMet F names c.args.left.now c.args.right.now) (IsMeeting F names c.args.turns.now c.args.left.now c.args.right.now)
    (by-end F names c.args.turns.now c.args.left.now c.args.right.now c.in-empty.len_below) c.products_meet.ensures.leads

pub meeting-returns-in_default-clause-leads : goal.meeting-returns-in_default-clause-leads
meeting-returns-in_default-clause-leads t c =
    no-sums-left c.args.turns.now c.args.left.now c.args.right.now (omega (arith, c.in-len1-up.len_at_least))
    (λ f g l r. elim c.in_default.branch [
      | meeting-in_default-via-in-Sum+in_default w ↦ w.in_default.not-Sum-1 g r
      | meeting-in_default-via-in_default w ↦ w.in_default.not-Sum-0 f l
    ])

pub turned-returns-then-turn-eq0-clause-leads : goal.turned-returns-then-turn-eq0-clause-leads
turned-returns-then-turn-eq0-clause-leads t c =
    let F = c.args.moves.facts.now in
    let names = c.args.moves.outs in
    let f = c.args.f.now in
    let g = c.args.g.now in
    IfOk-weaker c.under_sum.result (IsMeetingInside F names c.args.turns.now f g) (IsMeeting F names (c.args.turn ∷ c.args.turns.now) (S f) (S g))
    (by-still F names c.args.turns.now f g c.args.turn c.if-turn-eq0.true) c.under_sum.ensures.leads

pub turned-returns-in-Some-clause-leads : goal.turned-returns-in-Some-clause-leads
turned-returns-in-Some-clause-leads t c =
    let F = c.args.moves.facts.now in
    let names = c.args.moves.outs in
    let f = c.args.f.now in
    let g = c.args.g.now in
    let first = c.in-Some.first in
    let out : GoesOutward F names c.args.turn f first = subst (λ o. IsOutward F names c.args.turn f o) c.in-Some.is c.in_ok-first.ensures.leads in
    IfOk-weaker c.then_under_sum.result (IsMeetingAfter F names c.args.turns.now first g) (IsMeeting F names (c.args.turn ∷ c.args.turns.now) (S f) (S g))
    (by-outward F names c.args.turns.now f g c.args.turn first out) c.then_under_sum.ensures.leads

pub turned-returns-in-None-clause-leads : goal.turned-returns-in-None-clause-leads
turned-returns-in-None-clause-leads t c =
    let F = c.args.moves.facts.now in
    let names = c.args.moves.outs in
    by-none F names c.args.turns.now c.args.f.now c.args.g.now c.args.turn (subst (λ o. IsOutward F names c.args.turn c.args.f.now o) c.in-None.is c.in_ok-first.ensures.leads)

-- ---- what it costs
pub meeting-returns-in-empty-clause-costs : goal.meeting-returns-in-empty-clause-costs
meeting-returns-in-empty-clause-costs t c =
    let left = c.args.left.now in
    let right = c.args.right.now in
    let turns = c.args.turns.now in
    IfOk-weaker c.products_meet.result (λ o. IfSome o (KeepsProductCosts left right)) (λ o. IfSome o (KeepsMeetingCosts (length turns) (length turns) left right))
    (if-some (KeepsProductCosts left right) (KeepsMeetingCosts (length turns) (length turns) left right) (λ d h. at-end turns left right d c.in-empty.len_below h)) c.products_meet.ensures.costs

pub meeting-returns-in-Sum-Sum-clause-costs : goal.meeting-returns-in-Sum-Sum-clause-costs
meeting-returns-in-Sum-Sum-clause-costs t c =
    let left = c.args.left.now in
    let right = c.args.right.now in
    let turns = c.args.turns.now in
    let rest = take (length turns - 1) (drop 1 turns) in
    let f = c.get.result.now in
    let g = c.get-in-Sum-Sum.result.now in
    let is_left : S f ≡ left = ap (λ (x : U). S x) c.get.ensures ∙ sym c.in-Sum-Sum.is-0 in
    let is_right : S g ≡ right = ap (λ (x : U). S x) c.get-in-Sum-Sum.ensures ∙ sym c.in-Sum-Sum.is-1 in
    IfOk-weaker c.turned.result (λ o. IfSome o (KeepsMeetingCosts (length rest + 1) (length rest + 1) (S f) (S g))) (λ o. IfSome o (KeepsMeetingCosts (length turns) (length turns) left right))
    (first-turn (length rest) (length turns) (S f) (S g) left right (others-long turns (omega (arith, c.in-len1-up.len_at_least))) is_left is_right) c.turned.ensures.costs

pub turned-returns-then-turn-eq0-clause-costs : goal.turned-returns-then-turn-eq0-clause-costs
turned-returns-then-turn-eq0-clause-costs t c =
    let n = length c.args.turns.now in
    let f = c.args.f.now in
    let g = c.args.g.now in
    IfOk-weaker c.under_sum.result (λ o. IfSome o (KeepsMeetingCosts (n + 1) n (S f) (S g))) (λ o. IfSome o (KeepsMeetingCosts (n + 1) (n + 1) (S f) (S g)))
    (if-some (KeepsMeetingCosts (n + 1) n (S f) (S g)) (KeepsMeetingCosts (n + 1) (n + 1) (S f) (S g)) (no-turn-costs n (S f) (S g))) c.under_sum.ensures.costs

pub turned-returns-in-Some-clause-costs : goal.turned-returns-in-Some-clause-costs
turned-returns-in-Some-clause-costs t c =
    let n = length c.args.turns.now in
    let f = c.args.f.now in
    let g = c.args.g.now in
    let first = c.in-Some.first in
    let out : OutwardCosts f c.in-Some.first = subst (λ o. IfSome o (OutwardCosts c.args.f.now)) c.in-Some.is c.in_ok-first.ensures.costs in
    IfOk-weaker c.then_under_sum.result (λ o. IfSome o (KeepsMeetingCostsAfter first (n + 1) n (S g))) (λ o. IfSome o (KeepsMeetingCosts (n + 1) (n + 1) (S f) (S g)))
    (if-some (KeepsMeetingCostsAfter first (n + 1) n (S g)) (KeepsMeetingCosts (n + 1) (n + 1) (S f) (S g)) (λ d h. turn-costs n f g first d out h)) c.then_under_sum.ensures.costs

pub then_under_sum-returns-in-Some-clause-costs : goal.then_under_sum-returns-in-Some-clause-costs
then_under_sum-returns-in-Some-clause-costs t c =
    let n = length c.args.turns.now in
    let f = c.get-in-Sum.result.now in
    let g = c.args.g.now in
    let to : c.args.first.to ≡ S c.get-in-Sum.result.now = sym (c.to.ensures.lent ∙ ap (λ (d : Derivation). d.to) c.get.ensures) ∙ c.in-Sum.is ∙ ap (λ (x : U). S x) (sym c.get-in-Sum.ensures) in
    then-costs n f g c.args.first c.in-Some.rest c.in_ok-joined-in-Some.field-0 to (subst (λ (d : Derivation). IsSound d) c.get.ensures c.to.ensures.sound) c.in_ok-joined-in-Some.ensures.costs
    (subst (λ o. IfSome o (KeepsMeetingCosts (n + 1) n (S f) (S g))) c.in-Some.is c.in_ok-rest-in-Sum.ensures.costs)

pub under_sum-returns-in-Some-clause-costs : goal.under_sum-returns-in-Some-clause-costs
under_sum-returns-in-Some-clause-costs t c =
    let outs = c.args.moves.outs in
    let n = length c.args.turns.now in
    let e : c.get.result.now ≡ opened c.args.f.now outs = c.get.ensures ∙ c.in_ok-left.ensures {u = tt} ∙ c.in_ok-opened.ensures {u = tt} in
    let k : c.get-2.result.now ≡ opened c.args.g.now outs = c.get-2.ensures ∙ c.in_ok-right.ensures {u = tt} ∙ c.in_ok-opened-2.ensures {u = tt} in
    under-costs n c.args.f.now c.args.g.now outs c.get.result.now c.get-2.result.now c.in-Some.part c.in_ok-summed-in-Some.field-0 e k
    (subst (λ o. IfSome o (KeepsMeetingCosts n n c.get.result.now c.get-2.result.now)) c.in-Some.is c.in_ok-part.ensures.costs) c.in_ok-summed-in-Some.ensures.costs
