use Rattle.std.proofs.Common.{◌≡◌, ℕ, ◌+◌, List, [], ◌∷◌, ◌++◌, true, false, ap, sym, refl, subst, ◌∙◌, arith}
use Rattle.std.specs.Prelude.{IfOk}
use Rattle.u_terms.specs.Syntax.{U, Val}
use Rattle.u_terms.specs.Places.{IsClosed}
use Rattle.u_terms.specs.Binding.{closed_at, opened}
use Rattle.u_rules.specs.Terms.{◌⊗◌, ◌⊕◌, O, S, sq, neg}
use Rattle.u_moves.specs.Derivations.{Derivation, IsKnown, IsSound}
use Rattle.u_moves.proofs.derivations.Whole.{if-ok}
use Rattle.u_congruence.specs.Congruence.{IsFromTo, IsBy}
use Rattle.u_normal.specs.Taking.{load}
use Rattle.u_normal.specs.Leading.{Leads}
use Rattle.u_normal.specs.Rooms.{InRoom, BecomesInRoom}
use Rattle.normal_form.specs.Kinds.{is_truth}
use Rattle.u_normal.specs.Summing.{IsBlockSum}
use Rattle.u_normal.specs.Values.{Stands, HasOtherBody, IsNormalAt, AreNormalAt, AreNormalUpTo, LeadsOn}
use Rattle.u_normal.specs.Heads.{IsFactorRow, HasHead, head_load}
use Rattle.u_normal.specs.Finishing.{IsFactorOrOne, IsFinished, IsFinishedPlain, IsPlainFactor, factor}
use Rattle.normal_form.specs.NormalTerms.{IsNormal}
use Rattle.u_normal.proofs.terms.KnownParts.{known-left, known-right, known-body, known-opened, known-factor_left, known-factor_right, known-squashed, known-negated, body-again, again-at, to-known}
use Rattle.u_normal.proofs.derivations.Led.{leads-to, leads-same}
use Rattle.u_normal.proofs.derivations.InRooms.{within, squash-within, not-within, mul-within, add-within, sum-within, led-in, not-over}
use Rattle.u_normal.proofs.derivations.Standing.{bound-normal, free-normal, literal-normal, stands-function, stands-aggregate}
use Rattle.u_normal.proofs.derivations.ValuesLed.{same-relation, same-predicate, same-function, same-aggregate, ahead-at, item-lighter, known-relation, known-predicate, known-equal_left, known-equal_right, known-function, known-aggregate, known-at, relation-lighter, predicate-lighter, left-lighter, right-lighter, function-lighter, aggregate-lighter, by-on, led-still, led-stands, led-next, led-function, led-aggregate, by-still, stands-relation, stands-predicate, stands-left, stands-right, leads-still, leads-relation, leads-predicate, leads-equality}
use Rattle.u_normal.proofs.products.Loads.{load-opened}
use Rattle.u_normal.proofs.products.Finishes.{sum-lighter, body-lighter, squash-lighter, not-lighter, head_sum-lighter, head_body-lighter, rest-lighter, first-lighter, row-load, row-first, row-rest, row-last, tidy-at, finished-squash, finished-not, finished-Mul, finished-bare_not, plain-lighter, plain-one, truth-negated_at, truth-plain}
use Rattle.u_normal.proofs.products.Blocks.{zero-blocks, added-blocks}
use Rattle.u_normal.proofs.whole.+normal.Goals as goal

-- ---- normal_within
pub normal_within-block_sum-requires : goal.normal_within-block_sum-requires
normal_within-block_sum-requires t c = (omega (arith, c.decreases), c.requires)

pub normal_within-returns : goal.normal_within-returns
normal_within-returns t c =
    subst (λ (u : U). IfOk c.gathered.result (Leads (InRoom c.args.room IsNormal) c.args.moves.facts.now c.args.moves.outs u)) (c.in_ok-sum.ensures {u = tt}).from c.gathered.ensures

-- ---- block_sum
pub block_sum-sum_of_parts-requires : goal.block_sum-sum_of_parts-requires
block_sum-sum_of_parts-requires t c =
    let known = subst (λ (u : U). IsKnown 0 c.args.moves.outs u) c.in-Add.is c.requires in (
      omega (arith, c.decreases, sum-lighter c.args.u.now c.in-Add.a c.in-Add.b c.in-Add.is, ap load c.get.ensures, ap load c.get-in-Add.ensures),
      (
        subst (λ (u : U). IsKnown 0 c.args.moves.outs u) (sym c.get.ensures) (known-left c.args.moves.outs 0 c.in-Add.a c.in-Add.b known),
        subst (λ (u : U). IsKnown 0 c.args.moves.outs u) (sym c.get-in-Add.ensures) (known-right c.args.moves.outs 0 c.in-Add.a c.in-Add.b known),
      ),
    )

pub block_sum-sum_of_body-requires : goal.block_sum-sum_of_body-requires
block_sum-sum_of_body-requires t c = (
  omega (arith, c.decreases, body-lighter c.args.u.now c.in-Sum.f c.in-Sum.is, ap load c.get-in-Sum.ensures),
  subst (λ (u : U). IsKnown 1 c.args.moves.outs u) (sym c.get-in-Sum.ensures) (known-body c.args.moves.outs c.in-Sum.f (subst (λ (u : U). IsKnown 0 c.args.moves.outs u) c.in-Sum.is c.requires)),
)

pub block_sum-returns-in_ok-copied-in-Zero : goal.block_sum-returns-in_ok-copied-in-Zero
block_sum-returns-in_ok-copied-in-Zero t c =
    let e : c.in_ok-copied-in-Zero.field-0 ≡ c.args.u.now = c.in_ok-copied-in-Zero.ensures {u = tt} in
    if-ok (IsFromTo c.args.moves.facts.now c.args.moves.outs c.in_ok-copied-in-Zero.field-0 c.in_ok-copied-in-Zero.field-0)
    (Leads (InRoom c.args.room IsBlockSum) c.args.moves.facts.now c.args.moves.outs c.args.u.now)
    (leads-to (InRoom c.args.room IsBlockSum) c.args.moves.facts.now c.args.moves.facts.now c.args.moves.outs c.args.moves.outs c.args.u.now c.in_ok-copied-in-Zero.field-0 c.in_ok-copied-in-Zero.field-0
    refl refl e (within c.args.room IsBlockSum c.in_ok-copied-in-Zero.field-0 (zero-blocks c.in_ok-copied-in-Zero.field-0 (e ∙ c.in-Zero.is))))
    c.still.result c.still.ensures.ends

-- ---- sum_of_parts
pub sum_of_parts-returns : goal.sum_of_parts-returns
sum_of_parts-returns t c =
    let left = c.in_ok-left.ensures {u = tt} in
    let right = c.in_ok-right.ensures {u = tt} in
    if-ok (IsFromTo c.args.moves.facts.now c.args.moves.outs (c.in_ok-left.left.from ⊕ c.in_ok-right.right.from) (c.in_ok-left.left.to ⊕ c.in_ok-right.right.to))
    (Leads (InRoom c.args.room IsBlockSum) c.args.moves.facts.now c.args.moves.outs (c.args.a.now ⊕ c.args.b.now))
    (leads-to (InRoom c.args.room IsBlockSum) c.args.moves.facts.now c.args.moves.facts.now c.args.moves.outs c.args.moves.outs (c.args.a.now ⊕ c.args.b.now)
    (c.in_ok-left.left.from ⊕ c.in_ok-right.right.from) (c.in_ok-left.left.to ⊕ c.in_ok-right.right.to)
    refl refl (ap (λ (u : U). u ⊕ c.in_ok-right.right.from) left.from ∙ ap (λ (u : U). c.args.a.now ⊕ u) right.from)
    (add-within c.args.room IsBlockSum IsBlockSum IsBlockSum c.in_ok-left.left.to c.in_ok-right.right.to (added-blocks c.in_ok-left.left.to c.in_ok-right.right.to) left.reached
    (subst (λ (n : ℕ). InRoom n IsBlockSum c.in_ok-right.right.to) c.room_beside-left_over.ensures right.reached)))
    c.added.result c.added.ensures.ends

-- ---- sum_of_body
pub sum_of_body-over_each_in_room-requires-clause-sum : goal.sum_of_body-over_each_in_room-requires-clause-sum
sum_of_body-over_each_in_room-requires-clause-sum t c =
    sum-within c.args.room c.args.moves.outs c.in_ok-part.part.to c.in_ok-sum.sum.to (c.in_ok-sum.ensures.ends).to (c.in_ok-part.ensures {u = tt}).reached

pub sum_of_body-returns : goal.sum_of_body-returns
sum_of_body-returns t c =
    let whole : c.in_ok-sum.sum.from ≡ S c.args.f.now =
    (c.in_ok-sum.ensures.ends).from ∙ ap (λ (u : U). S (closed_at u c.args.moves.outs)) (c.in_ok-part.ensures {u = tt}).from ∙ ap (λ (u : U). S u) (body-again c.args.moves.outs c.args.f.now c.requires) in
    subst (λ (u : U). IfOk c.over_each_in_room.result (Leads (InRoom c.args.room IsBlockSum) c.args.moves.facts.now c.args.moves.outs u)) whole c.over_each_in_room.ensures

-- ---- sum_opened
pub sum_opened-block_sum-requires : goal.sum_opened-block_sum-requires
sum_opened-block_sum-requires t c =
    let e : c.get.result.now ≡ opened c.args.f.now c.args.moves.outs = c.get.ensures ∙ c.in_ok-body.ensures {u = tt} ∙ c.in_ok-opened.ensures {u = tt} in
    let n : c.in_ok-inner.inner.outs ≡ c.args.moves.outs + 1 = c.in_ok-inner.ensures.outs in (
      omega (arith, c.decreases, ap load e, load-opened c.args.f.now c.args.moves.outs),
      subst (λ (m : ℕ). IsKnown 0 m c.get.result.now) (sym n) (subst (λ (u : U). IsKnown 0 (c.args.moves.outs + 1) u) (sym e) (known-opened c.args.moves.outs c.args.f.now c.requires)),
    )

pub sum_opened-returns : goal.sum_opened-returns
sum_opened-returns t c =
    let e : c.get.result.now ≡ opened c.args.f.now c.args.moves.outs = c.get.ensures ∙ c.in_ok-body.ensures {u = tt} ∙ c.in_ok-opened.ensures {u = tt} in
    if-ok (Leads (InRoom c.args.room IsBlockSum) c.in_ok-inner.inner.facts.now c.in_ok-inner.inner.outs c.get.result.now)
    (Leads (InRoom c.args.room IsBlockSum) c.args.moves.facts.now (c.args.moves.outs + 1) (opened c.args.f.now c.args.moves.outs))
    (leads-same (InRoom c.args.room IsBlockSum) c.args.moves.facts.now c.in_ok-inner.inner.facts.now (c.args.moves.outs + 1) c.in_ok-inner.inner.outs (opened c.args.f.now c.args.moves.outs) c.get.result.now
    c.in_ok-inner.ensures.facts c.in_ok-inner.ensures.outs e)
    c.block_sum.result c.block_sum.ensures

-- ---- normal_opened
pub normal_opened-normal_within-requires : goal.normal_opened-normal_within-requires
normal_opened-normal_within-requires t c =
    let e : c.get.result.now ≡ opened c.args.f.now c.args.moves.outs = c.get.ensures ∙ c.in_ok-body.ensures {u = tt} ∙ c.in_ok-opened.ensures {u = tt} in
    let n : c.in_ok-inner.inner.outs ≡ c.args.moves.outs + 1 = c.in_ok-inner.ensures.outs in (
      omega (arith, c.decreases, ap load e, load-opened c.args.f.now c.args.moves.outs),
      subst (λ (m : ℕ). IsKnown 0 m c.get.result.now) (sym n) (subst (λ (u : U). IsKnown 0 (c.args.moves.outs + 1) u) (sym e) (known-opened c.args.moves.outs c.args.f.now c.requires)),
    )

pub normal_opened-returns : goal.normal_opened-returns
normal_opened-returns t c =
    let e : c.get.result.now ≡ opened c.args.f.now c.args.moves.outs = c.get.ensures ∙ c.in_ok-body.ensures {u = tt} ∙ c.in_ok-opened.ensures {u = tt} in
    if-ok (Leads (InRoom c.args.room IsNormal) c.in_ok-inner.inner.facts.now c.in_ok-inner.inner.outs c.get.result.now)
    (Leads (InRoom c.args.room IsNormal) c.args.moves.facts.now (c.args.moves.outs + 1) (opened c.args.f.now c.args.moves.outs))
    (leads-same (InRoom c.args.room IsNormal) c.args.moves.facts.now c.in_ok-inner.inner.facts.now (c.args.moves.outs + 1) c.in_ok-inner.inner.outs (opened c.args.f.now c.args.moves.outs) c.get.result.now
    c.in_ok-inner.ensures.facts c.in_ok-inner.ensures.outs e)
    c.normal_within.result c.normal_within.ensures

-- ---- normal_factor
pub normal_factor-normal_within-requires : goal.normal_factor-normal_within-requires
normal_factor-normal_within-requires t c = (
  omega (arith, c.decreases, squash-lighter c.args.u.now c.in-Squash.p c.in-Squash.is, ap load c.get.ensures),
  subst (λ (u : U). IsKnown 0 c.args.moves.outs u) (sym c.get.ensures) (known-squashed c.args.moves.outs c.in-Squash.p (subst (λ (u : U). IsKnown 0 c.args.moves.outs u) c.in-Squash.is c.requires.known)),
)

pub normal_factor-normal_within-requires-in-Not : goal.normal_factor-normal_within-requires-in-Not
normal_factor-normal_within-requires-in-Not t c = (
  omega (arith, c.decreases, not-lighter c.args.u.now c.in-Not.p c.in-Not.is, ap load c.get-in-Not.ensures),
  subst (λ (u : U). IsKnown 0 c.args.moves.outs u) (sym c.get-in-Not.ensures) (known-negated c.args.moves.outs c.in-Not.p (subst (λ (u : U). IsKnown 0 c.args.moves.outs u) c.in-Not.is c.requires.known)),
)

pub normal_factor-returns-in_ok-body-in-Squash : goal.normal_factor-returns-in_ok-body-in-Squash
normal_factor-returns-in_ok-body-in-Squash t c =
    let part = c.in_ok-body-in-Squash.ensures {u = tt} in
    if-ok (IsFromTo c.args.moves.facts.now c.args.moves.outs (sq c.in_ok-body-in-Squash.body.from) (sq c.in_ok-body-in-Squash.body.to))
    (Leads (InRoom c.args.room (IsFinished c.args.u.now)) c.args.moves.facts.now c.args.moves.outs c.args.u.now)
    (leads-to (InRoom c.args.room (IsFinished c.args.u.now)) c.args.moves.facts.now c.args.moves.facts.now c.args.moves.outs c.args.moves.outs c.args.u.now (sq c.in_ok-body-in-Squash.body.from) (sq c.in_ok-body-in-Squash.body.to)
    refl refl (ap (λ (u : U). sq u) (part.from ∙ c.get.ensures) ∙ sym c.in-Squash.is)
    (squash-within c.args.room IsNormal (IsFinished c.args.u.now) c.in_ok-body-in-Squash.body.to
    (finished-squash c.args.u.now (sq c.in_ok-body-in-Squash.body.to) c.in-Squash.p c.in_ok-body-in-Squash.body.to c.in-Squash.is refl) part.reached))
    c.squashed.result c.squashed.ensures.ends

pub normal_factor-returns-in_ok-part-in-Not : goal.normal_factor-returns-in_ok-part-in-Not
normal_factor-returns-in_ok-part-in-Not t c =
    let part = c.in_ok-part-in-Not.ensures {u = tt} in
    if-ok (IsFromTo c.args.moves.facts.now c.args.moves.outs (neg c.in_ok-part-in-Not.part.from) (neg c.in_ok-part-in-Not.part.to))
    (Leads (InRoom c.args.room (IsFinished c.args.u.now)) c.args.moves.facts.now c.args.moves.outs c.args.u.now)
    (leads-to (InRoom c.args.room (IsFinished c.args.u.now)) c.args.moves.facts.now c.args.moves.facts.now c.args.moves.outs c.args.moves.outs c.args.u.now (neg c.in_ok-part-in-Not.part.from) (neg c.in_ok-part-in-Not.part.to)
    refl refl (ap (λ (u : U). neg u) (part.from ∙ c.get-in-Not.ensures) ∙ sym c.in-Not.is)
    (not-within c.args.room IsNormal (IsFinished c.args.u.now) c.in_ok-part-in-Not.part.to
    (finished-not c.args.u.now (neg c.in_ok-part-in-Not.part.to) c.in-Not.p c.in_ok-part-in-Not.part.to c.in-Not.is refl (c.is_negation.ensures.0 c.if-is_negation.true)) part.reached))
    c.negated.result c.negated.ensures.ends

pub normal_factor-normal_plain-requires : goal.normal_factor-normal_plain-requires
normal_factor-normal_plain-requires t c =
    let is : is_truth c.in-Not-2.p ≡ true =
    truth-negated_at c.args.u.now c.in-Not-2.p c.in-Not-2.is (λ is. let k : false ≡ true = (c.if-is_negation.ensures {u = tt}).1 is in absurd (cc)) in (
      omega (arith, c.decreases, plain-lighter c.args.u.now c.in-Not-2.p c.in-Not-2.is, ap load c.get-in-Not-2.ensures),
      (
        subst (λ (u : U). IsKnown 0 c.args.moves.outs u) (sym c.get-in-Not-2.ensures) (known-negated c.args.moves.outs c.in-Not-2.p (subst (λ (u : U). IsKnown 0 c.args.moves.outs u) c.in-Not-2.is c.requires.known)),
        subst (λ (u : U). IsPlainFactor u) (sym c.get-in-Not-2.ensures) (truth-plain c.in-Not-2.p is),
      ),
    )

pub normal_factor-returns-in_ok-part-in-Not-2 : goal.normal_factor-returns-in_ok-part-in-Not-2
normal_factor-returns-in_ok-part-in-Not-2 t c =
    let part = c.in_ok-part-in-Not-2.ensures {u = tt} in
    let last : U = c.in_ok-part-in-Not-2.part.to in
    let is : is_truth c.in-Not-2.p ≡ true =
    truth-negated_at c.args.u.now c.in-Not-2.p c.in-Not-2.is (λ is. let k : false ≡ true = (c.if-is_negation.ensures {u = tt}).1 is in absurd (cc)) in
    if-ok (IsFromTo c.args.moves.facts.now c.args.moves.outs (neg c.in_ok-part-in-Not-2.part.from) (neg last))
    (Leads (InRoom c.args.room (IsFinished c.args.u.now)) c.args.moves.facts.now c.args.moves.outs c.args.u.now)
    (leads-to (InRoom c.args.room (IsFinished c.args.u.now)) c.args.moves.facts.now c.args.moves.facts.now c.args.moves.outs c.args.moves.outs c.args.u.now (neg c.in_ok-part-in-Not-2.part.from) (neg last)
    refl refl (ap (λ (u : U). neg u) (part.from ∙ c.get-in-Not-2.ensures) ∙ sym c.in-Not-2.is)
    (not-within c.args.room (IsFinishedPlain c.in-Not-2.p) (IsFinished c.args.u.now) last
    (finished-bare_not c.args.u.now (neg last) c.in-Not-2.p last c.in-Not-2.is refl is) (subst (λ (u : U). InRoom c.args.room (IsFinishedPlain u) last) c.get-in-Not-2.ensures part.reached)))
    c.negated-in-Not-2.result c.negated-in-Not-2.ensures.ends

-- ---- sum_of_head
pub sum_of_head-sum_of_parts-requires : goal.sum_of_head-sum_of_parts-requires
sum_of_head-sum_of_parts-requires t c =
    let known = subst (λ (u : U). IsKnown 0 c.args.moves.outs u) c.in-Add.is c.requires.known in (
      omega (arith, c.decreases, head_sum-lighter c.args.u.now c.in-Add.a c.in-Add.b c.in-Add.is, ap load c.get.ensures, ap load c.get-in-Add.ensures),
      (
        subst (λ (u : U). IsKnown 0 c.args.moves.outs u) (sym c.get.ensures) (known-left c.args.moves.outs 0 c.in-Add.a c.in-Add.b known),
        subst (λ (u : U). IsKnown 0 c.args.moves.outs u) (sym c.get-in-Add.ensures) (known-right c.args.moves.outs 0 c.in-Add.a c.in-Add.b known),
      ),
    )

pub sum_of_head-sum_of_body-requires : goal.sum_of_head-sum_of_body-requires
sum_of_head-sum_of_body-requires t c = (
  omega (arith, c.decreases, head_body-lighter c.args.u.now c.in-Sum.f c.in-Sum.is, ap load c.get-in-Sum.ensures),
  subst (λ (u : U). IsKnown 1 c.args.moves.outs u) (sym c.get-in-Sum.ensures) (known-body c.args.moves.outs c.in-Sum.f (subst (λ (u : U). IsKnown 0 c.args.moves.outs u) c.in-Sum.is c.requires.known)),
)

pub sum_of_head-normal_row-requires : goal.sum_of_head-normal_row-requires
sum_of_head-normal_row-requires t c =
    let tidy = tidy-at c.args.u.now c.requires.head c.in_default.not-Zero c.in_default.not-Add c.in_default.not-Sum in
    (omega (arith, c.decreases, row-load c.args.u.now tidy.row), (c.requires.known, tidy.row))

pub sum_of_head-in_block-requires : goal.sum_of_head-in_block-requires
sum_of_head-in_block-requires t c = record {
  tidy = tidy-at c.args.u.now c.requires.head c.in_default.not-Zero c.in_default.not-Add c.in_default.not-Sum;
  row = c.in_ok-row-in_default.ensures {u = tt};
}

pub sum_of_head-returns-in_ok-copied-in-Zero : goal.sum_of_head-returns-in_ok-copied-in-Zero
sum_of_head-returns-in_ok-copied-in-Zero t c =
    let e : c.in_ok-copied-in-Zero.field-0 ≡ c.args.u.now = c.in_ok-copied-in-Zero.ensures {u = tt} in
    if-ok (IsFromTo c.args.moves.facts.now c.args.moves.outs c.in_ok-copied-in-Zero.field-0 c.in_ok-copied-in-Zero.field-0)
    (Leads (InRoom c.args.room IsBlockSum) c.args.moves.facts.now c.args.moves.outs c.args.u.now)
    (leads-to (InRoom c.args.room IsBlockSum) c.args.moves.facts.now c.args.moves.facts.now c.args.moves.outs c.args.moves.outs c.args.u.now c.in_ok-copied-in-Zero.field-0 c.in_ok-copied-in-Zero.field-0
    refl refl e (within c.args.room IsBlockSum c.in_ok-copied-in-Zero.field-0 (zero-blocks c.in_ok-copied-in-Zero.field-0 (e ∙ c.in-Zero.is))))
    c.still.result c.still.ensures.ends

-- ---- sum_of_product
pub sum_of_product-nothing-requires : goal.sum_of_product-nothing-requires
sum_of_product-nothing-requires t c = record { known = c.requires; vanishes = c.vanishes.ensures.0 c.if-vanishes.true }

pub sum_of_product-returns-then-vanishes : goal.sum_of_product-returns-then-vanishes
sum_of_product-returns-then-vanishes t c =
    if-ok (IsFromTo c.args.moves.facts.now c.args.moves.outs c.args.u.now O) (Leads (InRoom c.args.room IsBlockSum) c.args.moves.facts.now c.args.moves.outs c.args.u.now)
    (leads-to (InRoom c.args.room IsBlockSum) c.args.moves.facts.now c.args.moves.facts.now c.args.moves.outs c.args.moves.outs c.args.u.now c.args.u.now O
    refl refl refl (within c.args.room IsBlockSum O (zero-blocks O refl)))
    c.nothing.result c.nothing.ensures

pub sum_of_product-sum_of_head-requires : goal.sum_of_product-sum_of_head-requires
sum_of_product-sum_of_head-requires t c =
    let first = c.in_ok-first.ensures {u = tt} in
    let by : IsBy c.args.moves.facts.now c.args.moves.outs c.in_ok-first.first = record { facts = first.facts; outs = first.outs } in
    let e : c.to.result.now ≡ c.in_ok-first.first.to = c.to.ensures.lent ∙ ap (λ (d : Derivation). d.to) c.get.ensures in (
      omega (arith, c.decreases, ap head_load e, first.reached.light),
      (
        subst (λ (u : U). IsKnown 0 c.args.moves.outs u) (sym e)
            (to-known c.args.moves.facts.now c.args.moves.outs c.in_ok-first.first by (subst (λ (d : Derivation). IsSound d) c.get.ensures c.to.ensures.sound)),
        subst (λ u. HasHead u) (sym e) first.reached.head,
      ),
    )

-- ---- normal_row
pub normal_row-normal_factor-requires : goal.normal_row-normal_factor-requires
normal_row-normal_factor-requires t c = (
  omega (arith, c.decreases, first-lighter c.args.u.now c.in-Mul.factor c.in-Mul.others c.in-Mul.is, ap load c.get.ensures),
  (
    subst (λ (u : U). IsKnown 0 c.args.moves.outs u) (sym c.get.ensures)
        (known-factor_left c.args.moves.outs 0 c.in-Mul.factor c.in-Mul.others (subst (λ (u : U). IsKnown 0 c.args.moves.outs u) c.in-Mul.is c.requires.known)),
    subst (λ u. IsFactorOrOne u) (sym c.get.ensures) (factor (row-first c.in-Mul.factor c.in-Mul.others (subst (λ u. IsFactorRow u) c.in-Mul.is c.requires.row))),
  ),
)

pub normal_row-normal_row-requires : goal.normal_row-normal_row-requires
normal_row-normal_row-requires t c =
    let row = subst (λ u. IsFactorRow u) c.in-Mul.is c.requires.row in (
      omega (arith, c.decreases, rest-lighter c.args.u.now c.in-Mul.factor c.in-Mul.others c.in-Mul.is (row-first c.in-Mul.factor c.in-Mul.others row), ap load c.get-in-Mul.ensures),
      (
        subst (λ (u : U). IsKnown 0 c.args.moves.outs u) (sym c.get-in-Mul.ensures)
            (known-factor_right c.args.moves.outs 0 c.in-Mul.factor c.in-Mul.others (subst (λ (u : U). IsKnown 0 c.args.moves.outs u) c.in-Mul.is c.requires.known)),
        subst (λ u. IsFactorRow u) (sym c.get-in-Mul.ensures) (row-rest c.in-Mul.factor c.in-Mul.others row),
      ),
    )

pub normal_row-normal_factor-requires-in_default : goal.normal_row-normal_factor-requires-in_default
normal_row-normal_factor-requires-in_default t c = (omega (arith, c.decreases), (c.requires.known, row-last c.args.u.now c.requires.row c.in_default.not-Mul))

pub normal_row-returns-in_ok-rest-in-Mul : goal.normal_row-returns-in_ok-rest-in-Mul
normal_row-returns-in_ok-rest-in-Mul t c =
    let first = c.in_ok-first-in-Mul.ensures {u = tt} in
    let rest = c.in_ok-rest-in-Mul.ensures {u = tt} in
    if-ok (IsFromTo c.args.moves.facts.now c.args.moves.outs (c.in_ok-first-in-Mul.first.from ⊗ c.in_ok-rest-in-Mul.rest.from) (c.in_ok-first-in-Mul.first.to ⊗ c.in_ok-rest-in-Mul.rest.to))
    (Leads (InRoom c.args.room (IsFinished c.args.u.now)) c.args.moves.facts.now c.args.moves.outs c.args.u.now)
    (leads-to (InRoom c.args.room (IsFinished c.args.u.now)) c.args.moves.facts.now c.args.moves.facts.now c.args.moves.outs c.args.moves.outs c.args.u.now
    (c.in_ok-first-in-Mul.first.from ⊗ c.in_ok-rest-in-Mul.rest.from) (c.in_ok-first-in-Mul.first.to ⊗ c.in_ok-rest-in-Mul.rest.to)
    refl refl
    (ap (λ (u : U). u ⊗ c.in_ok-rest-in-Mul.rest.from) (first.from ∙ c.get.ensures) ∙ ap (λ (u : U). c.in-Mul.factor ⊗ u) (rest.from ∙ c.get-in-Mul.ensures) ∙ sym c.in-Mul.is)
    (mul-within c.args.room (IsFinished c.in-Mul.factor) (IsFinished c.in-Mul.others) (IsFinished c.args.u.now) c.in_ok-first-in-Mul.first.to c.in_ok-rest-in-Mul.rest.to
    (finished-Mul c.args.u.now c.in-Mul.factor c.in-Mul.others (c.in_ok-first-in-Mul.first.to ⊗ c.in_ok-rest-in-Mul.rest.to) c.in_ok-first-in-Mul.first.to c.in_ok-rest-in-Mul.rest.to c.in-Mul.is refl)
    (subst (λ (u : U). InRoom c.args.room (IsFinished u) c.in_ok-first-in-Mul.first.to) c.get.ensures first.reached)
    (subst (λ (n : ℕ). InRoom n (IsFinished c.in-Mul.others) c.in_ok-rest-in-Mul.rest.to) c.room_beside-left_over.ensures
    (subst (λ (u : U). InRoom c.room_beside-left_over.result (IsFinished u) c.in_ok-rest-in-Mul.rest.to) c.get-in-Mul.ensures rest.reached))))
    c.multiplied.result c.multiplied.ensures.ends

-- ---- normal_plain
pub normal_plain-normal_values-requires : goal.normal_plain-normal_values-requires
normal_plain-normal_values-requires t c =
    let vs : List Val = c.as_slice.result.now in
    let is = same-relation c.args.u.now c.in-Rel.field-0 c.in-Rel.values vs c.in-Rel.is c.as_slice.ensures in (
      omega (arith, c.decreases, relation-lighter c.args.u.now c.in-Rel.field-0 vs is),
      (
        by-still c.args.room c.args.moves.facts.now c.args.moves.outs c.args.u.now c.in_ok-copied.field-0 (c.in_ok-copied.ensures {u = tt}) c.in_ok-whole.whole (c.in_ok-whole.ensures.ends),
        (
          known-relation c.args.moves.outs c.in-Rel.field-0 vs c.args.u.now is c.requires.known,
          stands-relation c.args.room c.args.moves.facts.now c.args.moves.outs c.args.u.now c.in_ok-copied.field-0 (c.in_ok-copied.ensures {u = tt}) c.in_ok-whole.whole (c.in_ok-whole.ensures.ends) c.in-Rel.field-0 vs is,
        ),
      ),
    )

pub normal_plain-normal_values-requires-in-Pred : goal.normal_plain-normal_values-requires-in-Pred
normal_plain-normal_values-requires-in-Pred t c =
    let vs : List Val = c.as_slice-in-Pred.result.now in
    let is = same-predicate c.args.u.now c.in-Pred.field-0 c.in-Pred.values vs c.in-Pred.is c.as_slice-in-Pred.ensures in (
      omega (arith, c.decreases, predicate-lighter c.args.u.now c.in-Pred.field-0 vs is),
      (
        by-still c.args.room c.args.moves.facts.now c.args.moves.outs c.args.u.now c.in_ok-copied.field-0 (c.in_ok-copied.ensures {u = tt}) c.in_ok-whole.whole (c.in_ok-whole.ensures.ends),
        (
          known-predicate c.args.moves.outs c.in-Pred.field-0 vs c.args.u.now is c.requires.known,
          stands-predicate c.args.room c.args.moves.facts.now c.args.moves.outs c.args.u.now c.in_ok-copied.field-0 (c.in_ok-copied.ensures {u = tt}) c.in_ok-whole.whole (c.in_ok-whole.ensures.ends) c.in-Pred.field-0 vs is,
        ),
      ),
    )

pub normal_plain-normal_value-requires : goal.normal_plain-normal_value-requires
normal_plain-normal_value-requires t c = (
  omega (arith, c.decreases, left-lighter c.args.u.now c.in-Eq.a c.in-Eq.b c.in-Eq.is),
  (
    by-still c.args.room c.args.moves.facts.now c.args.moves.outs c.args.u.now c.in_ok-copied.field-0 (c.in_ok-copied.ensures {u = tt}) c.in_ok-whole.whole (c.in_ok-whole.ensures.ends),
    (
      known-equal_left c.args.moves.outs c.in-Eq.a c.in-Eq.b c.args.u.now c.in-Eq.is c.requires.known,
      stands-left c.args.room c.args.moves.facts.now c.args.moves.outs c.args.u.now c.in_ok-copied.field-0 (c.in_ok-copied.ensures {u = tt}) c.in_ok-whole.whole (c.in_ok-whole.ensures.ends) c.in-Eq.a c.in-Eq.b c.in-Eq.is,
    ),
  ),
)

pub normal_plain-normal_value-requires-in-Eq : goal.normal_plain-normal_value-requires-in-Eq
normal_plain-normal_value-requires-in-Eq t c =
    let by = by-still c.args.room c.args.moves.facts.now c.args.moves.outs c.args.u.now c.in_ok-copied.field-0 (c.in_ok-copied.ensures {u = tt}) c.in_ok-whole.whole (c.in_ok-whole.ensures.ends) in (
      omega (arith, c.decreases, right-lighter c.args.u.now c.in-Eq.a c.in-Eq.b c.in-Eq.is),
      (
        by-on (BecomesInRoom c.args.room (IsNormalAt (0 ∷ []) c.in-Eq.a)) c.args.moves.facts.now c.args.moves.outs c.in_ok-whole.whole c.in_ok-half-in-Eq.half by (c.in_ok-half-in-Eq.ensures {u = tt}),
        (
          known-equal_right c.args.moves.outs c.in-Eq.a c.in-Eq.b c.args.u.now c.in-Eq.is c.requires.known,
          stands-right c.args.room c.args.moves.facts.now c.args.moves.outs c.args.u.now c.in_ok-copied.field-0 (c.in_ok-copied.ensures {u = tt}) c.in_ok-whole.whole (c.in_ok-whole.ensures.ends) c.in-Eq.a c.in-Eq.b c.in-Eq.is
              c.in_ok-half-in-Eq.half
              (led-in c.args.room (IsNormalAt (0 ∷ []) c.in-Eq.a) c.in_ok-whole.whole c.in_ok-half-in-Eq.half (not-over c.args.room c.in_ok-half-in-Eq.half.to (c.if-is_over.ensures {u = tt}).1) (c.in_ok-half-in-Eq.ensures {u = tt})),
        ),
      ),
    )

pub normal_plain-returns-in-Rel : goal.normal_plain-returns-in-Rel
normal_plain-returns-in-Rel t c =
    let vs : List Val = c.as_slice.result.now in
    if-ok (LeadsOn (BecomesInRoom c.args.room (AreNormalAt [] vs)) c.in_ok-whole.whole) (Leads (InRoom c.args.room (IsFinishedPlain c.args.u.now)) c.args.moves.facts.now c.args.moves.outs c.args.u.now)
    (leads-relation c.args.room c.args.moves.facts.now c.args.moves.outs c.args.u.now c.in_ok-copied.field-0 (c.in_ok-copied.ensures {u = tt}) c.in_ok-whole.whole (c.in_ok-whole.ensures.ends) c.in-Rel.field-0 vs
    (same-relation c.args.u.now c.in-Rel.field-0 c.in-Rel.values vs c.in-Rel.is c.as_slice.ensures))
    c.normal_values.result c.normal_values.ensures

pub normal_plain-returns-in-Pred : goal.normal_plain-returns-in-Pred
normal_plain-returns-in-Pred t c =
    let vs : List Val = c.as_slice-in-Pred.result.now in
    if-ok (LeadsOn (BecomesInRoom c.args.room (AreNormalAt [] vs)) c.in_ok-whole.whole) (Leads (InRoom c.args.room (IsFinishedPlain c.args.u.now)) c.args.moves.facts.now c.args.moves.outs c.args.u.now)
    (leads-predicate c.args.room c.args.moves.facts.now c.args.moves.outs c.args.u.now c.in_ok-copied.field-0 (c.in_ok-copied.ensures {u = tt}) c.in_ok-whole.whole (c.in_ok-whole.ensures.ends) c.in-Pred.field-0 vs
    (same-predicate c.args.u.now c.in-Pred.field-0 c.in-Pred.values vs c.in-Pred.is c.as_slice-in-Pred.ensures))
    c.normal_values-in-Pred.result c.normal_values-in-Pred.ensures

pub normal_plain-returns-else-is_over : goal.normal_plain-returns-else-is_over
normal_plain-returns-else-is_over t c =
    if-ok (LeadsOn (BecomesInRoom c.args.room (IsNormalAt (1 ∷ []) c.in-Eq.b)) c.in_ok-half-in-Eq.half) (Leads (InRoom c.args.room (IsFinishedPlain c.args.u.now)) c.args.moves.facts.now c.args.moves.outs c.args.u.now)
    (leads-equality c.args.room c.args.moves.facts.now c.args.moves.outs c.args.u.now c.in_ok-copied.field-0 (c.in_ok-copied.ensures {u = tt}) c.in_ok-whole.whole (c.in_ok-whole.ensures.ends) c.in-Eq.a c.in-Eq.b c.in-Eq.is
    c.in_ok-half-in-Eq.half (led-in c.args.room (IsNormalAt (0 ∷ []) c.in-Eq.a) c.in_ok-whole.whole c.in_ok-half-in-Eq.half (not-over c.args.room c.in_ok-half-in-Eq.half.to (c.if-is_over.ensures {u = tt}).1) (c.in_ok-half-in-Eq.ensures {u = tt})))
    c.normal_value-in-Eq.result c.normal_value-in-Eq.ensures

pub normal_plain-returns-in_default : goal.normal_plain-returns-in_default
normal_plain-returns-in_default t c =
    leads-still c.args.room c.args.moves.facts.now c.args.moves.outs c.args.u.now c.in_ok-copied.field-0 (c.in_ok-copied.ensures {u = tt}) c.in_ok-whole.whole (c.in_ok-whole.ensures.ends)
    (plain-one c.args.u.now c.in_ok-copied.field-0 (c.in_ok-copied.ensures {u = tt}) c.requires.plain c.in_default.not-Rel c.in_default.not-Eq c.in_default.not-Pred)

-- ---- normal_values
pub normal_values-normal_value-requires : goal.normal_values-normal_value-requires
normal_values-normal_value-requires t c =
    let vs : List Val = c.args.values.now in
    let i : ℕ = c.loop-index.index in
    let ahead = ahead-at vs i c.index-values-index.result c.loop-index-test.true c.index-values-index.is in (
      omega (arith, c.decreases, item-lighter vs i c.index-values-index.result ahead),
      (
        by-on (BecomesInRoom c.args.room (AreNormalUpTo i c.args.path.now vs)) c.args.moves.facts.now c.args.moves.outs c.args.whole c.loop-index.done c.requires.by c.loop-index.invariant,
        (
          known-at c.args.moves.outs vs i c.index-values-index.result ahead c.requires.known,
          led-stands c.args.room i c.args.path.now vs c.args.whole c.loop-index.done c.index-values-index.result ahead
              (led-in c.args.room (AreNormalUpTo i c.args.path.now vs) c.args.whole c.loop-index.done (not-over c.args.room c.loop-index.done.to (c.if-is_over.ensures {u = tt}).1) c.loop-index.invariant) c.requires.stand,
        ),
      ),
    )

pub normal_values-loop-index-preserved : goal.normal_values-loop-index-preserved
normal_values-loop-index-preserved t c =
    let vs : List Val = c.args.values.now in
    let i : ℕ = c.loop-index.index in
    let x : Val = c.index-values-index.result in
    led-next c.args.room i c.args.path.now vs c.args.whole c.loop-index.done x (ahead-at vs i x c.loop-index-test.true c.index-values-index.is)
    (led-in c.args.room (AreNormalUpTo i c.args.path.now vs) c.args.whole c.loop-index.done (not-over c.args.room c.loop-index.done.to (c.if-is_over.ensures {u = tt}).1) c.loop-index.invariant) c.in_ok-done.done
    (c.in_ok-done.ensures {u = tt})

-- ---- normal_value
pub normal_value-normal_values-requires : goal.normal_value-normal_values-requires
normal_value-normal_values-requires t c =
    let vs : List Val = c.as_slice-in-Fun.result.now in
    let is = same-function c.args.value.now c.in-Fun.field-0 c.in-Fun.values vs c.in-Fun.is c.as_slice-in-Fun.ensures in
    let stands = subst (λ (path : List ℕ). Stands path c.args.value.now c.args.whole.to) (sym (c.as_slice.ensures.value ∙ c.in_ok-place-in-Fun.ensures {u = tt})) c.requires.stands in (
      omega (arith, c.decreases, function-lighter c.args.value.now c.in-Fun.field-0 vs is),
      (
        c.requires.by,
        (
          known-function c.args.moves.outs c.in-Fun.field-0 vs c.args.value.now is c.requires.known,
          stands-function c.as_slice.result.now c.in-Fun.field-0 vs c.args.whole.to (subst (λ (x : Val). Stands c.as_slice.result.now x c.args.whole.to) is stands),
        ),
      ),
    )

pub normal_value-normal_opened-requires : goal.normal_value-normal_opened-requires
normal_value-normal_opened-requires t c =
    let is = same-aggregate c.args.value.now c.in-Agg.field-0 c.in-Agg.body c.get.result.now c.in-Agg.is c.get.ensures in (
      omega (arith, c.decreases, aggregate-lighter c.args.value.now c.in-Agg.field-0 c.get.result.now is),
      known-aggregate c.args.moves.outs c.in-Agg.field-0 c.get.result.now c.args.value.now is c.requires.known,
    )

pub normal_value-then_in_aggregate-requires-clause-closed : goal.normal_value-then_in_aggregate-requires-clause-closed
normal_value-then_in_aggregate-requires-clause-closed t c =
    let is = same-aggregate c.args.value.now c.in-Agg.field-0 c.in-Agg.body c.get.result.now c.in-Agg.is c.get.ensures in
    let known = known-aggregate c.args.moves.outs c.in-Agg.field-0 c.get.result.now c.args.value.now is c.requires.known in
    subst (λ (u : U). IsClosed 0 u) (sym (c.in_ok-part-in-Agg.ensures {u = tt}).from) (known-opened c.args.moves.outs c.get.result.now known).closed

pub normal_value-then_in_aggregate-requires-clause-stands : goal.normal_value-then_in_aggregate-requires-clause-stands
normal_value-then_in_aggregate-requires-clause-stands t c =
    let is = same-aggregate c.args.value.now c.in-Agg.field-0 c.in-Agg.body c.get.result.now c.in-Agg.is c.get.ensures in
    let known = known-aggregate c.args.moves.outs c.in-Agg.field-0 c.get.result.now c.args.value.now is c.requires.known in
    let again = again-at c.args.moves.outs c.args.whole.outs c.get.result.now c.in_ok-part-in-Agg.part.from c.requires.by.outs (c.in_ok-part-in-Agg.ensures {u = tt}).from known in
    let stands = subst (λ (path : List ℕ). Stands path c.args.value.now c.args.whole.to) (sym (c.as_slice-in-Agg.ensures.value ∙ c.in_ok-place-in-Agg.ensures {u = tt})) c.requires.stands in
    stands-aggregate c.as_slice-in-Agg.result.now c.in-Agg.field-0 c.get.result.now (closed_at c.in_ok-part-in-Agg.part.from c.args.whole.outs) c.args.whole.to again
    (subst (λ (x : Val). Stands c.as_slice-in-Agg.result.now x c.args.whole.to) is stands)

pub normal_value-returns-in-Bound : goal.normal_value-returns-in-Bound
normal_value-returns-in-Bound t c = led-still c.args.room (c.args.path.now ++ c.args.index ∷ []) c.args.value.now c.args.whole (bound-normal (c.args.path.now ++ c.args.index ∷ []) c.in-Bound.field-0 c.args.value.now c.args.whole.to c.in-Bound.is)

pub normal_value-returns-in-Free : goal.normal_value-returns-in-Free
normal_value-returns-in-Free t c = led-still c.args.room (c.args.path.now ++ c.args.index ∷ []) c.args.value.now c.args.whole (free-normal (c.args.path.now ++ c.args.index ∷ []) c.in-Free.field-0 c.args.value.now c.args.whole.to c.in-Free.is)

pub normal_value-returns-in-Lit : goal.normal_value-returns-in-Lit
normal_value-returns-in-Lit t c = led-still c.args.room (c.args.path.now ++ c.args.index ∷ []) c.args.value.now c.args.whole (literal-normal (c.args.path.now ++ c.args.index ∷ []) c.in-Lit.field-0 c.args.value.now c.args.whole.to c.in-Lit.is)

pub normal_value-returns-in_ok-place-in-Fun : goal.normal_value-returns-in_ok-place-in-Fun
normal_value-returns-in_ok-place-in-Fun t c =
    let vs : List Val = c.as_slice-in-Fun.result.now in
    let is = same-function c.args.value.now c.in-Fun.field-0 c.in-Fun.values vs c.in-Fun.is c.as_slice-in-Fun.ensures in
    subst (λ (path : List ℕ). IfOk c.normal_values.result (LeadsOn (BecomesInRoom c.args.room (IsNormalAt path c.args.value.now)) c.args.whole)) (c.as_slice.ensures.value ∙ c.in_ok-place-in-Fun.ensures {u = tt})
    (if-ok (LeadsOn (BecomesInRoom c.args.room (AreNormalAt c.as_slice.result.now vs)) c.args.whole) (LeadsOn (BecomesInRoom c.args.room (IsNormalAt c.as_slice.result.now c.args.value.now)) c.args.whole)
    (led-function c.args.room c.as_slice.result.now c.in-Fun.field-0 vs c.args.value.now c.args.whole is)
    c.normal_values.result c.normal_values.ensures)

pub normal_value-returns-in_ok-part-in-Agg : goal.normal_value-returns-in_ok-part-in-Agg
normal_value-returns-in_ok-part-in-Agg t c =
    let is = same-aggregate c.args.value.now c.in-Agg.field-0 c.in-Agg.body c.get.result.now c.in-Agg.is c.get.ensures in
    let known = known-aggregate c.args.moves.outs c.in-Agg.field-0 c.get.result.now c.args.value.now is c.requires.known in
    let again = again-at c.args.moves.outs c.args.whole.outs c.get.result.now c.in_ok-part-in-Agg.part.from c.requires.by.outs (c.in_ok-part-in-Agg.ensures {u = tt}).from known in
    subst (λ (path : List ℕ). IfOk c.then_in_aggregate.result (LeadsOn (BecomesInRoom c.args.room (IsNormalAt path c.args.value.now)) c.args.whole)) (c.as_slice-in-Agg.ensures.value ∙ c.in_ok-place-in-Agg.ensures {u = tt})
    (if-ok (LeadsOn (HasOtherBody c.as_slice-in-Agg.result.now c.args.whole.outs c.in_ok-part-in-Agg.part.from c.in_ok-part-in-Agg.part.to) c.args.whole)
    (LeadsOn (BecomesInRoom c.args.room (IsNormalAt c.as_slice-in-Agg.result.now c.args.value.now)) c.args.whole)
    (led-aggregate c.args.room c.as_slice-in-Agg.result.now c.in-Agg.field-0 c.args.whole.outs c.get.result.now c.in_ok-part-in-Agg.part.from c.in_ok-part-in-Agg.part.to c.args.value.now c.args.whole is again (c.in_ok-part-in-Agg.ensures {u = tt}).reached)
    c.then_in_aggregate.result c.then_in_aggregate.ensures)
