use Rattle.std.proofs.Common.{◌≡◌, ℕ, ◌+◌, true, false, refl, ap, sym, subst, ◌∙◌, arith}
use Rattle.std.specs.Prelude.{IfOk}
use Rattle.u_terms.specs.Syntax.{U}
use Rattle.u_terms.specs.Size.{nodes}
use Rattle.u_terms.specs.Binding.{closed_at, opened}
use Rattle.u_terms.proofs.Sizes.{nodes-Add, nodes-Mul, nodes-Sum}
use Rattle.u_rules.specs.Terms.{◌⊕◌, ◌⊗◌, O, S, add_leaves}
use Rattle.u_moves.specs.Derivations.{IsKnown}
use Rattle.u_moves.proofs.derivations.Whole.{if-ok}
use Rattle.normal_form.specs.NormalTerms.{sum_of}
use Rattle.u_congruence.specs.Congruence.{IsFromTo}
use Rattle.u_normal.specs.Vanishing.{Vanishes}
use Rattle.u_normal.proofs.terms.KnownParts.{known-left, known-right, known-body, known-opened, known-factor_left, known-factor_right, body-again}
use Rattle.u_normal.proofs.derivations.Led.{same-ends}
use Rattle.u_normal.proofs.products.Nodes.{opened-nodes}
use Rattle.u_normal.proofs.terms.Vanishings.{first-vanishes, second-vanishes, other-vanishes, body-vanishes, only-zero, opened-vanishes, nothing-added, zero-closed}
use Rattle.u_normal.proofs.vanishing.+nothing.Goals as goal

-- ---- nothing
pub nothing-nothing_added-requires : goal.nothing-nothing_added-requires
nothing-nothing_added-requires t c =
    let known = subst (λ (u : U). IsKnown 0 c.args.moves.outs u) c.in-Add.is c.requires.known in (
      omega (arith, c.decreases, ap nodes c.in-Add.is, nodes-Add c.in-Add.a c.in-Add.b, ap nodes c.get.ensures, ap nodes c.get-in-Add.ensures),
      (
        subst (λ (u : U). IsKnown 0 c.args.moves.outs u) (sym c.get.ensures) (known-left c.args.moves.outs 0 c.in-Add.a c.in-Add.b known),
        (
          subst (λ (u : U). IsKnown 0 c.args.moves.outs u) (sym c.get-in-Add.ensures) (known-right c.args.moves.outs 0 c.in-Add.a c.in-Add.b known),
          (
            subst (λ u. Vanishes u) (sym c.get.ensures) (first-vanishes c.args.u.now c.requires.vanishes c.in-Add.a c.in-Add.b c.in-Add.is),
            subst (λ u. Vanishes u) (sym c.get-in-Add.ensures) (second-vanishes c.args.u.now c.requires.vanishes c.in-Add.a c.in-Add.b c.in-Add.is),
          ),
        ),
      ),
    )

pub nothing-nothing_multiplied-requires : goal.nothing-nothing_multiplied-requires
nothing-nothing_multiplied-requires t c =
    let known = subst (λ (u : U). IsKnown 0 c.args.moves.outs u) c.in-Mul.is c.requires.known in
    let parts : c.args.u.now ≡ c.get-in-Mul.result.now ⊗ c.get-in-Mul-2.result.now =
    c.in-Mul.is ∙ ap (λ (u : U). u ⊗ c.in-Mul.b) (sym c.get-in-Mul.ensures) ∙ ap (λ (u : U). c.get-in-Mul.result.now ⊗ u) (sym c.get-in-Mul-2.ensures) in (
      omega (arith, c.decreases, ap nodes parts, nodes-Mul c.get-in-Mul.result.now c.get-in-Mul-2.result.now),
      (
        subst (λ (u : U). IsKnown 0 c.args.moves.outs u) (sym c.get-in-Mul.ensures) (known-factor_left c.args.moves.outs 0 c.in-Mul.a c.in-Mul.b known),
        (
          subst (λ (u : U). IsKnown 0 c.args.moves.outs u) (sym c.get-in-Mul-2.ensures) (known-factor_right c.args.moves.outs 0 c.in-Mul.a c.in-Mul.b known),
          subst (λ u. Vanishes u) parts c.requires.vanishes,
        ),
      ),
    )

pub nothing-nothing_summed-requires : goal.nothing-nothing_summed-requires
nothing-nothing_summed-requires t c = (
  omega (arith, c.decreases, ap nodes c.in-Sum.is, nodes-Sum c.in-Sum.f, ap nodes c.get-in-Sum.ensures),
  (
    subst (λ (u : U). IsKnown 1 c.args.moves.outs u) (sym c.get-in-Sum.ensures) (known-body c.args.moves.outs c.in-Sum.f (subst (λ (u : U). IsKnown 0 c.args.moves.outs u) c.in-Sum.is c.requires.known)),
    subst (λ u. Vanishes u) (sym c.get-in-Sum.ensures) (body-vanishes c.args.u.now c.requires.vanishes c.in-Sum.f c.in-Sum.is),
  ),
)

pub nothing-returns-in_ok-copied-in_default : goal.nothing-returns-in_ok-copied-in_default
nothing-returns-in_ok-copied-in_default t c =
    let e : c.in_ok-copied-in_default.field-0 ≡ c.args.u.now = c.in_ok-copied-in_default.ensures {u = tt} in
    let zero : c.args.u.now ≡ O = only-zero c.args.u.now c.requires.vanishes c.in_default.not-Add c.in_default.not-Mul c.in_default.not-Sum in
    if-ok (IsFromTo c.args.moves.facts.now c.args.moves.outs c.in_ok-copied-in_default.field-0 c.in_ok-copied-in_default.field-0)
    (IsFromTo c.args.moves.facts.now c.args.moves.outs c.args.u.now O)
    (same-ends c.args.moves.facts.now c.args.moves.facts.now c.args.moves.outs c.args.moves.outs c.args.u.now c.in_ok-copied-in_default.field-0 O c.in_ok-copied-in_default.field-0 refl refl e (e ∙ zero))
    c.still.result c.still.ensures.ends

-- ---- nothing_added
pub nothing_added-nothing-requires : goal.nothing_added-nothing-requires
nothing_added-nothing-requires t c = (omega (arith, c.decreases), (c.requires.known_a, c.requires.a))

pub nothing_added-nothing-requires-2 : goal.nothing_added-nothing-requires-2
nothing_added-nothing-requires-2 t c = (omega (arith, c.decreases), (c.requires.known_b, c.requires.b))

pub nothing_added-returns : goal.nothing_added-returns
nothing_added-returns t c =
    let left = c.in_ok-left.ensures {u = tt} in
    let right = c.in_ok-right.ensures {u = tt} in
    let both = c.in_ok-both.ensures.ends in
    if-ok (IsFromTo c.args.moves.facts.now c.args.moves.outs c.in_ok-both.both.from (sum_of (add_leaves c.in_ok-both.both.to)))
    (IsFromTo c.args.moves.facts.now c.args.moves.outs (c.args.a.now ⊕ c.args.b.now) O)
    (same-ends c.args.moves.facts.now c.args.moves.facts.now c.args.moves.outs c.args.moves.outs (c.args.a.now ⊕ c.args.b.now) c.in_ok-both.both.from O (sum_of (add_leaves c.in_ok-both.both.to))
    refl refl (both.from ∙ ap (λ (u : U). u ⊕ c.in_ok-right.right.from) left.from ∙ ap (λ (u : U). c.args.a.now ⊕ u) right.from)
    (ap (λ (u : U). sum_of (add_leaves u)) (both.to ∙ ap (λ (u : U). u ⊕ c.in_ok-right.right.to) left.to ∙ ap (λ (u : U). O ⊕ u) right.to) ∙ nothing-added))
    c.then_in_row.result c.then_in_row.ensures.ends

-- ---- nothing_multiplied
pub nothing_multiplied-nothing_first-requires : goal.nothing_multiplied-nothing_first-requires
nothing_multiplied-nothing_first-requires t c = (omega (arith, c.decreases), (c.requires.known_a, (c.requires.known_b, c.vanishes.ensures.0 c.if-vanishes.true)))

pub nothing_multiplied-nothing_second-requires : goal.nothing_multiplied-nothing_second-requires
nothing_multiplied-nothing_second-requires t c = (
  omega (arith, c.decreases),
  (
    c.requires.known_a,
    (
      c.requires.known_b,
      other-vanishes (c.args.a.now ⊗ c.args.b.now) c.requires.vanishes c.args.a.now c.args.b.now refl (λ k. let e : false ≡ true = (c.if-vanishes.ensures {u = tt}).1 k in absurd (cc)),
    ),
  ),
)

-- ---- nothing_first
pub nothing_first-nothing-requires : goal.nothing_first-nothing-requires
nothing_first-nothing-requires t c = (omega (arith, c.decreases), (c.requires.known_a, c.requires.a))

pub nothing_first-joined-requires-clause-joins : goal.nothing_first-joined-requires-clause-joins
nothing_first-joined-requires-clause-joins t c =
    let first = c.in_ok-first.ensures {u = tt} in
    let rest = c.in_ok-rest.ensures.ends in
    let both = c.in_ok-both.ensures.ends in
    both.to ∙ ap (λ (u : U). u ⊗ c.in_ok-rest.rest.to) first.to ∙ ap (λ (u : U). O ⊗ u) (rest.to ∙ c.in_ok-copied.ensures {u = tt}) ∙ sym (c.in_ok-end.ensures {u = tt}).from

pub nothing_first-returns : goal.nothing_first-returns
nothing_first-returns t c =
    let first = c.in_ok-first.ensures {u = tt} in
    let rest = c.in_ok-rest.ensures.ends in
    let both = c.in_ok-both.ensures.ends in
    let end = c.in_ok-end.ensures {u = tt} in
    if-ok (IsFromTo c.in_ok-both.both.facts c.in_ok-both.both.outs c.in_ok-both.both.from c.in_ok-end.end.to) (IsFromTo c.args.moves.facts.now c.args.moves.outs (c.args.a.now ⊗ c.args.b.now) O)
    (same-ends c.args.moves.facts.now c.in_ok-both.both.facts c.args.moves.outs c.in_ok-both.both.outs (c.args.a.now ⊗ c.args.b.now) c.in_ok-both.both.from O c.in_ok-end.end.to both.facts both.outs
    (both.from ∙ ap (λ (u : U). u ⊗ c.in_ok-rest.rest.from) first.from ∙ ap (λ (u : U). c.args.a.now ⊗ u) (rest.from ∙ c.in_ok-copied.ensures {u = tt})) end.to)
    c.joined.result c.joined.ensures.ends

-- ---- nothing_second
pub nothing_second-nothing-requires : goal.nothing_second-nothing-requires
nothing_second-nothing-requires t c = (omega (arith, c.decreases), (c.requires.known_b, c.requires.b))

pub nothing_second-joined-requires-clause-joins : goal.nothing_second-joined-requires-clause-joins
nothing_second-joined-requires-clause-joins t c =
    let rest = c.in_ok-rest.ensures.ends in
    let second = c.in_ok-second.ensures {u = tt} in
    let both = c.in_ok-both.ensures.ends in
    both.to ∙ ap (λ (u : U). u ⊗ c.in_ok-second.second.to) (rest.to ∙ c.in_ok-copied.ensures {u = tt}) ∙ ap (λ (u : U). c.args.a.now ⊗ u) second.to ∙ sym (c.in_ok-end.ensures {u = tt}).from

pub nothing_second-returns : goal.nothing_second-returns
nothing_second-returns t c =
    let rest = c.in_ok-rest.ensures.ends in
    let second = c.in_ok-second.ensures {u = tt} in
    let both = c.in_ok-both.ensures.ends in
    let end = c.in_ok-end.ensures {u = tt} in
    if-ok (IsFromTo c.in_ok-both.both.facts c.in_ok-both.both.outs c.in_ok-both.both.from c.in_ok-end.end.to) (IsFromTo c.args.moves.facts.now c.args.moves.outs (c.args.a.now ⊗ c.args.b.now) O)
    (same-ends c.args.moves.facts.now c.in_ok-both.both.facts c.args.moves.outs c.in_ok-both.both.outs (c.args.a.now ⊗ c.args.b.now) c.in_ok-both.both.from O c.in_ok-end.end.to both.facts both.outs
    (both.from ∙ ap (λ (u : U). u ⊗ c.in_ok-second.second.from) (rest.from ∙ c.in_ok-copied.ensures {u = tt}) ∙ ap (λ (u : U). c.args.a.now ⊗ u) second.from) end.to)
    c.joined.result c.joined.ensures.ends

-- ---- nothing_summed
pub nothing_summed-nothing_opened-requires : goal.nothing_summed-nothing_opened-requires
nothing_summed-nothing_opened-requires t c = (omega (arith, c.decreases), (c.requires.known, c.requires.vanishes))

pub nothing_summed-joined-requires-clause-joins : goal.nothing_summed-joined-requires-clause-joins
nothing_summed-joined-requires-clause-joins t c =
    (c.in_ok-sum.ensures.ends).to ∙ ap (λ (u : U). S (closed_at u c.args.moves.outs)) (c.in_ok-part.ensures {u = tt}).to ∙ ap (λ (u : U). S u) (zero-closed c.args.moves.outs) ∙ sym (c.in_ok-end.ensures {u = tt}).from

pub nothing_summed-returns : goal.nothing_summed-returns
nothing_summed-returns t c =
    let sum = c.in_ok-sum.ensures.ends in
    if-ok (IsFromTo c.in_ok-sum.sum.facts c.in_ok-sum.sum.outs c.in_ok-sum.sum.from c.in_ok-end.end.to) (IsFromTo c.args.moves.facts.now c.args.moves.outs (S c.args.f.now) O)
    (same-ends c.args.moves.facts.now c.in_ok-sum.sum.facts c.args.moves.outs c.in_ok-sum.sum.outs (S c.args.f.now) c.in_ok-sum.sum.from O c.in_ok-end.end.to sum.facts sum.outs
    (sum.from ∙ ap (λ (u : U). S (closed_at u c.args.moves.outs)) (c.in_ok-part.ensures {u = tt}).from ∙ ap (λ (u : U). S u) (body-again c.args.moves.outs c.args.f.now c.requires.known))
    (c.in_ok-end.ensures {u = tt}).to)
    c.joined.result c.joined.ensures.ends

-- ---- nothing_opened
pub nothing_opened-nothing-requires : goal.nothing_opened-nothing-requires
nothing_opened-nothing-requires t c =
    let e : c.get.result.now ≡ opened c.args.f.now c.args.moves.outs = c.get.ensures ∙ c.in_ok-body.ensures {u = tt} ∙ c.in_ok-opened.ensures {u = tt} in
    let n : c.in_ok-inner.inner.outs ≡ c.args.moves.outs + 1 = c.in_ok-inner.ensures.outs in (
      omega (arith, c.decreases, ap nodes e, opened-nodes c.args.f.now c.args.moves.outs),
      (
        subst (λ (m : ℕ). IsKnown 0 m c.get.result.now) (sym n) (subst (λ (u : U). IsKnown 0 (c.args.moves.outs + 1) u) (sym e) (known-opened c.args.moves.outs c.args.f.now c.requires.known)),
        subst (λ u. Vanishes u) (sym e) (opened-vanishes c.args.f.now c.args.moves.outs c.requires.vanishes),
      ),
    )

pub nothing_opened-returns : goal.nothing_opened-returns
nothing_opened-returns t c =
    let e : c.get.result.now ≡ opened c.args.f.now c.args.moves.outs = c.get.ensures ∙ c.in_ok-body.ensures {u = tt} ∙ c.in_ok-opened.ensures {u = tt} in
    if-ok (IsFromTo c.in_ok-inner.inner.facts.now c.in_ok-inner.inner.outs c.get.result.now O) (IsFromTo c.args.moves.facts.now (c.args.moves.outs + 1) (opened c.args.f.now c.args.moves.outs) O)
    (same-ends c.args.moves.facts.now c.in_ok-inner.inner.facts.now (c.args.moves.outs + 1) c.in_ok-inner.inner.outs (opened c.args.f.now c.args.moves.outs) c.get.result.now O O c.in_ok-inner.ensures.facts c.in_ok-inner.ensures.outs e refl)
    c.nothing.result c.nothing.ensures
