use Rattle.std.proofs.Common.{◌≡◌, ℕ, ◌+◌, List, ap, sym, subst, ◌∙◌, arith}
use Rattle.u_terms.specs.Syntax.{U, Val}
use Rattle.u_terms.specs.Size.{nodes, value_nodes}
use Rattle.u_terms.specs.Binding.{closed_at, opened}
use Rattle.u_terms.proofs.Sizes.{nodes-Add, nodes-Mul, nodes-Squash, nodes-Not, nodes-Sum, nodes-Rel, nodes-Eq, nodes-Pred, nodes-Agg}
use Rattle.u_rules.specs.Terms.{S}
use Rattle.u_moves.specs.Derivations.{IsKnown}
use Rattle.u_moves.proofs.derivations.Whole.{if-ok}
use Rattle.u_normal.proofs.terms.KnownParts.{known-left, known-right, known-factor_left, known-factor_right, known-squashed, known-negated, known-body, known-opened, body-again}
use Rattle.u_normal.proofs.products.Nodes.{opened-nodes}
use Rattle.u_normal.proofs.derivations.ValuesLed.{same-relation, same-predicate, same-function, same-aggregate, ahead-at, item-lighter, function-lighter, known-relation, known-predicate, known-function, known-aggregate, known-at}
use Rattle.u_simple.specs.Passes.{IsFrom}
use Rattle.u_simple.proofs.Known.{known-first, known-second}
use Rattle.u_simple.proofs.passes.+passed.Goals as goal

pub passed-passed_sum-requires : goal.passed-passed_sum-requires
passed-passed_sum-requires t c =
    let known = subst (λ (u : U). IsKnown 0 c.args.moves.outs u) c.in-Add.is c.requires in (
      omega (arith, c.decreases, ap nodes c.in-Add.is, nodes-Add c.in-Add.a c.in-Add.b, ap nodes c.get.ensures, ap nodes c.get-in-Add.ensures),
      (
        subst (λ (u : U). IsKnown 0 c.args.moves.outs u) (sym c.get.ensures) (known-left c.args.moves.outs 0 c.in-Add.a c.in-Add.b known),
        subst (λ (u : U). IsKnown 0 c.args.moves.outs u) (sym c.get-in-Add.ensures) (known-right c.args.moves.outs 0 c.in-Add.a c.in-Add.b known),
      ),
    )

pub passed-passed_product-requires : goal.passed-passed_product-requires
passed-passed_product-requires t c =
    let known = subst (λ (u : U). IsKnown 0 c.args.moves.outs u) c.in-Mul.is c.requires in (
      omega (arith, c.decreases, ap nodes c.in-Mul.is, nodes-Mul c.in-Mul.a c.in-Mul.b, ap nodes c.get-in-Mul.ensures, ap nodes c.get-in-Mul-2.ensures),
      (
        subst (λ (u : U). IsKnown 0 c.args.moves.outs u) (sym c.get-in-Mul.ensures) (known-factor_left c.args.moves.outs 0 c.in-Mul.a c.in-Mul.b known),
        subst (λ (u : U). IsKnown 0 c.args.moves.outs u) (sym c.get-in-Mul-2.ensures) (known-factor_right c.args.moves.outs 0 c.in-Mul.a c.in-Mul.b known),
      ),
    )

pub passed-passed_squash-requires : goal.passed-passed_squash-requires
passed-passed_squash-requires t c = (
  omega (arith, c.decreases, ap nodes c.in-Squash.is, nodes-Squash c.in-Squash.p, ap nodes c.get-in-Squash.ensures),
  subst (λ (u : U). IsKnown 0 c.args.moves.outs u) (sym c.get-in-Squash.ensures) (known-squashed c.args.moves.outs c.in-Squash.p (subst (λ (u : U). IsKnown 0 c.args.moves.outs u) c.in-Squash.is c.requires)),
)

pub passed-passed_negation-requires : goal.passed-passed_negation-requires
passed-passed_negation-requires t c = (
  omega (arith, c.decreases, ap nodes c.in-Not.is, nodes-Not c.in-Not.p, ap nodes c.get-in-Not.ensures),
  subst (λ (u : U). IsKnown 0 c.args.moves.outs u) (sym c.get-in-Not.ensures) (known-negated c.args.moves.outs c.in-Not.p (subst (λ (u : U). IsKnown 0 c.args.moves.outs u) c.in-Not.is c.requires)),
)

pub passed-passed_body-requires : goal.passed-passed_body-requires
passed-passed_body-requires t c = (
  omega (arith, c.decreases, ap nodes c.in-Sum.is, nodes-Sum c.in-Sum.f, ap nodes c.get-in-Sum.ensures),
  subst (λ (u : U). IsKnown 1 c.args.moves.outs u) (sym c.get-in-Sum.ensures) (known-body c.args.moves.outs c.in-Sum.f (subst (λ (u : U). IsKnown 0 c.args.moves.outs u) c.in-Sum.is c.requires)),
)

pub passed-passed_equality-requires : goal.passed-passed_equality-requires
passed-passed_equality-requires t c =
    let known = subst (λ (u : U). IsKnown 0 c.args.moves.outs u) c.in-Eq.is c.requires in (
      omega (arith, c.decreases, ap nodes c.in-Eq.is, nodes-Eq c.in-Eq.a c.in-Eq.b),
      (c.requires, (known-first c.args.moves.outs c.in-Eq.a c.in-Eq.b known, known-second c.args.moves.outs c.in-Eq.a c.in-Eq.b known)),
    )

pub passed-passed_row-requires : goal.passed-passed_row-requires
passed-passed_row-requires t c =
    let vs : List Val = c.as_slice.result.now in
    let is = same-relation c.args.u.now c.in-Rel.field-0 c.in-Rel.values vs c.in-Rel.is c.as_slice.ensures in (
      omega (arith, c.decreases, ap nodes is, nodes-Rel c.in-Rel.field-0 vs),
      (c.requires, known-relation c.args.moves.outs c.in-Rel.field-0 vs c.args.u.now is c.requires),
    )

pub passed-passed_row-requires-in-Pred : goal.passed-passed_row-requires-in-Pred
passed-passed_row-requires-in-Pred t c =
    let vs : List Val = c.as_slice-in-Pred.result.now in
    let is = same-predicate c.args.u.now c.in-Pred.field-0 c.in-Pred.values vs c.in-Pred.is c.as_slice-in-Pred.ensures in (
      omega (arith, c.decreases, ap nodes is, nodes-Pred c.in-Pred.field-0 vs),
      (c.requires, known-predicate c.args.moves.outs c.in-Pred.field-0 vs c.args.u.now is c.requires),
    )

-- ---- values
pub passed_row-passed_values-requires : goal.passed_row-passed_values-requires
passed_row-passed_values-requires t c =
    let whole = c.in_ok-whole.ensures {u = tt} in (omega (arith, c.decreases), (record { facts = whole.facts; outs = whole.outs }, c.requires.values))

pub passed_equality-passed_value-requires : goal.passed_equality-passed_value-requires
passed_equality-passed_value-requires t c =
    let whole = c.in_ok-whole.ensures {u = tt} in (omega (arith, c.decreases), (record { facts = whole.facts; outs = whole.outs }, c.requires.a))

pub passed_equality-passed_value-requires-2 : goal.passed_equality-passed_value-requires-2
passed_equality-passed_value-requires-2 t c =
    let half = c.in_ok-half.ensures {u = tt} in (omega (arith, c.decreases), (record { facts = half.facts; outs = half.outs }, c.requires.b))

pub passed_values-passed_value-requires : goal.passed_values-passed_value-requires
passed_values-passed_value-requires t c =
    let vs : List Val = c.args.values.now in
    let i : ℕ = c.loop-index.index in
    let ahead = ahead-at vs i c.index-values-index.result c.loop-index-test.true c.index-values-index.is in (
      omega (arith, c.decreases, item-lighter vs i c.index-values-index.result ahead),
      (
        record { facts = c.loop-index.invariant.facts; outs = c.loop-index.invariant.outs },
        known-at c.args.moves.outs vs i c.index-values-index.result ahead c.requires.known,
      ),
    )

pub passed_value-passed_values-requires : goal.passed_value-passed_values-requires
passed_value-passed_values-requires t c =
    let vs : List Val = c.as_slice-in-Fun.result.now in
    let is = same-function c.args.value.now c.in-Fun.field-0 c.in-Fun.values vs c.in-Fun.is c.as_slice-in-Fun.ensures in (
      omega (arith, c.decreases, function-lighter c.args.value.now c.in-Fun.field-0 vs is),
      (c.requires.by, known-function c.args.moves.outs c.in-Fun.field-0 vs c.args.value.now is c.requires.known),
    )

pub passed_value-passed_opened-requires : goal.passed_value-passed_opened-requires
passed_value-passed_opened-requires t c =
    let is = same-aggregate c.args.value.now c.in-Agg.field-0 c.in-Agg.body c.get.result.now c.in-Agg.is c.get.ensures in (
      omega (arith, c.decreases, ap value_nodes is, nodes-Agg c.in-Agg.field-0 c.get.result.now),
      known-aggregate c.args.moves.outs c.in-Agg.field-0 c.get.result.now c.args.value.now is c.requires.known,
    )

pub passed_parts-passed_parts-requires : goal.passed_parts-passed_parts-requires
passed_parts-passed_parts-requires t c = (
  omega (arith, c.decreases, ap nodes c.in-Add.is, nodes-Add c.in-Add.a c.in-Add.b, ap nodes c.get.ensures),
  subst (λ (u : U). IsKnown 0 c.args.moves.outs u) (sym c.get.ensures) (known-left c.args.moves.outs 0 c.in-Add.a c.in-Add.b (subst (λ (u : U). IsKnown 0 c.args.moves.outs u) c.in-Add.is c.requires)),
)

pub passed_parts-passed_parts-requires-in-Add : goal.passed_parts-passed_parts-requires-in-Add
passed_parts-passed_parts-requires-in-Add t c = (
  omega (arith, c.decreases, ap nodes c.in-Add.is, nodes-Add c.in-Add.a c.in-Add.b, ap nodes c.get-in-Add.ensures),
  subst (λ (u : U). IsKnown 0 c.args.moves.outs u) (sym c.get-in-Add.ensures) (known-right c.args.moves.outs 0 c.in-Add.a c.in-Add.b (subst (λ (u : U). IsKnown 0 c.args.moves.outs u) c.in-Add.is c.requires)),
)

pub passed_factors-passed_factors-requires : goal.passed_factors-passed_factors-requires
passed_factors-passed_factors-requires t c = (
  omega (arith, c.decreases, ap nodes c.in-Mul.is, nodes-Mul c.in-Mul.a c.in-Mul.b, ap nodes c.get.ensures),
  subst (λ (u : U). IsKnown 0 c.args.moves.outs u) (sym c.get.ensures) (known-factor_left c.args.moves.outs 0 c.in-Mul.a c.in-Mul.b (subst (λ (u : U). IsKnown 0 c.args.moves.outs u) c.in-Mul.is c.requires)),
)

pub passed_factors-passed_factors-requires-in-Mul : goal.passed_factors-passed_factors-requires-in-Mul
passed_factors-passed_factors-requires-in-Mul t c = (
  omega (arith, c.decreases, ap nodes c.in-Mul.is, nodes-Mul c.in-Mul.a c.in-Mul.b, ap nodes c.get-in-Mul.ensures),
  subst (λ (u : U). IsKnown 0 c.args.moves.outs u) (sym c.get-in-Mul.ensures) (known-factor_right c.args.moves.outs 0 c.in-Mul.a c.in-Mul.b (subst (λ (u : U). IsKnown 0 c.args.moves.outs u) c.in-Mul.is c.requires)),
)

pub passed_product-passed_factors-requires-2 : goal.passed_product-passed_factors-requires-2
passed_product-passed_factors-requires-2 t c = (omega (arith, c.decreases), c.requires.b)

pub passed_sum-passed_parts-requires-2 : goal.passed_sum-passed_parts-requires-2
passed_sum-passed_parts-requires-2 t c = (omega (arith, c.decreases), c.requires.b)

pub passed_opened-passed-requires : goal.passed_opened-passed-requires
passed_opened-passed-requires t c =
    let e : c.get.result.now ≡ opened c.args.f.now c.args.moves.outs = c.get.ensures ∙ c.in_ok-body.ensures {u = tt} ∙ c.in_ok-opened.ensures {u = tt} in (
      omega (arith, c.decreases, ap nodes e, opened-nodes c.args.f.now c.args.moves.outs),
      subst (λ (m : ℕ). IsKnown 0 m c.get.result.now) (sym c.in_ok-inner.ensures.outs)
          (subst (λ (u : U). IsKnown 0 (c.args.moves.outs + 1) u) (sym e) (known-opened c.args.moves.outs c.args.f.now c.requires)),
    )

pub passed_body-returns : goal.passed_body-returns
passed_body-returns t c =
    let whole : c.in_ok-sum.sum.from ≡ S c.args.f.now =
    (c.in_ok-sum.ensures.ends).from ∙ ap (λ (u : U). S (closed_at u c.args.moves.outs)) (c.in_ok-part.ensures {u = tt}).from ∙ ap (λ (u : U). S u) (body-again c.args.moves.outs c.args.f.now c.requires) in
    if-ok (IsFrom c.args.moves.facts.now c.args.moves.outs c.in_ok-sum.sum.from) (IsFrom c.args.moves.facts.now c.args.moves.outs (S c.args.f.now))
    (λ d h. record { facts = h.facts; outs = h.outs; from = h.from ∙ whole }) c.then_over_values.result c.then_over_values.ensures
