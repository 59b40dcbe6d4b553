use Rattle.std.proofs.Common.{◌≡◌, ◌++◌, ◌∷◌, ◌+◌, [], drop, length, get_or, ap, sym, subst, arith, ◌∙◌}
use Rattle.std.specs.Prelude.{IfOk, OnOk}
use Rattle.u_terms.specs.declared.term.U.TheVariants as u
use Rattle.std.specs.Option.{option_copied}
use Rattle.scope_core.specs.declared.tree.RBlock.{out-RBlock}
use Rattle.scope_core.proofs.basics.Lists.{walk-step, walk-end}
use Rattle.sql_to_u.specs.TermLists.{condition_terms_listed, item_factors_listed, scope_within, source_terms_listed, terms_of, value_terms_listed}
use Rattle.sql_to_u.specs.Translation.{condition_term, source_term, value_term}
use Rattle.sql_to_u.proofs.terms.TermLaws.{sources-step, sources-end, conditions-cons, conditions-nil, values-cons, values-nil, items_from, item-step, item-skip, item-end, part-step, part-end, view-there, view-past}
use Rattle.sql_to_u.proofs.terms.Weights.{condition-in, entry-in, value-in, first-in, part-in, last-in, values_left, view-weight, weights_of, block-is}
use Rattle.sql_to_u.proofs.building.+build.Goals as goal
use Rattle.sql_to_u.proofs.building.+build.Goals.{value::add_values-then-index-row+in_ok-value_term+in_ok-right+in_ok-push, value::add_values-else-index-row}

pub condition::add_conditions-loop-condition-preserved : goal.condition::add_conditions-loop-condition-preserved
condition::add_conditions-loop-condition-preserved t c =
    let V = terms_of c.args.views.now in
    let S = scope_within c.args.views.now c.args.scope.now in
    let next = c.args.next in
    let x = c.condition-item.result in
    walk-step (λ cs. condition_terms_listed V S cs next) c.args.conditions.now c.loop-condition.condition-index x _ _ (condition_term V x S next ∷ []) _
    c.loop-condition-test.true c.condition-item.is (conditions-cons V S next x _)
    (c.in_ok-push.ensures.items ∙ ap (λ p. c.loop-condition.factors.items ++ p ∷ []) c.in_ok-term.ensures) c.loop-condition.invariant

pub condition::add_conditions-returns : goal.condition::add_conditions-returns
condition::add_conditions-returns t c =
    let V = terms_of c.args.views.now in
    let S = scope_within c.args.views.now c.args.scope.now in
    walk-end (λ cs. condition_terms_listed V S cs c.args.next) c.args.conditions.now c.loop-condition.condition-index _ _ c.loop-condition-test.false (conditions-nil V S c.args.next) c.loop-condition.invariant

pub value::value_terms-loop-value-preserved : goal.value::value_terms-loop-value-preserved
value::value_terms-loop-value-preserved t c =
    let V = terms_of c.args.views.now in
    let S = scope_within c.args.views.now c.args.scope.now in
    let next = c.args.next in
    let x = c.value-item.result in
    walk-step (λ es. value_terms_listed V S es next) c.args.values.now c.loop-value.value-index x _ _ (value_term V x S next ∷ []) _
    c.loop-value-test.true c.value-item.is (values-cons V S next x _)
    (c.in_ok-push.ensures.items ∙ ap (λ p. c.loop-value.terms.items ++ p ∷ []) c.in_ok-term.ensures) c.loop-value.invariant

pub value::value_terms-returns : goal.value::value_terms-returns
value::value_terms-returns t c =
    let V = terms_of c.args.views.now in
    let S = scope_within c.args.views.now c.args.scope.now in
    c.from_vec.ensures
    ∙ walk-end (λ es. value_terms_listed V S es c.args.next) c.args.values.now c.loop-value.value-index _ _ c.loop-value-test.false (values-nil V S c.args.next) c.loop-value.invariant

pub source::add_sources-loop-entry-preserved : goal.source::add_sources-loop-entry-preserved
source::add_sources-loop-entry-preserved t c =
    let V = terms_of c.args.views.now in
    let S = scope_within c.args.views.now c.args.scope.now in
    let next = c.args.next in
    let es = c.args.entries.now in
    let i = c.loop-entry.entry-index in
    let x = c.entry-item.result in
    let row = c.as_slice.ensures.value ∙ c.in_ok-row.ensures in
    ap (λ n. c.push.new.self.items ++ source_terms_listed V S (drop (i + 1) es) n next) c.in_ok-name.ensures
    ∙ sources-step V S es i x c.loop-entry.name next c.loop-entry.factors.items _ _ c.loop-entry-test.true c.entry-item.is
    (c.in_ok-push.ensures.items ∙ ap (λ p. c.loop-entry.factors.items ++ p ∷ [])
    (c.in_ok-term.ensures ∙ (λ j. source_term V x.source S (row j) next))) c.loop-entry.invariant

pub source::add_sources-returns : goal.source::add_sources-returns
source::add_sources-returns t c =
    let V = terms_of c.args.views.now in
    let S = scope_within c.args.views.now c.args.scope.now in
    sources-end V S c.args.entries.now c.loop-entry.entry-index c.loop-entry.name c.args.next _ _ c.loop-entry-test.false c.loop-entry.invariant

pub value::add_values-loop-index-preserved : goal.value::add_values-loop-index-preserved
value::add_values-loop-index-preserved t c =
    let V = terms_of c.args.views.now in
    let S = scope_within c.args.views.now c.args.scope.now in
    let next = c.args.next in
    let xs = c.args.items.now in
    let row = c.args.row.now in
    let i = c.loop-index.index in
    let x = c.index-items-index.result in
    elim c.if-index-row.branch [
      | value::add_values-then-index-row+in_ok-value_term+in_ok-right+in_ok-push w ↦
          let left = w.into_inner.ensures ∙ w.new-left.ensures ∙ w.in_ok-value_term.ensures in
          let right = w.in_ok-right.ensures ∙ w.index-row-index.is in
          ap (λ v. v.items ++ items_from V S xs row next (i + 1)) w.factors-is
          ∙ item-step V S xs row next i x w.index-row-index.result c.loop-index.factors.items _ _ c.loop-index-test.true c.index-items-index.is w.if-index-row.true
          (w.in_ok-push.ensures.items ∙ (λ j. c.loop-index.factors.items ++ u.Eq (left j) (right j) ∷ [])) c.loop-index.invariant
      | value::add_values-else-index-row w ↦
          ap (λ v. v.items ++ items_from V S xs row next (i + 1)) w.factors-is
          ∙ item-skip V S xs row next i c.loop-index.factors.items _ w.if-index-row.false c.loop-index.invariant
    ]

pub value::add_values-returns : goal.value::add_values-returns
value::add_values-returns t c =
    item-end (terms_of c.args.views.now) (scope_within c.args.views.now c.args.scope.now) c.args.items.now c.args.row.now c.args.next c.loop-index.index _ _ c.loop-index-test.false c.loop-index.invariant

pub value::add_items-loop-part-preserved : goal.value::add_items-loop-part-preserved
value::add_items-loop-part-preserved t c =
    let V = terms_of c.args.views.now in
    let S = scope_within c.args.views.now c.args.scope.now in
    let next = c.args.next in
    let row = c.loop-part.rest.now in
    let made = c.loop-part.factors.items in
    let values = c.as_slice-values.ensures ∙ c.get.ensures in
    part-step V S c.parts.result.before.now c.loop-part.part-index c.part-item.result c.parts.result.last.now row _ next made _ _ c.loop-part-test.true c.part-item.is
    (c.in_ok-add_values.ensures ∙ ap (λ xs. made ++ item_factors_listed V S xs row next) values)
    (c.after-rest.ensures ∙ ap (λ xs. drop (length xs) row) values) c.loop-part.invariant

pub value::add_items-returns : goal.value::add_items-returns
value::add_items-returns t c =
    let V = terms_of c.args.views.now in
    let S = scope_within c.args.views.now c.args.scope.now in
    let end = part-end V S c.parts.result.before.now c.loop-part.part-index c.parts.result.last.now c.loop-part.rest.now c.args.next c.loop-part.factors.items _ c.loop-part-test.false c.loop-part.invariant in
    subst (λ factors. OnOk c.add_values-2.result (c.add_values-2.new.factors.items ≡ factors)) end c.add_values-2.ensures

-- ---- less work is left
pub condition::add_conditions-condition_term-requires : goal.condition::add_conditions-condition_term-requires
condition::add_conditions-condition_term-requires t c =
    let h = condition-in (weights_of c.args.views.now) c.args.conditions.now c.loop-condition.condition-index c.condition-item.result c.loop-condition-test.true c.condition-item.is in
    omega (arith, h, c.decreases)

pub source::add_sources-source_term-requires : goal.source::add_sources-source_term-requires
source::add_sources-source_term-requires t c =
    let h = entry-in (weights_of c.args.views.now) c.args.entries.now c.loop-entry.entry-index c.entry-item.result c.loop-entry-test.true c.entry-item.is in
    omega (arith, h, c.decreases)

pub value::value_terms-value_term-requires : goal.value::value_terms-value_term-requires
value::value_terms-value_term-requires t c =
    let h = value-in (weights_of c.args.views.now) c.args.values.now c.loop-value.value-index c.value-item.result c.loop-value-test.true c.value-item.is in
    omega (arith, h, c.decreases)

pub value::add_values-value_term-requires : goal.value::add_values-value_term-requires
value::add_values-value_term-requires t c =
    let h = value-in (weights_of c.args.views.now) c.args.items.now c.loop-index.index c.index-items-index.result c.loop-index-test.true c.index-items-index.is in
    omega (arith, h, c.decreases)

pub value::add_items-add_values-requires : goal.value::add_items-add_values-requires
value::add_items-add_values-requires t c =
    let W = weights_of c.args.views.now in
    let within = part-in W c.parts.result.before.now c.parts.result.last.now c.loop-part.part-index c.part-item.result c.loop-part-test.true c.part-item.is in
    let values = ap (values_left W) (c.as_slice-values.ensures ∙ c.get.ensures) in
    let whole = ap (values_left W) c.parts.ensures in
    (omega (arith, within, values, whole, c.decreases), tt)

pub value::add_items-add_values-requires-2 : goal.value::add_items-add_values-requires-2
value::add_items-add_values-requires-2 t c =
    let W = weights_of c.args.views.now in
    let within = last-in W c.parts.result.before.now c.parts.result.last.now in
    let whole = ap (values_left W) c.parts.ensures in
    (omega (arith, within, whole, c.decreases), tt)

pub value::scalar_term-value_term-requires : goal.value::scalar_term-value_term-requires
value::scalar_term-value_term-requires t c =
    let W = weights_of c.args.views.now in
    let h = first-in W (out-RBlock c.args.block.now).items c.in-Some.item.now (sym c.first.ensures ∙ ap option_copied c.in-Some.is) in
    let b = block-is W c.args.block.now in
    omega (arith, h, b, c.decreases)

-- ---- a view, over the views before it
pub source::view_term-returns-then-place-views : goal.source::view_term-returns-then-place-views
source::view_term-returns-then-place-views t c =
    sym (ap (λ f. f c.args.row.now c.args.next) (view-past c.args.views.now c.args.place c.if-place-views.true))

pub source::view_term-query_term-requires : goal.source::view_term-query_term-requires
source::view_term-query_term-requires t c =
    let trees = c.args.views.now in
    let tree = c.tree-tree.result.now in
    let is = subst (λ y. y ≡ get_or trees c.args.place y) (sym c.tree-tree.ensures.value) c.index-views-place.is in
    let h = view-weight trees c.args.place tree c.if-place-views.false is in
    (omega (arith, h, c.decreases), tt)

pub source::view_term-returns : goal.source::view_term-returns
source::view_term-returns t c =
    let trees = c.args.views.now in
    let is = subst (λ y. y ≡ get_or trees c.args.place y) (sym c.tree-tree.ensures.value) c.index-views-place.is in
    let there = view-there trees c.args.place c.tree-tree.result.now c.if-place-views.false is in
    subst (λ q. IfOk c.query_term.result (λ term. term ≡ q)) (sym (ap (λ f. f c.args.row.now c.args.next) there)) c.query_term.ensures
