use denote.Param.Weighed.{most}
use Rattle.std.proofs.Common.{◌+◌, drop, length, ap, sym, arith, ◌∙◌}
use Rattle.scope_core.proofs.tree.RVal.TheLaws.{the_size}
use Rattle.sql_to_u.specs.Sizes.{condition_size, source_size, beside, both, with_factor, with_factors}
use Rattle.sql_to_u.specs.Listed.{condition_sizes_listed, item_sizes_listed, row_sizes, source_sizes_listed}
use Rattle.sql_to_u.proofs.sizes.SizeLaws.{sources-cons, sources-nil, conditions-cons, conditions-nil, factors-step, factors-end, items_from, item-step, item-skip, item-end, part-step, part-end, part-most, last-most, values-step, values-end}
use Rattle.sql_to_u.proofs.sizing.+sizes.Goals.{value::add_values-in-Some, value::add_values-in_default}
use Rattle.sql_to_u.proofs.sizing.+sizes.Goals as goal

pub block::add_sources-loop-entry-preserved : goal.block::add_sources-loop-entry-preserved
block::add_sources-loop-entry-preserved t c =
    let V = c.args.views.now in
    let x = c.entry-item.result in
    factors-step (source_sizes_listed V) c.args.entries.now c.loop-entry.entry-index x (source_size V x.source x.width) _ _ _ c.loop-entry-test.true c.entry-item.is (sources-cons V x _)
    (c.with-factors.ensures ∙ ap (with_factor c.loop-entry.factors) c.source_size.ensures) c.loop-entry.invariant

pub block::add_sources-returns : goal.block::add_sources-returns
block::add_sources-returns t c =
    factors-end (source_sizes_listed c.args.views.now) c.args.entries.now c.loop-entry.entry-index _ _ c.loop-entry-test.false (sources-nil c.args.views.now) c.loop-entry.invariant

pub condition::add_conditions-loop-condition-preserved : goal.condition::add_conditions-loop-condition-preserved
condition::add_conditions-loop-condition-preserved t c =
    let V = c.args.views.now in
    let m = c.args.group in
    let x = c.condition-item.result in
    factors-step (condition_sizes_listed V m) c.args.conditions.now c.loop-condition.condition-index x (condition_size V x m) _ _ _ c.loop-condition-test.true c.condition-item.is (conditions-cons V m x _)
    (c.with-factors.ensures ∙ ap (with_factor c.loop-condition.factors) c.condition_size.ensures) c.loop-condition.invariant

pub condition::add_conditions-returns : goal.condition::add_conditions-returns
condition::add_conditions-returns t c =
    factors-end (condition_sizes_listed c.args.views.now c.args.group) c.args.conditions.now c.loop-condition.condition-index _ _ c.loop-condition-test.false (conditions-nil c.args.views.now c.args.group) c.loop-condition.invariant

pub value::values_size-loop-value-preserved : goal.value::values_size-loop-value-preserved
value::values_size-loop-value-preserved t c =
    values-step c.args.views.now c.args.group c.args.values.now c.loop-value.value-index c.value-item.result c.loop-value.whole _ _ c.loop-value-test.true c.value-item.is
    (c.beside-whole.ensures ∙ ap (beside c.loop-value.whole) c.value_size.ensures) c.loop-value.invariant

pub value::values_size-returns : goal.value::values_size-returns
value::values_size-returns t c = values-end c.args.views.now c.args.group c.args.values.now c.loop-value.value-index _ _ c.loop-value-test.false c.loop-value.invariant

pub value::add_values-returns : goal.value::add_values-returns
value::add_values-returns t c =
    item-end c.args.views.now c.args.group c.args.items.now (row_sizes c.args.row) c.loop-index.index _ _ c.loop-index-test.false c.loop-index.invariant

pub value::add_values-loop-index-preserved : goal.value::add_values-loop-index-preserved
value::add_values-loop-index-preserved t c =
    let V = c.args.views.now in
    let m = c.args.group in
    let xs = c.args.items.now in
    let row = row_sizes c.args.row in
    let i = c.loop-index.index in
    let x = c.index-items-index.result in
    elim c.match-get.branch [
      | value::add_values-in-Some w ↦
          let made = w.with-factors.ensures ∙ ap (with_factor c.loop-index.factors) (w.both.ensures ∙ ap (λ s. both s w.in-Some.size) w.value_size.ensures) in
          ap (λ p. with_factors p (items_from V m xs row (i + 1))) w.factors-is
          ∙ item-step V m xs row i x w.in-Some.size c.loop-index.factors _ _ c.loop-index-test.true c.index-items-index.is (sym w.in-Some.is ∙ c.get.ensures) made c.loop-index.invariant
      | value::add_values-in_default w ↦
          ap (λ p. with_factors p (items_from V m xs row (i + 1))) w.factors-is
          ∙ item-skip V m xs row i c.loop-index.factors _ (sym w.in_default.is ∙ c.get.ensures) c.loop-index.invariant
    ]

pub value::add_items-loop-part-preserved : goal.value::add_items-loop-part-preserved
value::add_items-loop-part-preserved t c =
    let V = c.args.views.now in
    let m = c.args.group in
    let row = row_sizes c.loop-part.rest in
    let values = c.as_slice-values.ensures ∙ c.get.ensures in
    part-step V m _ c.loop-part.part-index c.part-item.result _ row _ c.loop-part.factors _ _ c.loop-part-test.true c.part-item.is
    (c.add_values-factors.ensures ∙ ap (λ xs. with_factors c.loop-part.factors (item_sizes_listed V m xs row)) values)
    (c.after-rest.ensures ∙ ap (λ xs. drop (length xs) row) values) c.loop-part.invariant

pub value::add_items-returns : goal.value::add_items-returns
value::add_items-returns t c =
    c.add_values.ensures ∙ part-end c.args.views.now c.args.group _ c.loop-part.part-index _ (row_sizes c.loop-part.rest) c.loop-part.factors _ c.loop-part-test.false c.loop-part.invariant

-- ---- no part is deeper than the row
pub value::add_items-add_values-factors-requires : goal.value::add_items-add_values-factors-requires
value::add_items-add_values-factors-requires t c =
    let within = part-most (λ x. the_size x) c.parts.result.before.now c.parts.result.last.now c.loop-part.part-index c.part-item.result c.loop-part-test.true c.part-item.is in
    let values = ap (most (λ x. the_size x)) (c.as_slice-values.ensures ∙ c.get.ensures) in
    let whole = ap (most (λ x. the_size x)) c.parts.ensures in
    (omega (arith, within, values, whole, c.decreases), tt)

pub value::add_items-add_values-requires : goal.value::add_items-add_values-requires
value::add_items-add_values-requires t c =
    let within = last-most (λ x. the_size x) c.parts.result.before.now c.parts.result.last.now in
    let whole = ap (most (λ x. the_size x)) c.parts.ensures in
    (omega (arith, within, whole, c.decreases), tt)
