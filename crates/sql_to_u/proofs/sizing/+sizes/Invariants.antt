use Rattle.std.proofs.Common.{◌≡◌, ◌+◌, ◌*◌, drop}
use Rattle.scope_core.specs.Written.{written}
use Rattle.sql_to_u.specs.Sizes.{with_factors}
use Rattle.sql_to_u.specs.Listed.{condition_sizes_listed, item_sizes_listed, row_sizes, source_sizes_listed, values_size_listed}
use Rattle.sql_to_u.proofs.sizing.+sizes.Given as goal

abbrev pub invariant-block::add_sources-loop-entry : goal.invariant-block::add_sources-loop-entry
invariant-block::add_sources-loop-entry l =
    with_factors l.factors (source_sizes_listed l.views (drop l.entry-index l.entries)) ≡ with_factors l.fn.before (source_sizes_listed l.views l.entries)

abbrev pub invariant-condition::add_conditions-loop-condition : goal.invariant-condition::add_conditions-loop-condition
invariant-condition::add_conditions-loop-condition l =
    with_factors l.factors (condition_sizes_listed l.views l.group (drop l.condition-index l.conditions))
    ≡ with_factors l.fn.before (condition_sizes_listed l.views l.group l.conditions)

abbrev pub invariant-value::add_values-loop-index : goal.invariant-value::add_values-loop-index
invariant-value::add_values-loop-index l =
    with_factors l.factors (item_sizes_listed l.views l.group (drop l.index l.items) (drop l.index (row_sizes l.row)))
    ≡ with_factors l.fn.before (item_sizes_listed l.views l.group l.items (row_sizes l.row))

abbrev pub invariant-value::values_size-loop-value : goal.invariant-value::values_size-loop-value
invariant-value::values_size-loop-value l =
    values_size_listed l.views l.group (drop l.value-index l.values) l.whole ≡ values_size_listed l.views l.group l.values l.fn.before

abbrev pub invariant-value::add_items-loop-part : goal.invariant-value::add_items-loop-part
invariant-value::add_items-loop-part l =
    with_factors l.factors (item_sizes_listed l.views l.group (written (drop l.part-index l.front) l.last) (row_sizes l.rest))
    ≡ with_factors l.fn.before (item_sizes_listed l.views l.group l.items (row_sizes l.fn.row))

-- ---- the walk ends: it goes down the trees, and at one depth from a block to its parts, from a row to its parts, and from a list to its members
abbrev pub decreases-block::query_size : goal.decreases-block::query_size
decreases-block::query_size l = 4 * goal.size-block::query_size l

abbrev pub decreases-block::block_size : goal.decreases-block::block_size
decreases-block::block_size l = 4 * goal.size-block::block_size l + 3

abbrev pub decreases-block::plain_size : goal.decreases-block::plain_size
decreases-block::plain_size l = 4 * goal.size-block::plain_size l + 2

abbrev pub decreases-block::one_size : goal.decreases-block::one_size
decreases-block::one_size l = 4 * goal.size-block::one_size l + 2

abbrev pub decreases-block::keys_size : goal.decreases-block::keys_size
decreases-block::keys_size l = 4 * goal.size-block::keys_size l + 2

abbrev pub decreases-block::joined_size : goal.decreases-block::joined_size
decreases-block::joined_size l = 4 * goal.size-block::joined_size l + 1

abbrev pub decreases-block::add_sources : goal.decreases-block::add_sources
decreases-block::add_sources l = 4 * goal.size-block::add_sources l + 1

abbrev pub decreases-block::source_size : goal.decreases-block::source_size
decreases-block::source_size l = 4 * goal.size-block::source_size l

abbrev pub decreases-condition::add_conditions : goal.decreases-condition::add_conditions
decreases-condition::add_conditions l = 4 * goal.size-condition::add_conditions l + 1

abbrev pub decreases-condition::condition_size : goal.decreases-condition::condition_size
decreases-condition::condition_size l = 4 * goal.size-condition::condition_size l

abbrev pub decreases-condition::add_having : goal.decreases-condition::add_having
decreases-condition::add_having l = 4 * goal.size-condition::add_having l + 1

abbrev pub decreases-value::add_items : goal.decreases-value::add_items
decreases-value::add_items l = 4 * goal.size-value::add_items l + 2

abbrev pub decreases-value::add_values : goal.decreases-value::add_values
decreases-value::add_values l = 4 * goal.size-value::add_values l + 1

abbrev pub decreases-value::value_size : goal.decreases-value::value_size
decreases-value::value_size l = 4 * goal.size-value::value_size l

abbrev pub decreases-value::argument_size : goal.decreases-value::argument_size
decreases-value::argument_size l = 4 * goal.size-value::argument_size l + 1

abbrev pub decreases-value::values_size : goal.decreases-value::values_size
decreases-value::values_size l = 4 * goal.size-value::values_size l + 1

abbrev pub decreases-value::scalar_size : goal.decreases-value::scalar_size
decreases-value::scalar_size l = 4 * goal.size-value::scalar_size l + 2
