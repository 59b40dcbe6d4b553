-- The walk ends: each call has less work left.
use Rattle.std.proofs.Common.{◌≡◌, ◌+◌, ◌++◌, drop, get_or}
use Rattle.scope_core.specs.Written.{written}
use Rattle.sql_to_u.specs.TermLists.{condition_terms_listed, item_factors_listed, scope_within, source_terms_listed, terms_of, value_terms_listed}
use Rattle.sql_to_u.proofs.terms.Weights.{argument_left, block_weight, condition_weight, conditions_left, entries_left, groups_left, having_left, joined_left, parts_left, query_weight, source_weight, value_weight, values_left, weights_of}
use Rattle.sql_to_u.proofs.building.+build.Given as goal

abbrev pub decreases-block::query_term : goal.decreases-block::query_term
decreases-block::query_term l = query_weight (weights_of l.views.now) l.query.now + groups_left (weights_of l.views.now) l.scope.now

abbrev pub decreases-block::block_term : goal.decreases-block::block_term
decreases-block::block_term l = block_weight (weights_of l.views.now) l.block.now + groups_left (weights_of l.views.now) l.scope.now

abbrev pub decreases-block::plain_term : goal.decreases-block::plain_term
decreases-block::plain_term l = 7 + parts_left (weights_of l.views.now) l.block.now + groups_left (weights_of l.views.now) l.scope.now

abbrev pub decreases-block::one_term : goal.decreases-block::one_term
decreases-block::one_term l = 7 + parts_left (weights_of l.views.now) l.block.now + groups_left (weights_of l.views.now) l.scope.now

abbrev pub decreases-block::keys_term : goal.decreases-block::keys_term
decreases-block::keys_term l = 7 + parts_left (weights_of l.views.now) l.block.now + groups_left (weights_of l.views.now) l.scope.now

abbrev pub decreases-block::some_member : goal.decreases-block::some_member
decreases-block::some_member l = 4 + joined_left (weights_of l.views.now) l.group.now.block.now + groups_left (weights_of l.views.now) l.outer.now

abbrev pub decreases-block::member_factors : goal.decreases-block::member_factors
decreases-block::member_factors l = 3 + joined_left (weights_of l.views.now) l.group.now.block.now + groups_left (weights_of l.views.now) l.outer.now

abbrev pub decreases-block::joined : goal.decreases-block::joined
decreases-block::joined l = 2 + joined_left (weights_of l.views.now) l.block.now + groups_left (weights_of l.views.now) l.scope.now

abbrev pub decreases-source::add_sources : goal.decreases-source::add_sources
decreases-source::add_sources l = 1 + entries_left (weights_of l.views.now) l.entries.now + groups_left (weights_of l.views.now) l.scope.now

abbrev pub decreases-source::source_term : goal.decreases-source::source_term
decreases-source::source_term l = source_weight (weights_of l.views.now) l.source.now + groups_left (weights_of l.views.now) l.scope.now

abbrev pub decreases-source::view_term : goal.decreases-source::view_term
decreases-source::view_term l = 1 + get_or (weights_of l.views.now) l.place 0

abbrev pub decreases-condition::add_conditions : goal.decreases-condition::add_conditions
decreases-condition::add_conditions l = 1 + conditions_left (weights_of l.views.now) l.conditions.now + groups_left (weights_of l.views.now) l.scope.now

abbrev pub decreases-condition::condition_term : goal.decreases-condition::condition_term
decreases-condition::condition_term l = condition_weight (weights_of l.views.now) l.condition.now + groups_left (weights_of l.views.now) l.scope.now

abbrev pub decreases-condition::exists_term : goal.decreases-condition::exists_term
decreases-condition::exists_term l = 1 + query_weight (weights_of l.views.now) l.query.now + groups_left (weights_of l.views.now) l.scope.now

abbrev pub decreases-condition::add_having : goal.decreases-condition::add_having
decreases-condition::add_having l = 1 + having_left (weights_of l.views.now) l.having.now + groups_left (weights_of l.views.now) l.scope.now

abbrev pub decreases-condition::add_condition : goal.decreases-condition::add_condition
decreases-condition::add_condition l = 1 + condition_weight (weights_of l.views.now) l.condition.now + groups_left (weights_of l.views.now) l.scope.now

abbrev pub decreases-value::add_values : goal.decreases-value::add_values
decreases-value::add_values l = 1 + values_left (weights_of l.views.now) l.items.now + groups_left (weights_of l.views.now) l.scope.now

abbrev pub decreases-value::add_items : goal.decreases-value::add_items
decreases-value::add_items l = 2 + values_left (weights_of l.views.now) l.items.now + groups_left (weights_of l.views.now) l.scope.now

abbrev pub decreases-value::value_term : goal.decreases-value::value_term
decreases-value::value_term l = value_weight (weights_of l.views.now) l.value.now + groups_left (weights_of l.views.now) l.scope.now

abbrev pub decreases-value::value_terms : goal.decreases-value::value_terms
decreases-value::value_terms l = 1 + values_left (weights_of l.views.now) l.values.now + groups_left (weights_of l.views.now) l.scope.now

abbrev pub decreases-value::scalar_term : goal.decreases-value::scalar_term
decreases-value::scalar_term l = 1 + block_weight (weights_of l.views.now) l.block.now + groups_left (weights_of l.views.now) l.scope.now

abbrev pub decreases-aggregate::counted_term : goal.decreases-aggregate::counted_term
decreases-aggregate::counted_term l = 3 + argument_left (weights_of l.views.now) l.arg.now + groups_left (weights_of l.views.now) l.scope.now

abbrev pub decreases-aggregate::counted_nowhere : goal.decreases-aggregate::counted_nowhere
decreases-aggregate::counted_nowhere l = 2 + argument_left (weights_of l.views.now) l.arg.now + groups_left (weights_of l.views.now) l.outer.now

abbrev pub decreases-aggregate::counted_members : goal.decreases-aggregate::counted_members
decreases-aggregate::counted_members l = 6 + argument_left (weights_of l.views.now) l.arg.now + joined_left (weights_of l.views.now) l.group.now.block.now + groups_left (weights_of l.views.now) l.outer.now

abbrev pub decreases-aggregate::argument_term : goal.decreases-aggregate::argument_term
decreases-aggregate::argument_term l = 1 + argument_left (weights_of l.views.now) l.arg.now + groups_left (weights_of l.views.now) l.scope.now

-- ---- loops
abbrev pub invariant-source::add_sources-loop-entry : goal.invariant-source::add_sources-loop-entry
invariant-source::add_sources-loop-entry l =
    l.factors.items ++ source_terms_listed (terms_of l.views) (scope_within l.views l.scope) (drop l.entry-index l.entries) l.name l.next
    ≡ l.initial.factors.items ++ source_terms_listed (terms_of l.views) (scope_within l.views l.scope) l.entries l.fn.first l.next

abbrev pub invariant-condition::add_conditions-loop-condition : goal.invariant-condition::add_conditions-loop-condition
invariant-condition::add_conditions-loop-condition l =
    l.factors.items ++ condition_terms_listed (terms_of l.views) (scope_within l.views l.scope) (drop l.condition-index l.conditions) l.next
    ≡ l.initial.factors.items ++ condition_terms_listed (terms_of l.views) (scope_within l.views l.scope) l.conditions l.next

abbrev pub invariant-value::add_values-loop-index : goal.invariant-value::add_values-loop-index
invariant-value::add_values-loop-index l =
    l.factors.items ++ item_factors_listed (terms_of l.views) (scope_within l.views l.scope) (drop l.index l.items) (drop l.index l.row) l.next
    ≡ l.initial.factors.items ++ item_factors_listed (terms_of l.views) (scope_within l.views l.scope) l.items l.row l.next

abbrev pub invariant-value::add_items-loop-part : goal.invariant-value::add_items-loop-part
invariant-value::add_items-loop-part l =
    l.factors.items ++ item_factors_listed (terms_of l.views) (scope_within l.views l.scope) (written (drop l.part-index l.front) l.last) l.rest l.next
    ≡ l.initial.factors.items ++ item_factors_listed (terms_of l.views) (scope_within l.views l.scope) l.items l.row l.next

abbrev pub invariant-value::value_terms-loop-value : goal.invariant-value::value_terms-loop-value
invariant-value::value_terms-loop-value l =
    l.terms.items ++ value_terms_listed (terms_of l.views) (scope_within l.views l.scope) (drop l.value-index l.values) l.next
    ≡ value_terms_listed (terms_of l.views) (scope_within l.views l.scope) l.values l.next
