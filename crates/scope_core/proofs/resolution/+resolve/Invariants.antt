use Rattle.std.proofs.Common.{◌≡◌, ◌++◌, ◌≤◌, [], None, drop, take, length, map, vec_capacity, vec_len}
use Rattle.std.specs.Prelude.{IfSome}
use Rattle.scope_core.specs.Lent.{entries_headings, headings_of, levels_of, relations_of}
use Rattle.scope_core.specs.Parts.{conditions_listed, conjuncts_listed, entries_fault, entries_listed, items_fault, items_listed, on_fault, on_listed, truths_fault, value_fault, values_fault, values_listed}
use Rattle.scope_core.specs.Resolving.{resolved_value}
use Rattle.scope_core.specs.Scope.{Level, no_entry, AsRows}
use Rattle.scope_core.proofs.resolution.+resolve.Given as goal

abbrev pub invariant-values::resolve_values-loop-expr : goal.invariant-values::resolve_values-loop-expr
invariant-values::resolve_values-loop-expr l =
    (values_fault (relations_of l.known) (levels_of l.levels) (drop l.expr-index l.exprs) ≡ values_fault (relations_of l.known) (levels_of l.levels) l.exprs)
    × (l.values.items ++ values_listed (relations_of l.known) (levels_of l.levels) (drop l.expr-index l.exprs) ≡ values_listed (relations_of l.known) (levels_of l.levels) l.exprs)
    × (vec_len l.values ≡ l.expr-index) × (length l.exprs ≤ vec_capacity l.values)

abbrev pub invariant-conditions::resolve_conditions-loop-part : goal.invariant-conditions::resolve_conditions-loop-part
invariant-conditions::resolve_conditions-loop-part l =
    (truths_fault (relations_of l.known) (levels_of l.levels) (drop l.part-index l.parts) ≡ truths_fault (relations_of l.known) (levels_of l.levels) l.parts)
    × (l.conditions.items ++ conditions_listed (relations_of l.known) (levels_of l.levels) (drop l.part-index l.parts) ≡ conditions_listed (relations_of l.known) (levels_of l.levels) l.parts)
    × IfSome l.before (λ o. value_fault (relations_of l.known) (levels_of l.levels) o.expr ≡ None)
    × IfSome l.before (λ o. o.value ≡ resolved_value o.expr (relations_of l.known) (levels_of l.levels))
    × (vec_len l.conditions ≡ l.part-index) × (length l.parts ≤ vec_capacity l.conditions)

abbrev pub invariant-conditions::add_conjuncts_of_each-loop-part : goal.invariant-conditions::add_conjuncts_of_each-loop-part
invariant-conditions::add_conjuncts_of_each-loop-part l =
    (truths_fault (relations_of l.known) (levels_of l.levels) (drop l.part-index l.parts) ≡ truths_fault (relations_of l.known) (levels_of l.levels) l.parts)
    × (l.conditions.items ++ conjuncts_listed (relations_of l.known) (levels_of l.levels) (drop l.part-index l.parts) ≡ l.initial.conditions.items ++ conjuncts_listed (relations_of l.known) (levels_of l.levels) l.parts)

abbrev pub invariant-blocks::resolve_entries-loop-entry : goal.invariant-blocks::resolve_entries-loop-entry
invariant-blocks::resolve_entries-loop-entry l =
    (entries_fault (relations_of l.known) (levels_of l.levels) (map (λ h. h.alias) l.headings.items) (drop l.entry-index l.entries) ≡ entries_fault (relations_of l.known) (levels_of l.levels) [] l.entries)
    × (l.resolved.items ++ entries_listed (relations_of l.known) (levels_of l.levels) (drop l.entry-index l.entries) ≡ entries_listed (relations_of l.known) (levels_of l.levels) l.entries)
    × (l.headings.items ++ entries_headings (drop l.entry-index l.entries) (headings_of l.known) ≡ entries_headings l.entries (headings_of l.known))
    × (vec_len l.resolved ≡ l.entry-index) × (vec_len l.headings ≡ l.entry-index)
    × (length l.entries ≤ vec_capacity l.resolved) × (length l.entries ≤ vec_capacity l.headings)

abbrev pub invariant-blocks::add_on_conditions-loop-index : goal.invariant-blocks::add_on_conditions-loop-index
invariant-blocks::add_on_conditions-loop-index l =
    let before : Level = record { first = l.first; headings = drop l.first (take l.index l.headings); sight = AsRows } in
    (on_fault (relations_of l.known) (levels_of l.levels) l.index before (drop l.index l.entries) ≡ on_fault (relations_of l.known) (levels_of l.levels) 0 no_entry l.entries)
    × (l.conditions.items ++ on_listed (relations_of l.known) (levels_of l.levels) l.index before (drop l.index l.entries) ≡ l.initial.conditions.items ++ on_listed (relations_of l.known) (levels_of l.levels) 0 no_entry l.entries)
    × (l.first ≤ l.index)

abbrev pub invariant-blocks::resolve_items-loop-item : goal.invariant-blocks::resolve_items-loop-item
invariant-blocks::resolve_items-loop-item l =
    (items_fault (relations_of l.known) (levels_of l.levels) (length l.values) (drop l.item-index l.items) ≡ items_fault (relations_of l.known) (levels_of l.levels) 0 l.items)
    × (l.values ++ items_listed (relations_of l.known) (levels_of l.levels) (drop l.item-index l.items) ≡ items_listed (relations_of l.known) (levels_of l.levels) l.items)
