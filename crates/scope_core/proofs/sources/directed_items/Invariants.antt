use Rattle.std.proofs.Common.{◌≡◌, ◌++◌, drop}
use Rattle.sql_model.specs.Syntax.{Name}
use Rattle.scope_core.specs.declared.relation_set.RelationSet.{RelationSet}
use Rattle.scope_core.specs.Directed.{AreDirected, Widens, headings_in}
use Rattle.scope_core.specs.Lent.{list_columns}
use Rattle.scope_core.specs.Names.{is_one_of, names_of}
use Rattle.scope_core.specs.Ropes.{AreDirectedParts, columns_listed}
use Rattle.scope_core.proofs.sources.directed_items.Given as goal

abbrev pub invariant-loop-item : goal.invariant-loop-item
invariant-loop-item l =
    (l.sources ≡ l.initial.sources)
    × ((columns_listed l.parts ++ names_of l.values.items) ++ list_columns (drop l.item-index l.items) (headings_in l.sources)
    ≡ list_columns l.items (headings_in l.sources))
    × ((declared : Name → RelationSet) → AreDirected declared (is_one_of l.initial.outside.items) l.sources
    → AreDirectedParts declared (is_one_of l.outside.items) l.parts)
    × Widens (is_one_of l.initial.outside.items) (is_one_of l.outside.items)
