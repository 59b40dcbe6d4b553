use Rattle.std.proofs.Common.{◌≡◌, ◌++◌, Bool, drop}
use Rattle.std.specs.List.{flat_map}
use Rattle.sql_model.specs.Syntax.{Name}
use Rattle.scope_core.specs.declared.relation_set.RelationSet.{RelationSet}
use Rattle.scope_core.specs.Directed.{AreDirected, headings_in}
use Rattle.scope_core.specs.Ropes.{AreDirectedParts, columns_listed}
use Rattle.scope_core.proofs.sources.all_columns.Given as goal

abbrev pub invariant-loop-entry : goal.invariant-loop-entry
invariant-loop-entry l =
    (columns_listed l.all ++ flat_map (λ h. h.columns) (headings_in (drop l.entry-index l.entries)) ≡ flat_map (λ h. h.columns) (headings_in l.entries))
    × ((declared : Name → RelationSet) (outside : Name → Bool) → AreDirected declared outside l.entries → AreDirectedParts declared outside l.all)
