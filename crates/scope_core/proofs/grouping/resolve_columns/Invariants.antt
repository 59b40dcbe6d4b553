use Rattle.std.proofs.Common.{◌≡◌, ◌++◌, ◌∷◌, drop}
use Rattle.scope_core.specs.Lent.{levels_of}
use Rattle.scope_core.specs.Parts.{columns_fault, places_listed}
use Rattle.scope_core.specs.Scope.{rows_level}
use Rattle.scope_core.proofs.grouping.resolve_columns.Given as goal

abbrev pub invariant-loop-column : goal.invariant-loop-column
invariant-loop-column l =
    (columns_fault (rows_level l.headings ∷ levels_of l.levels) (drop l.column-index l.columns)
    ≡ columns_fault (rows_level l.headings ∷ levels_of l.levels) l.columns)
    × (l.places.items ++ places_listed l.headings (drop l.column-index l.columns) ≡ places_listed l.headings l.columns)
