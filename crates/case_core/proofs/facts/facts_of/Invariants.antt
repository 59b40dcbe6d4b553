use Rattle.std.proofs.Common.{◌≡◌, ◌++◌, List, length, map, filter_map}
use Rattle.sql_model.specs.Syntax.{Name}
use Rattle.sql_model.specs.declared.schema.Table.{Table}
use Rattle.sql_model.specs.Meets.{base_table, base_tables}
use Rattle.sql_model.specs.Relations.{Relation}
use Rattle.case_core.proofs.facts.facts_of.Given as goal

-- the base tables of the relations that are still to come
abbrev tables_of : List (Name × Relation) → List Table
tables_of relations = filter_map (λ r. base_table r.1) relations

abbrev pub invariant-loop-relation : goal.invariant-loop-relation
invariant-loop-relation l =
    (goal.iterator-loop-relation).can_next l.relation-iterator × (goal.iterator-loop-relation).is_finite l.relation-iterator
    × (l.widths ++ map (λ table. length table.columns) (tables_of l.relation-iterator) ≡ map (λ table. length table.columns) (base_tables l.schema))
    × (l.keys ++ map (λ table. table.keys) (tables_of l.relation-iterator) ≡ map (λ table. table.keys) (base_tables l.schema))
