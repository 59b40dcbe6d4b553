-- The relations of a schema as queries can name them, in order of declaration. A view sees the relations declared before it.
use Rattle.std.specs.Prelude.{ℕ, ◌+◌, List, [], ◌∷◌, ◌++◌, map, Some}
use Rattle.sql_model.specs.Syntax.{Name}
use Rattle.sql_model.specs.Headings.{output_columns}
use Rattle.sql_model.specs.declared.schema.Schema.{Schema}
use Rattle.sql_model.specs.declared.schema.Relation.TheVariants as relation
use Rattle.sql_model.specs.Relations.{Relation}
use Rattle.scope_core.specs.Scope.{Known, heading}
use Rattle.scope_core.specs.declared.tree.RSource.TheVariants as s

-- a relation after those that are known, so many of which are views
abbrev pub known_relation : List Known → ℕ → Name → Relation → Known
known_relation known views name (relation.Table table) = record { name = name; columns = map Some table.columns; source = s.Table table.number }
known_relation known views name (relation.View query at) =
    record { name = name; columns = output_columns query (map heading known); source = s.View views }

abbrev pub known_with : List Known → ℕ → Name → Relation → List Known
known_with known views name r = known ++ known_relation known views name r ∷ []

abbrev pub count_views : Relation → ℕ
count_views (relation.Table table) = 0
count_views (relation.View query at) = 1

-- all of these, after those that are known
abbrev pub known_relations : List Known → ℕ → List (Name × Relation) → List Known
known_relations known views [] = known
known_relations known views (r ∷ rest) = known_relations (known_with known views r.0 r.1) (views + count_views r.1) rest

abbrev pub known_of : Schema → List Known
known_of schema = known_relations [] 0 schema.relations.entries
