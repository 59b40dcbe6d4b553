-- What the relations of a schema show on a database, in order of declaration. A base table shows its rows. A view shows the rows of its
-- query, which is evaluated by itself over the relations declared before it; an index is a view of its table.
use Rattle.std.specs.Prelude.{ℕ, List, [], ◌∷◌, ◌++◌, map, Option, Some}
use Rattle.std.specs.Map.{lookup}
use Rattle.data_model.specs.Rows.{Row}
use Rattle.data_model.specs.Reading.{Reading}
use Rattle.data_model.specs.Database.{Database, table_rows}
use Rattle.sql_model.specs.declared.schema.Schema.{Schema}
use Rattle.sql_model.specs.declared.schema.Relation.{Relation as TheRelation}
use Rattle.sql_model.specs.declared.schema.Relation.TheVariants as relation
use Rattle.sql_model.specs.Syntax.{Name, Query}
use Rattle.sql_model.specs.Frames.{ColumnName}
use Rattle.sql_model.specs.Columns.{same_name}
use Rattle.sql_model.specs.Headings.{output_columns}
use Rattle.sql_model.specs.World.{ShownRelation, World, relation_headings}
use Rattle.sql_model.specs.Meaning.{rows}

abbrev pub Relation : Type 0
Relation = TheRelation

-- the first relation of this name
abbrev pub relation_named : Name → List (Name × Relation) → Option Relation
relation_named name relations = lookup (same_name name) relations

abbrev pub world_of : ℕ → Reading → List ShownRelation → World
world_of n reading relations = record { size = n; reading = reading; relations = relations }

abbrev pub relation_columns : World → Relation → List ColumnName
relation_columns before (relation.Table table) = map Some table.columns
relation_columns before (relation.View query at) = output_columns query (relation_headings before)

abbrev pub relation_rows : Database → World → Relation → List Row
relation_rows db before (relation.Table table) = table_rows db table.number
relation_rows db before (relation.View query at) = rows query before []

abbrev pub shown_relation : Database → World → Name → Relation → ShownRelation
shown_relation db before name r = record { name = name; columns = relation_columns before r; rows = relation_rows db before r }

-- these relations, after those that are shown already
abbrev pub shown_relations : ℕ → Reading → Database → List ShownRelation → List (Name × Relation) → List ShownRelation
shown_relations n reading db earlier [] = earlier
shown_relations n reading db earlier (r ∷ rest) =
    shown_relations n reading db (earlier ++ shown_relation db (world_of n reading earlier) r.0 r.1 ∷ []) rest

-- the world of a schema on a database
abbrev pub world : Schema → ℕ → Reading → Database → World
world schema n reading db = world_of n reading (shown_relations n reading db [] schema.relations.entries)

-- the rows of a query that stands by itself
abbrev pub answer : Schema → ℕ → Reading → Database → Query → List Row
answer schema n reading db query = rows query (world schema n reading db) []
