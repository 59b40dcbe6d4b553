-- When a database meets a schema: each row has its table's width and values of the domain, no two rows of a table agree on a key, and each
-- foreign key finds a row (SQL, ISO/IEC 9075-2, 11.7 unique constraint definition and 11.8 referential constraint definition, over columns
-- without nulls).
use Rattle.std.specs.Prelude.{ℕ, List, map, length, filter_map, Option, Some, None}
use Rattle.data_model.specs.Database.{Database, TableConstraints, ReferentialConstraint, MeetsConstraints}
use Rattle.sql_model.specs.declared.schema.Schema.{Schema}
use Rattle.sql_model.specs.declared.schema.Table.{Table}
use Rattle.sql_model.specs.declared.schema.Fkey.{Fkey}
use Rattle.sql_model.specs.declared.schema.Relation.TheVariants as relation
use Rattle.sql_model.specs.Relations.{Relation}

abbrev pub base_table : Relation → Option Table
base_table (relation.Table table) = Some table
base_table (relation.View query at) = None

-- in order of declaration
abbrev pub base_tables : Schema → List Table
base_tables schema = filter_map (λ r. base_table r.1) schema.relations.entries

abbrev pub table_constraints : Table → TableConstraints
table_constraints table = record { number = table.number; width = length table.columns; keys = table.keys }

abbrev pub referential_constraint : Fkey → ReferentialConstraint
referential_constraint fkey = record { from = fkey.from; columns = fkey.cols; to = fkey.to; key = fkey.key }

abbrev pub Meets : Schema → ℕ → Database → Type 0
Meets schema n db = MeetsConstraints n db (map table_constraints (base_tables schema)) (map referential_constraint schema.fkeys)
