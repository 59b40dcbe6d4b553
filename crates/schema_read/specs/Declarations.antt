-- What each statement declares, seen with the statements before it and with all of them.
use Rattle.std.specs.Prelude.{ℕ, ◌≤◌, ◌<◌, ◌^◌, Bool, true, false, ◌&&◌, if◌then◌else◌, List, [], ◌++◌, length, filter, Option, Some, None, option_and_then, unwrap_or}
use Rattle.std.specs.List.{filter_map, flat_map}
use Rattle.std.specs.Map.{lookup}
use Rattle.sql_model.specs.declared.statement.TableRule.{TableRule}
use Rattle.sql_model.specs.declared.statement.Statement.{Statement}
use Rattle.sql_model.specs.declared.statement.Statement.TheVariants as statement
use Rattle.sql_model.specs.declared.schema.Table.{Table}
use Rattle.sql_model.specs.declared.schema.Fkey.{Fkey}
use Rattle.sql_model.specs.declared.schema.Relation.TheVariants as relation
use Rattle.sql_model.specs.Syntax.{Name}
use Rattle.sql_model.specs.Columns.{same_name}
use Rattle.sql_model.specs.Relations.{Relation}
use Rattle.schema_read.specs.Order.{map_along}
use Rattle.schema_read.specs.Keys.{KeyRule, places_in}
use Rattle.schema_read.specs.Tables.{names_of, written_keys, table_of}
use Rattle.schema_read.specs.Indexes.{index_query}
use Rattle.schema_read.specs.Faults.{Relations, own_table}
use Rattle.schema_read.specs.ForeignKeys.{foreign_keys}
use Rattle.schema_read.specs.StatementLimits.{most_columns}

abbrev pub declared_name : Statement → Name
declared_name (statement.Table name columns rules) = name.name
declared_name (statement.View name query) = name.name
declared_name (statement.Index name unique on columns) = name.name

-- ---- base tables
abbrev pub is_table : Statement → Bool
is_table (statement.Table name columns rules) = true
is_table (statement.View name query) = false
is_table (statement.Index name unique on columns) = false

-- how many base tables the statements declare
abbrev pub count_tables : List Statement → ℕ
count_tables statements = length (filter is_table statements)

-- the key of a unique index on the table of this name and these columns
abbrev pub index_key : Name → List Name → Statement → Option KeyRule
index_key name columns (statement.Table table names rules) = None
index_key name columns (statement.View view query) = None
index_key name columns (statement.Index index unique on names) =
    if unique && same_name on.name name then Some (record { is_primary = false; columns = places_in columns names }) else None

abbrev pub index_keys : Name → List Name → List Statement → List KeyRule
index_keys name columns statements = filter_map (index_key name columns) statements

-- a table with the keys of its rules, in the order of the text, and then those of the unique indexes on it among all statements
abbrev pub whole_table : List Statement → ℕ → Name → List Name → List TableRule → Table
whole_table all number name columns rules = table_of number columns (written_keys columns rules ++ index_keys name columns all)

-- the base table that a statement declares; its number is how many stand before it
abbrev pub declared_table : List Statement → List Statement → Statement → Option Table
declared_table all earlier (statement.Table name columns rules) = Some (whole_table all (count_tables earlier) name.name (names_of columns) rules)
declared_table all earlier (statement.View name query) = None
declared_table all earlier (statement.Index name unique on columns) = None

abbrev pub table_entry : List Statement → List Statement → Statement → Name × Option Table
table_entry all earlier s = (declared_name s, declared_table all earlier s)

-- the base table of this name
abbrev pub table_named : List Statement → Name → Option Table
table_named statements name = option_and_then (λ t. t) (lookup (same_name name) (map_along (table_entry statements) [] statements))

-- ---- relations
-- where an index names no table
abbrev pub no_table : Table
no_table = record { number = 0; columns = []; keys = []; primary = None }

-- a view, and an index as the view of a table that stands before it
abbrev pub declared_relation : List Statement → List Statement → Statement → Relation
declared_relation all earlier (statement.Table name columns rules) =
    relation.Table (whole_table all (count_tables earlier) name.name (names_of columns) rules)
declared_relation all earlier (statement.View name query) = relation.View query name.at
declared_relation all earlier (statement.Index name unique on columns) =
    relation.View (index_query on columns (unwrap_or (table_named earlier on.name) no_table)) name.at

abbrev pub relation_entry : List Statement → List Statement → Statement → Name × Relation
relation_entry all earlier s = (declared_name s, declared_relation all earlier s)

-- the relations by their names, in order of declaration
abbrev pub relations_of : List Statement → Relations
relations_of statements = map_along (relation_entry statements) [] statements

-- ---- foreign keys
-- those of a table see the tables before it, and their keys so far, and the keys of its own rules
abbrev pub declared_fkeys : List Statement → Statement → List Fkey
declared_fkeys earlier (statement.Table name columns rules) =
    foreign_keys (relations_of earlier) name.name (own_table (count_tables earlier) columns rules) rules
declared_fkeys earlier (statement.View name query) = []
declared_fkeys earlier (statement.Index name unique on columns) = []

-- those of all statements, in the order of the text
abbrev pub fkeys_of : List Statement → List Fkey
fkeys_of statements = flat_map (λ fkeys. fkeys) (map_along declared_fkeys [] statements)

-- ---- sizes
-- what fits the numbers of a schema
abbrev pub IsSmall : Statement → Type 0
IsSmall (statement.Table name columns rules) = (length columns ≤ most_columns) × (length rules < 2 ^ 31)
IsSmall (statement.View name query) = Unit {0}
IsSmall (statement.Index name unique on columns) = Unit {0}
