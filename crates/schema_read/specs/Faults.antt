-- The rules that a statement may break, in their order. Each sees the relations that the statements before it declare.
use Rattle.std.specs.Prelude.{ℕ, nat_eq, Bool, false, not, ◌&&◌, is_some, if◌then◌else◌, List, [], ◌∷◌, length, Option, Some, None, option_and_then}
use Rattle.std.specs.List.{list_any}
use Rattle.sql_model.specs.declared.statement.NameAt.{NameAt}
use Rattle.sql_model.specs.declared.statement.TableRule.{TableRule}
use Rattle.sql_model.specs.declared.statement.TableRule.TheVariants as rule
use Rattle.sql_model.specs.declared.statement.Statement.{Statement}
use Rattle.sql_model.specs.declared.statement.Statement.TheVariants as statement
use Rattle.sql_model.specs.declared.schema.Table.{Table}
use Rattle.sql_model.specs.Syntax.{Name}
use Rattle.sql_model.specs.Columns.{same_name}
use Rattle.sql_model.specs.Meets.{base_table}
use Rattle.sql_model.specs.Relations.{Relation, relation_named}
use Rattle.schema_read.specs.declared.fault.SchemaCode.TheVariants as code
use Rattle.schema_read.specs.Order.{Fault, fault_if, first_of, first_along}
use Rattle.schema_read.specs.Keys.{is_among, is_named, places_in, has_key}
use Rattle.schema_read.specs.Tables.{names_of, written_keys, table_of}
use Rattle.schema_read.specs.Indexes.{primary_columns}

abbrev pub Relations : Type 0
Relations = List (Name × Relation)

-- ---- names
abbrev pub new_name_fault : Relations → NameAt → Option Fault
new_name_fault relations name = fault_if (is_some (relation_named name.name relations)) code.TableTwice name.at

abbrev pub repeated_fault : List NameAt → NameAt → Option Fault
repeated_fault earlier n = fault_if (is_named n.name earlier) code.ColumnTwice n.at

-- a list of names that are to differ
abbrev pub repetition_fault : List NameAt → Option Fault
repetition_fault names = first_along repeated_fault [] names

abbrev pub column_fault : List Name → List NameAt → NameAt → Option Fault
column_fault columns earlier n =
    first_of (fault_if (not (is_among n.name columns)) code.UnknownColumn n.at ∷ repeated_fault earlier n ∷ [])

-- a list of names of columns of one table
abbrev pub columns_fault : List Name → List NameAt → Option Fault
columns_fault columns names = first_along (column_fault columns) [] names

-- ---- foreign keys
abbrev pub table_in : Relations → Name → Option Table
table_in relations name = option_and_then base_table (relation_named name relations)

-- the table that a foreign key references, which may be its own
abbrev pub referenced : Relations → Name → Table → Name → Option Table
referenced relations name own to = if same_name to name then Some own else table_in relations to

abbrev pub count_fault : ℕ → ℕ → ℕ → Option Fault
count_fault count other at = fault_if (not (nat_eq count other)) code.CountDiffers at

abbrev pub primary_fault : ℕ → ℕ → Option (List ℕ) → Option Fault
primary_fault count at None = Some (record { code = code.NoSuchKey; at = at })
primary_fault count at (Some key) = count_fault count (length key) at

-- the referenced columns, or the primary key where none are written
abbrev pub key_fault : ℕ → ℕ → Table → Option (List NameAt) → Option Fault
key_fault count at table None = primary_fault count at (primary_columns table)
key_fault count at table (Some names) = first_of (
    columns_fault table.columns names
    ∷ count_fault count (length names) at
    ∷ fault_if (not (has_key table.keys (places_in table.columns names))) code.NoSuchKey at
    ∷ [])

abbrev pub reference_fault : ℕ → NameAt → Option (List NameAt) → Option Table → Option Fault
reference_fault count to target None = Some (record { code = code.UnknownTable; at = to.at })
reference_fault count to target (Some table) = key_fault count to.at table target

-- ---- the rules of a table
abbrev pub is_primary_rule : TableRule → Bool
is_primary_rule (rule.Key primary columns at) = primary
is_primary_rule (rule.Foreign columns table target) = false

-- a rule of the table of this name, which may have a primary key already
abbrev pub rule_fault : Relations → Name → Table → Bool → TableRule → Option Fault
rule_fault relations name own has_primary (rule.Key primary columns at) = first_of (
    columns_fault own.columns columns ∷ fault_if (primary && has_primary) code.PrimaryTwice at ∷ [])
rule_fault relations name own has_primary (rule.Foreign columns to target) = first_of (
    columns_fault own.columns columns ∷ reference_fault (length columns) to target (referenced relations name own to.name) ∷ [])

abbrev pub rules_fault : Relations → Name → Table → List TableRule → Option Fault
rules_fault relations name own rules = first_along (λ earlier r. rule_fault relations name own (list_any is_primary_rule earlier) r) [] rules

-- a table with its own keys, as a reference to itself sees it
abbrev pub own_table : ℕ → List NameAt → List TableRule → Table
own_table number columns rules = table_of number (names_of columns) (written_keys (names_of columns) rules)

-- ---- statements
abbrev pub on_table_fault : NameAt → List NameAt → Option Table → Option Fault
on_table_fault on columns None = Some (record { code = code.UnknownTable; at = on.at })
on_table_fault on columns (Some table) = columns_fault table.columns columns

abbrev pub statement_fault : Relations → ℕ → Statement → Option Fault
statement_fault relations number (statement.Table name columns rules) = first_of (
    new_name_fault relations name
    ∷ repetition_fault columns
    ∷ rules_fault relations name.name (own_table number columns rules) rules
    ∷ [])
statement_fault relations number (statement.View name query) = new_name_fault relations name
statement_fault relations number (statement.Index name unique on columns) = first_of (
    new_name_fault relations name ∷ on_table_fault on columns (table_in relations on.name) ∷ [])
