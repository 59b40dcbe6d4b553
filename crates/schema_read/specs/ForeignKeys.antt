-- The foreign keys that the rules of a table declare.
use Rattle.std.specs.Prelude.{List, [], Option, Some, None, unwrap_or, ℕ}
use Rattle.std.specs.List.{filter_map}
use Rattle.std.specs.Option.{option_map}
use Rattle.sql_model.specs.declared.statement.NameAt.{NameAt}
use Rattle.sql_model.specs.declared.statement.TableRule.{TableRule}
use Rattle.sql_model.specs.declared.statement.TableRule.TheVariants as rule
use Rattle.sql_model.specs.declared.schema.Table.{Table}
use Rattle.sql_model.specs.declared.schema.Fkey.{Fkey}
use Rattle.sql_model.specs.Syntax.{Name}
use Rattle.schema_read.specs.Keys.{places_in}
use Rattle.schema_read.specs.Indexes.{primary_columns}
use Rattle.schema_read.specs.Faults.{Relations, referenced}

-- the referenced columns, or the primary key where none are written
abbrev pub referenced_key : Table → Option (List NameAt) → List ℕ
referenced_key table None = unwrap_or (primary_columns table) []
referenced_key table (Some names) = places_in table.columns names

abbrev pub reference : Table → List NameAt → Option (List NameAt) → Table → Fkey
reference own columns target table =
    record { from = own.number; cols = places_in own.columns columns; to = table.number; key = referenced_key table target }

-- the foreign key of a rule of `own`, the table of this name, among the relations before it
abbrev pub foreign_key : Relations → Name → Table → TableRule → Option Fkey
foreign_key relations name own (rule.Key primary columns at) = None
foreign_key relations name own (rule.Foreign columns to target) = option_map (reference own columns target) (referenced relations name own to.name)

abbrev pub foreign_keys : Relations → Name → Table → List TableRule → List Fkey
foreign_keys relations name own rules = filter_map (foreign_key relations name own) rules
