-- Statements with their faults, and what the others declare.
use Rattle.std.specs.Prelude.{ℕ, ◌≡◌, refl, Bool, true, false, List, [], ◌∷◌, Option, Some, None, codes}
use Rattle.sql_model.specs.declared.statement.NameAt.{NameAt}
use Rattle.sql_model.specs.declared.statement.TableRule.{TableRule}
use Rattle.sql_model.specs.declared.statement.TableRule.TheVariants as rule
use Rattle.sql_model.specs.declared.statement.Statement.{Statement}
use Rattle.sql_model.specs.declared.statement.Statement.TheVariants as statement
use Rattle.sql_model.specs.declared.schema.Table.{Table}
use Rattle.sql_model.specs.Syntax.{Name}
use Rattle.sql_model.specs.Compute.{everything}
use Rattle.sql_model.specs.Meaning.{rows}
use Rattle.sql_model.specs.Relations.{world_of, shown_relations}
use Rattle.sql_model.specs.samples.Forms.{all_of, reading}
use Rattle.schema_read.specs.declared.fault.SchemaCode.{SchemaCode}
use Rattle.schema_read.specs.declared.fault.SchemaCode.TheVariants as code
use Rattle.schema_read.specs.Order.{Fault}
use Rattle.schema_read.specs.Indexes.{shown_columns}
use Rattle.schema_read.specs.Faults.{own_table}
use Rattle.schema_read.specs.Declarations.{table_named, fkeys_of, relations_of}
use Rattle.schema_read.specs.Builds.{schema_fault}

abbrev at_ : Name → ℕ → NameAt
at_ name at = record { name = name; at = at }

abbrev r : Name
r = codes "r"

abbrev s : Name
s = codes "s"

abbrev a : NameAt
a = at_ (codes "a") 1

abbrev b : NameAt
b = at_ (codes "b") 2

-- a name that is no column
abbrev z : NameAt
z = at_ (codes "z") 3

-- ---- rules
abbrev unique : List NameAt → TableRule
unique columns = rule.Key false columns 4

abbrev primary : List NameAt → ℕ → TableRule
primary columns at = rule.Key true columns at

-- to r, whose name stands at 9
abbrev to_r : List NameAt → Option (List NameAt) → TableRule
to_r columns target = rule.Foreign columns (at_ r 9) target

-- ---- statements
-- r(a, b) with these rules, whose name stands at 7
abbrev table_r : List TableRule → Statement
table_r rules = statement.Table (at_ r 7) (a ∷ b ∷ []) rules

-- s(a, b) with these rules
abbrev table_s : List TableRule → Statement
table_s rules = statement.Table (at_ s 8) (a ∷ b ∷ []) rules

-- an index s on the table of this name, which stands at 9
abbrev index_on : Bool → Name → List NameAt → Statement
index_on is_unique name columns = statement.Index (at_ s 8) is_unique (at_ name 9) columns

abbrev refused : SchemaCode → ℕ → Option Fault
refused c at = Some (record { code = c; at = at })

abbrev keys_of_r : List Statement → Option (List (List ℕ))
keys_of_r statements = keys (table_named statements r)
  where
    keys : Option Table → Option (List (List ℕ))
    keys None = None
    keys (Some table) = Some table.keys

-- ---- one fault each
a_name_twice : schema_fault (table_r [] ∷ table_r [] ∷ []) ≡ refused code.TableTwice 7
a_name_twice = refl

an_index_named_as_a_table : schema_fault (table_s [] ∷ index_on false s (a ∷ []) ∷ []) ≡ refused code.TableTwice 8
an_index_named_as_a_table = refl

a_column_twice : schema_fault (statement.Table (at_ r 7) (a ∷ at_ (codes "a") 5 ∷ []) [] ∷ []) ≡ refused code.ColumnTwice 5
a_column_twice = refl

a_column_twice_in_a_key : schema_fault (table_r (unique (a ∷ at_ (codes "a") 5 ∷ []) ∷ []) ∷ []) ≡ refused code.ColumnTwice 5
a_column_twice_in_a_key = refl

no_such_table : schema_fault (table_s (to_r (a ∷ []) None ∷ []) ∷ []) ≡ refused code.UnknownTable 9
no_such_table = refl

-- a later table is not seen
not_yet_declared : schema_fault (table_s (to_r (a ∷ []) None ∷ []) ∷ table_r [] ∷ []) ≡ refused code.UnknownTable 9
not_yet_declared = refl

an_index_on_no_table : schema_fault (index_on false r (a ∷ []) ∷ []) ≡ refused code.UnknownTable 9
an_index_on_no_table = refl

no_such_column : schema_fault (table_r (unique (z ∷ []) ∷ []) ∷ []) ≡ refused code.UnknownColumn 3
no_such_column = refl

no_such_key : schema_fault (table_r (unique (a ∷ []) ∷ []) ∷ table_s (to_r (a ∷ []) (Some (b ∷ [])) ∷ []) ∷ []) ≡ refused code.NoSuchKey 9
no_such_key = refl

no_primary_key : schema_fault (table_r (unique (a ∷ []) ∷ []) ∷ table_s (to_r (a ∷ []) None ∷ []) ∷ []) ≡ refused code.NoSuchKey 9
no_primary_key = refl

counts_differ : schema_fault (table_r (unique (a ∷ []) ∷ []) ∷ table_s (to_r (a ∷ b ∷ []) (Some (a ∷ [])) ∷ []) ∷ []) ≡ refused code.CountDiffers 9
counts_differ = refl

a_second_primary_key : schema_fault (table_r (primary (a ∷ []) 5 ∷ primary (b ∷ []) 6 ∷ []) ∷ []) ≡ refused code.PrimaryTwice 6
a_second_primary_key = refl

-- ---- the first of two
columns_before_a_second_primary_key : schema_fault (table_r (primary (a ∷ []) 5 ∷ primary (z ∷ []) 6 ∷ []) ∷ []) ≡ refused code.UnknownColumn 3
columns_before_a_second_primary_key = refl

the_table_before_the_referenced_columns : schema_fault (table_s (to_r (a ∷ []) (Some (z ∷ [])) ∷ []) ∷ []) ≡ refused code.UnknownTable 9
the_table_before_the_referenced_columns = refl

counts_before_the_key : schema_fault (table_r [] ∷ table_s (to_r (a ∷ b ∷ []) (Some (a ∷ [])) ∷ []) ∷ []) ≡ refused code.CountDiffers 9
counts_before_the_key = refl

-- ---- references of a table to itself see its later rules, faulty ones too
itself_with_a_list : schema_fault (table_r (to_r (a ∷ []) (Some (b ∷ [])) ∷ unique (b ∷ []) ∷ []) ∷ []) ≡ None
itself_with_a_list = refl

itself_without_a_list : fkeys_of (table_r (to_r (a ∷ b ∷ []) None ∷ primary (b ∷ a ∷ []) 5 ∷ []) ∷ [])
    ≡ record { from = 0; cols = 0 ∷ 1 ∷ []; to = 0; key = 1 ∷ 0 ∷ [] } ∷ []
itself_without_a_list = refl

a_faulty_primary_key : schema_fault (table_r (to_r (a ∷ []) None ∷ primary (a ∷ z ∷ []) 5 ∷ []) ∷ []) ≡ refused code.CountDiffers 9
a_faulty_primary_key = refl

-- ---- keys
a_unique_index : keys_of_r (table_r (unique (a ∷ []) ∷ []) ∷ index_on true r (b ∷ []) ∷ []) ≡ Some ((0 ∷ []) ∷ (1 ∷ []) ∷ [])
a_unique_index = refl

an_index : keys_of_r (table_r (unique (a ∷ []) ∷ []) ∷ index_on false r (b ∷ []) ∷ []) ≡ Some ((0 ∷ []) ∷ [])
an_index = refl

a_key_in_another_order : keys_of_r (table_r (unique (a ∷ b ∷ []) ∷ unique (b ∷ a ∷ []) ∷ []) ∷ []) ≡ Some ((0 ∷ 1 ∷ []) ∷ [])
a_key_in_another_order = refl

-- the number of the older key, the order of the primary key
a_primary_key_for_an_older_key : keys_of_r (table_r (unique (b ∷ a ∷ []) ∷ unique (a ∷ []) ∷ primary (a ∷ b ∷ []) 5 ∷ []) ∷ [])
    ≡ Some ((0 ∷ 1 ∷ []) ∷ (0 ∷ []) ∷ [])
a_primary_key_for_an_older_key = refl

-- a unique index is a key for later statements
a_key_of_an_index : schema_fault (table_r [] ∷ index_on true r (b ∷ []) ∷ statement.Table (at_ (codes "t") 8) (a ∷ []) (to_r (a ∷ []) (Some (b ∷ [])) ∷ []) ∷ []) ≡ None
a_key_of_an_index = refl

-- ---- what an index shows
-- the columns that it names, and then those of the primary key that it does not name
an_index_shows_the_key : shown_columns (a ∷ []) 9 (own_table 0 (a ∷ b ∷ []) (primary (b ∷ a ∷ []) 5 ∷ [])) ≡ a ∷ at_ (codes "b") 9 ∷ []
an_index_shows_the_key = refl

-- CREATE TABLE r (a, b, PRIMARY KEY (a)), CREATE INDEX s ON r (b), and SELECT * FROM s where r has the rows (0, 1) and (2, 1)
abbrev indexed_rows : List Statement → List (List ℕ)
indexed_rows statements = rows (all_of s) (world_of 3 reading (shown_relations 3 reading (record { table = 0; rows = (0 ∷ 1 ∷ []) ∷ (2 ∷ 1 ∷ []) ∷ [] } ∷ []) [] (relations_of statements))) []

a_query_over_an_index : indexed_rows (table_r (primary (a ∷ []) 5 ∷ []) ∷ index_on false r (b ∷ []) ∷ []) ≡ (1 ∷ 0 ∷ []) ∷ (1 ∷ 2 ∷ []) ∷ []
unfolding everything
a_query_over_an_index = refl
