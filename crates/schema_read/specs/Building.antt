-- How the builder adds a statement to what those before it have built. Only contracts of private functions cite this form; it builds what
-- Declarations says.
use Rattle.std.specs.Prelude.{ℕ, ◌+◌, ◌≤◌, ◌<◌, Bool, true, false, not, if◌then◌else◌, List, [], ◌∷◌, ◌++◌, length, fold, find, slice_get, Option, Some, None, option_and_then}
use Rattle.data_model.specs.Lists.{Each}
use Rattle.sql_model.specs.declared.statement.NameAt.{NameAt}
use Rattle.sql_model.specs.declared.statement.TableRule.{TableRule}
use Rattle.sql_model.specs.declared.statement.TableRule.TheVariants as rule
use Rattle.sql_model.specs.declared.statement.Statement.{Statement}
use Rattle.sql_model.specs.declared.statement.Statement.TheVariants as statement
use Rattle.sql_model.specs.declared.tree.Item.{Item}
use Rattle.sql_model.specs.declared.schema.Table.{Table}
use Rattle.sql_model.specs.declared.schema.Fkey.{Fkey}
use Rattle.sql_model.specs.declared.schema.Relation.TheVariants as relation
use Rattle.sql_model.specs.Syntax.{Name}
use Rattle.sql_model.specs.Columns.{same_name}
use Rattle.std.specs.Map.{set_value}
use Rattle.sql_model.specs.Relations.{Relation, relation_named}
use Rattle.schema_read.specs.Order.{Fault, or_else}
use Rattle.schema_read.specs.Keys.{is_named, places_in, place_of_key, has_key, stands_for}
use Rattle.schema_read.specs.Indexes.{bare_column, index_query}
use Rattle.schema_read.specs.ForeignKeys.{foreign_key}
use Rattle.schema_read.specs.Faults.{Relations, table_in, is_primary_rule, own_table, statement_fault}
use Rattle.schema_read.specs.StatementLimits.{most_columns}

-- ---- keys
abbrev pub with_key : Option (List ℕ) → List (List ℕ) → List ℕ → List (List ℕ)
with_key primary keys key = if has_key keys key then keys else keys ++ stands_for primary key ∷ []

abbrev pub with_unique : Table → List ℕ → Table
with_unique table key = if has_key table.keys key then table else record table { keys = table.keys ++ key ∷ [] }

abbrev pub with_rule : List Name → Option (List ℕ) → List (List ℕ) → TableRule → List (List ℕ)
with_rule columns primary keys (rule.Key is_primary names at) = with_key primary keys (places_in columns names)
with_rule columns primary keys (rule.Foreign names table target) = keys

abbrev pub keys_after : List Name → Option (List ℕ) → List TableRule → List (List ℕ)
keys_after columns primary rules = fold (with_rule columns primary) [] rules

abbrev pub rule_columns : List Name → TableRule → Option (List ℕ)
rule_columns columns (rule.Key is_primary names at) = Some (places_in columns names)
rule_columns columns (rule.Foreign names table target) = None

abbrev pub first_primary : List Name → List TableRule → Option (List ℕ)
first_primary columns rules = option_and_then (rule_columns columns) (find is_primary_rule rules)

abbrev pub table_with : ℕ → List Name → Option (List ℕ) → List (List ℕ) → Table
table_with number columns primary keys = record { number = number; columns = columns; keys = keys; primary = option_and_then (place_of_key keys) primary }

abbrev pub built_table : ℕ → List Name → List TableRule → Table
built_table number columns rules = table_with number columns (first_primary columns rules) (keys_after columns (first_primary columns rules) rules)

-- ---- foreign keys
abbrev pub with_fkey : List Fkey → Option Fkey → List Fkey
with_fkey fkeys None = fkeys
with_fkey fkeys (Some fkey) = fkeys ++ fkey ∷ []

-- ---- widths, which fit their numbers
abbrev pub IsNarrow : Table → Type 0
IsNarrow table = (length table.columns ≤ most_columns) × Each (Each (λ column. column < 64)) table.keys

abbrev pub IsNarrowRelation : Relation → Type 0
IsNarrowRelation (relation.Table table) = IsNarrow table
IsNarrowRelation (relation.View query at) = Unit {0}

abbrev pub AreNarrow : Relations → Type 0
AreNarrow relations = Each (λ r. IsNarrowRelation r.1) relations

-- ---- the view of an index
abbrev pub items_with_name : List NameAt → ℕ → List Item → Option Name → List Item
items_with_name shown at items None = items
items_with_name shown at items (Some name) = if not (is_named name shown) then items ++ bare_column name at ∷ [] else items

abbrev pub items_with : List NameAt → ℕ → Table → List Item → ℕ → List Item
items_with shown at table items place = items_with_name shown at items (slice_get table.columns place)

abbrev pub items_with_key : List NameAt → ℕ → Table → List Item → List ℕ → List Item
items_with_key shown at table items key = fold (items_with shown at table) items key

-- ---- statements
-- what statements have built so far
pub record State : Type 0 where
  pub relations : Relations
  pub tables : ℕ
  pub fkeys : List Fkey

abbrev pub after_rule : Relations → Name → Table → List Fkey → TableRule → List Fkey
after_rule relations name own fkeys r = with_fkey fkeys (foreign_key relations name own r)

abbrev pub after_rules : Relations → Name → Table → List Fkey → List TableRule → List Fkey
after_rules relations name own fkeys rules = fold (after_rule relations name own) fkeys rules

abbrev pub no_statements : State
no_statements = record { relations = []; tables = 0; fkeys = [] }

abbrev pub with_unique_key : List ℕ → Relation → Relation
with_unique_key key (relation.Table table) = relation.Table (with_unique table key)
with_unique_key key (relation.View query at) = relation.View query at

abbrev pub with_named : (Relation → Relation) → Name → Relations → Option Relation → Relations
with_named change name relations None = relations
with_named change name relations (Some r) = set_value (same_name name) relations (change r)

-- the relations, with the first of this name changed
abbrev pub changed : (Relation → Relation) → Name → Relations → Relations
changed change name relations = with_named change name relations (relation_named name relations)

abbrev pub with_index_key : Relations → Bool → Name → List ℕ → Relations
with_index_key relations true on key = changed (with_unique_key key) on relations
with_index_key relations false on key = relations

abbrev pub after_table : State → NameAt → List TableRule → Table → State
after_table state name rules own = record {
  relations = state.relations ++ (name.name, relation.Table own) ∷ [];
  tables = state.tables + 1;
  fkeys = after_rules state.relations name.name own state.fkeys rules;
}

abbrev pub after_index : State → NameAt → Bool → NameAt → List NameAt → Option Table → State
after_index state name unique on columns None = state
after_index state name unique on columns (Some table) = record state {
  relations = with_index_key (state.relations ++ (name.name, relation.View (index_query on columns table) name.at) ∷ []) unique on.name (places_in table.columns columns);
}

abbrev pub after_statement : State → Statement → State
after_statement state (statement.Table name columns rules) = after_table state name rules (own_table state.tables columns rules)
after_statement state (statement.View name query) = record state { relations = state.relations ++ (name.name, relation.View query name.at) ∷ [] }
after_statement state (statement.Index name unique on columns) = after_index state name unique on columns (table_in state.relations on.name)

abbrev pub state_fault : State → Statement → Option Fault
state_fault state s = statement_fault state.relations state.tables s

-- the first fault of the statements, after those that have built the state
abbrev pub fault_from : State → List Statement → Option Fault
fault_from state [] = None
fault_from state (s ∷ statements) = or_else (state_fault state s) (fault_from (after_statement state s) statements)

abbrev pub built_from : State → List Statement → State
built_from state statements = fold after_statement state statements
