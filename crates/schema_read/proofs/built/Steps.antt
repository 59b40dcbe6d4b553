-- What a statement that is not refused leaves: narrow tables, and at most one more.
use Rattle.std.proofs.Common.{◌≡◌, ℕ, ◌+◌, ◌≤◌, Bool, true, false, [], ◌∷◌, ◌++◌, List, Option, Some, None, refl, sym, subst, ap, ◌∙◌, arith, suc, ◌<◌, length, get_or, drop, drop-cons, add-one}
use Rattle.std.proofs.lemmas.Bool.{cond_both}
use Rattle.std.proofs.lemmas.List.{length-map}
use Rattle.sql_model.specs.declared.schema.Relation.TheVariants as relation
use Rattle.sql_model.specs.declared.schema.Table.{Table}
use Rattle.sql_model.specs.declared.statement.Statement.{Statement}
use Rattle.sql_model.specs.declared.statement.Statement.TheVariants as statement
use Rattle.sql_model.specs.declared.statement.NameAt.{NameAt}
use Rattle.sql_model.specs.Syntax.{Name}
use Rattle.sql_model.specs.Columns.{same_name}
use Rattle.sql_model.specs.Relations.{Relation, relation_named}
use Rattle.schema_read.specs.Keys.{has_key, places_in}
use Rattle.schema_read.specs.Indexes.{index_query}
use Rattle.schema_read.specs.Faults.{Relations, table_in, own_table}
use Rattle.data_model.specs.Lists.{Each}
use Rattle.schema_read.specs.Order.{Fault, or_else}
use Rattle.schema_read.specs.Declarations.{IsSmall}
use Rattle.schema_read.specs.Building.{State, state_fault, fault_from, built_from, IsNarrow, IsNarrowRelation, AreNarrow, with_unique_key, with_named, with_index_key, after_index, after_statement}
use Rattle.sql_model.specs.declared.statement.TableRule.{TableRule}
use Rattle.sql_model.specs.declared.statement.TableRule.TheVariants as rule
use Rattle.schema_read.specs.Tables.{names_of, written_keys}
use Rattle.schema_read.proofs.built.ColumnsFit.{each_key}
use Rattle.schema_read.proofs.built.KeyLaws.{sets}
use Rattle.schema_read.proofs.built.Links.{named_relation}
use Rattle.schema_read.proofs.built.Places.{places_low}
use Rattle.schema_read.proofs.built.Entries.{each_push, found_each, set_each}
use Rattle.schema_read.specs.StatementLimits.{most_columns}

narrow_push : (relations : Relations) (r : Name × Relation) → AreNarrow relations → IsNarrowRelation r.1 → AreNarrow (relations ++ r ∷ [])
narrow_push = each_push (λ r. IsNarrowRelation r.1)

abbrev AreLow : List ℕ → Type 0
AreLow columns = Each (λ column. column < 64) columns

narrow_unique : (key : List ℕ) (r : Relation) → AreLow key → IsNarrowRelation r → IsNarrowRelation (with_unique_key key r)
narrow_unique key (relation.View query at) low narrow = narrow
narrow_unique key (relation.Table table) low narrow =
    cond_both (has_key table.keys key) table (record table { keys = table.keys ++ key ∷ [] }) IsNarrow (λ old. narrow) (λ new. (narrow.0, each_push AreLow table.keys key narrow.1 low))

narrow_index : (relations : Relations) (unique : Bool) (on : Name) (key : List ℕ) → AreLow key → AreNarrow relations → AreNarrow (with_index_key relations unique on key)
narrow_index relations false on key low narrow = narrow
narrow_index relations true on key low narrow = by (relation_named on relations) refl
  where
    by : (o : Option Relation) → relation_named on relations ≡ o → AreNarrow (with_named (with_unique_key key) on relations o)
    by None e = narrow
    by (Some r) e = set_each (same_name on) IsNarrowRelation relations (with_unique_key key r) narrow (narrow_unique key r low (found_each (same_name on) IsNarrowRelation relations r e narrow))

narrow_after_index : (state : State) (name : NameAt) (unique : Bool) (on : NameAt) (columns : List NameAt) (table : Option Table)
    → table_in state.relations on.name ≡ table → AreNarrow state.relations → AreNarrow (after_index state name unique on columns table).relations
narrow_after_index state name unique on columns None found narrow = narrow
narrow_after_index state name unique on columns (Some table) found narrow =
    let named = named_relation state.relations on.name table found in
    let low = places_low table.columns columns (found_each (same_name on.name) IsNarrowRelation state.relations (relation.Table table) named narrow).0 in
    let view : Relation = relation.View (index_query on columns table) name.at in
    narrow_index (state.relations ++ (name.name, view) ∷ []) unique on.name (places_in table.columns columns) low (narrow_push state.relations (name.name, view) narrow tt)

-- ---- a table of its own rules
written_low : (columns : List Name) (rules : List TableRule) → length columns ≤ most_columns → Each AreLow (sets (written_keys columns rules))
written_low columns [] few = tt
written_low columns (rule.Key primary names at ∷ rules) few = (places_low columns names few, written_low columns rules few)
written_low columns (rule.Foreign names to target ∷ rules) few = written_low columns rules few

pub own_narrow : (number : ℕ) (columns : List NameAt) (rules : List TableRule) → length columns ≤ most_columns → IsNarrow (own_table number columns rules)
own_narrow number columns rules few =
    let narrow : length (names_of columns) ≤ most_columns = rw (length-map columns) few in
    (narrow, each_key AreLow (written_keys (names_of columns) rules) (written_low (names_of columns) rules narrow))

pub narrow_after : (state : State) (s : Statement) → IsSmall s → AreNarrow state.relations → AreNarrow (after_statement state s).relations
narrow_after state (statement.Table name columns rules) small narrow =
    narrow_push state.relations (name.name, relation.Table (own_table state.tables columns rules)) narrow (own_narrow state.tables columns rules small.0)
narrow_after state (statement.View name query) small narrow = narrow_push state.relations (name.name, relation.View query name.at) narrow tt
narrow_after state (statement.Index name unique on columns) small narrow = narrow_after_index state name unique on columns (table_in state.relations on.name) refl narrow

tables_after_index : (state : State) (name : NameAt) (unique : Bool) (on : NameAt) (columns : List NameAt) (table : Option Table)
    → (after_index state name unique on columns table).tables ≡ state.tables
tables_after_index state name unique on columns None = refl
tables_after_index state name unique on columns (Some table) = refl

pub tables_after : (state : State) (s : Statement) → (after_statement state s).tables ≤ state.tables + 1
tables_after state (statement.Table name columns rules) = omega arith
tables_after state (statement.View name query) = omega arith
tables_after state (statement.Index name unique on columns) =
    let same : (after_index state name unique on columns (table_in state.relations on.name)).tables ≡ state.tables = tables_after_index state name unique on columns (table_in state.relations on.name) in
    omega (arith, same)

-- ---- a list from an index on
pub split_at : {X : Type 0} (xs : List X) (i : ℕ) (x : X) → i < length xs → x ≡ get_or xs i x → drop i xs ≡ x ∷ drop (i + 1) xs
split_at xs i x lt is = rw add-one (drop-cons xs i x lt ∙ ap (λ y. y ∷ drop (suc i) xs) (sym is))

module _ (state new : State) (s : Statement) (xs rest : List Statement) (split : xs ≡ s ∷ rest) (after : new ≡ after_statement state s) where
  pub fault_step : (found : Option Fault) → state_fault state s ≡ None → fault_from state xs ≡ found → fault_from new rest ≡ found
  fault_step found none h =
      ap (λ st. fault_from st rest) after
      ∙ sym (ap (λ o. or_else o (fault_from (after_statement state s) rest)) none) ∙ ap (fault_from state) (sym split) ∙ h

  pub built_step : (last : State) → built_from state xs ≡ last → built_from new rest ≡ last
  built_step last h = ap (λ st. built_from st rest) after ∙ ap (built_from state) (sym split) ∙ h

  pub small_step : Each IsSmall xs → IsSmall s × Each IsSmall rest
  small_step small = subst (Each IsSmall) split small

  pub narrow_step : IsSmall s → AreNarrow state.relations → AreNarrow new.relations
  narrow_step small narrow = subst (λ st. AreNarrow st.relations) (sym after) (narrow_after state s small narrow)

  pub tables_step : new.tables ≤ state.tables + 1
  tables_step = subst (λ st. st.tables ≤ state.tables + 1) (sym after) (tables_after state s)
