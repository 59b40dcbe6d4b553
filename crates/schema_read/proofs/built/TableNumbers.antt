-- Base tables are numbered in order.
use Rattle.std.proofs.Common.{◌≡◌, ℕ, Bool, true, false, inl, inr, List, [], ◌∷◌, ◌++◌, map, Option, Some, None, refl, sym, ap, ◌∙◌, append_assoc, add-one}
use Rattle.std.specs.List.{filter_map}
use Rattle.std.specs.Map.{lookup, set_value}
use Rattle.std.proofs.lemmas.Bool.{cases_Bool, cond_both}
use Rattle.std.proofs.lemmas.List.{append-nil}
use Rattle.std.proofs.lemmas.Option.{same_Some}
use Rattle.data_model.specs.Numbers.{list_below}
use Rattle.sql_model.specs.declared.schema.Relation.TheVariants as relation
use Rattle.sql_model.specs.declared.schema.Table.{Table}
use Rattle.sql_model.specs.declared.schema.Schema.{Schema}
use Rattle.sql_model.specs.declared.statement.Statement.{Statement}
use Rattle.sql_model.specs.declared.statement.Statement.TheVariants as statement
use Rattle.sql_model.specs.declared.statement.NameAt.{NameAt}
use Rattle.sql_model.specs.Syntax.{Name}
use Rattle.sql_model.specs.Columns.{same_name}
use Rattle.sql_model.specs.Meets.{base_table, base_tables}
use Rattle.sql_model.specs.Relations.{Relation, relation_named}
use Rattle.schema_read.specs.Keys.{has_key, places_in}
use Rattle.schema_read.specs.Indexes.{index_query}
use Rattle.schema_read.specs.Faults.{Relations, table_in, own_table}
use Rattle.schema_read.specs.Building.{State, no_statements, with_unique_key, with_named, with_index_key, after_index, after_statement, built_from}
use Rattle.schema_read.specs.Builds.{Builds}
use Rattle.schema_read.specs.Declarations.{count_tables}
use Rattle.schema_read.proofs.built.Links.{built_linked}

abbrev number_of : Relation → List ℕ
number_of (relation.Table table) = table.number ∷ []
number_of (relation.View query at) = []

abbrev numbers : Relations → List ℕ
numbers [] = []
numbers (r ∷ relations) = number_of r.1 ++ numbers relations

numbers-are : (relations : Relations) → map (λ t. t.number) (filter_map (λ r. base_table r.1) relations) ≡ numbers relations
numbers-are [] = refl
numbers-are ((name, relation.Table table) ∷ relations) = ap (λ ns. table.number ∷ ns) (numbers-are relations)
numbers-are ((name, relation.View query at) ∷ relations) = numbers-are relations

numbers-push : (relations : Relations) (r : Name × Relation) → numbers (relations ++ r ∷ []) ≡ numbers relations ++ number_of r.1
numbers-push [] r = append-nil (number_of r.1)
numbers-push (x ∷ relations) r =
    ap (λ ns. number_of x.1 ++ ns) (numbers-push relations r) ∙ sym (append_assoc (number_of x.1) (numbers relations) (number_of r.1))

number-unique : (key : List ℕ) (r : Relation) → number_of (with_unique_key key r) ≡ number_of r
number-unique key (relation.View query at) = refl
number-unique key (relation.Table table) =
    cond_both (has_key table.keys key) table (record table { keys = table.keys ++ key ∷ [] }) (λ t. t.number ∷ [] ≡ table.number ∷ []) (λ old. refl) (λ new. refl)

numbers-set : (test : Name → Bool) (relations : Relations) (r new : Relation) → lookup test relations ≡ Some r → number_of new ≡ number_of r
    → numbers (set_value test relations new) ≡ numbers relations
numbers-set test [] r new found same = refl
numbers-set test (x ∷ relations) r new found same = elim (cases_Bool (test x.0)) [
  | inl is ↦ rw is (ap (λ ns. ns ++ numbers relations) (same ∙ ap number_of (sym (same_Some x.1 r (rw is at found)))))
  | inr isnt ↦ rw isnt (ap (λ ns. number_of x.1 ++ ns) (numbers-set test relations r new (rw isnt at found) same))
]

numbers-index : (relations : Relations) (unique : Bool) (on : Name) (key : List ℕ) → numbers (with_index_key relations unique on key) ≡ numbers relations
numbers-index relations false on key = refl
numbers-index relations true on key = by (relation_named on relations) refl
  where
    by : (o : Option Relation) → relation_named on relations ≡ o → numbers (with_named (with_unique_key key) on relations o) ≡ numbers relations
    by None e = refl
    by (Some r) e = numbers-set (same_name on) relations r (with_unique_key key r) e (number-unique key r)

abbrev InOrder : State → Type 0
InOrder state = numbers state.relations ≡ list_below state.tables (λ k. k)

after_index-in_order : (state : State) (name : NameAt) (unique : Bool) (on : NameAt) (columns : List NameAt) (table : Option Table)
    → InOrder state → InOrder (after_index state name unique on columns table)
after_index-in_order state name unique on columns None ordered = ordered
after_index-in_order state name unique on columns (Some table) ordered =
    let view : Name × Relation = (name.name, relation.View (index_query on columns table) name.at) in
    numbers-index (state.relations ++ view ∷ []) unique on.name (places_in table.columns columns)
    ∙ numbers-push state.relations view ∙ append-nil (numbers state.relations) ∙ ordered

after-in_order : (state : State) (s : Statement) → InOrder state → InOrder (after_statement state s)
after-in_order state (statement.Table name columns rules) ordered =
    numbers-push state.relations (name.name, relation.Table (own_table state.tables columns rules))
    ∙ ap (λ ns. ns ++ state.tables ∷ []) ordered ∙ ap (λ n. list_below n (λ k. k)) (sym (add-one state.tables))
after-in_order state (statement.View name query) ordered =
    numbers-push state.relations (name.name, relation.View query name.at) ∙ append-nil (numbers state.relations) ∙ ordered
after-in_order state (statement.Index name unique on columns) ordered =
    after_index-in_order state name unique on columns (table_in state.relations on.name) ordered

built-in_order : (state : State) (statements : List Statement) → InOrder state → InOrder (built_from state statements)
built-in_order state [] ordered = ordered
built-in_order state (s ∷ statements) ordered = built-in_order (after_statement state s) statements (after-in_order state s ordered)

pub numbered : (statements : List Statement) (schema : Schema) → Builds statements schema
    → map (λ table. table.number) (base_tables schema) ≡ list_below (count_tables statements) (λ k. k)
numbered statements schema builds =
    let linked = built_linked statements builds.faultless in
    numbers-are schema.relations.entries ∙ ap numbers (builds.relations ∙ sym linked.relations) ∙ built-in_order no_statements statements refl
    ∙ ap (λ n. list_below n (λ k. k)) linked.tables
