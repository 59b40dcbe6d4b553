-- The keys and foreign keys of a schema that is built fit its tables.
use Rattle.std.proofs.Common.{◌≡◌, ℕ, ◌<◌, inl, inr, nat_eq, nat_lt, Bool, true, false, List, [], ◌∷◌, ◌++◌, length, slice_get, Option, Some, None, option_and_then, refl, sym, subst, ◌∙◌, unwrap_or, arith, length-append}
use Rattle.std.specs.Prelude.{not, IfSome}
use Rattle.std.specs.Option.{option_map}
use Rattle.std.specs.List.{cons_option, list_any, filter_map, position_or_len}
use Rattle.std.specs.Map.{set_value}
use Rattle.std.proofs.lemmas.Bool.{cases_Bool, cond_both, ltb-true, not-false, or_left}
use Rattle.std.proofs.lemmas.List.{length-map}
use Rattle.std.proofs.lemmas.List.Folds.{list_any-append}
use Rattle.std.proofs.lemmas.Map.Views.{exact_unsigned_eq}
use Rattle.std.proofs.lemmas.Option.{none-some, same_Some}
use Rattle.data_model.specs.Lists.{Each, Has}
use Rattle.sql_model.specs.declared.schema.Fkey.{Fkey}
use Rattle.sql_model.specs.declared.schema.Relation.TheVariants as relation
use Rattle.sql_model.specs.declared.schema.Schema.{Schema}
use Rattle.sql_model.specs.declared.schema.Table.{Table}
use Rattle.sql_model.specs.declared.statement.NameAt.{NameAt}
use Rattle.sql_model.specs.declared.statement.Statement.{Statement}
use Rattle.sql_model.specs.declared.statement.Statement.TheVariants as statement
use Rattle.sql_model.specs.declared.statement.TableRule.{TableRule}
use Rattle.sql_model.specs.declared.statement.TableRule.TheVariants as rule
use Rattle.sql_model.specs.Columns.{same_name}
use Rattle.sql_model.specs.Meets.{base_table, base_tables}
use Rattle.sql_model.specs.Relations.{Relation, relation_named}
use Rattle.sql_model.specs.Syntax.{Name, Query}
use Rattle.schema_read.specs.Building.{State, no_statements, with_unique, with_unique_key, with_named, with_index_key, after_table, after_index, after_statement, state_fault, fault_from, built_from}
use Rattle.schema_read.specs.Builds.{Builds}
use Rattle.schema_read.specs.Faults.{Relations, table_in, referenced, columns_fault, count_fault, primary_fault, key_fault, reference_fault, is_primary_rule, rule_fault, rules_fault, own_table, new_name_fault, repetition_fault, on_table_fault}
use Rattle.schema_read.specs.Fits.{AreColumns, KeysFit, PrimaryFits, FkeyFits}
use Rattle.schema_read.specs.ForeignKeys.{referenced_key, reference, foreign_key, foreign_keys}
use Rattle.schema_read.specs.Indexes.{index_query, primary_columns}
use Rattle.schema_read.specs.Keys.{KeyRule, same_set, has_key, place_in, places_in, place_of_key, keys_of, primary_of}
use Rattle.schema_read.specs.Order.{fault_if, or_else, first_along}
use Rattle.schema_read.specs.Tables.{names_of, written_keys}
use Rattle.schema_read.proofs.built.ColumnsFit.{places_within, rules_within, each_key, at_place}
use Rattle.schema_read.proofs.built.Entries.{each_append, each_map, each_push, found_each, found_has, has_first, has_last, lookup_first, set_each, set_has}
use Rattle.schema_read.proofs.built.Links.{both_pass, no_fault, named_relation, rules-fkeys, faults-are, built_linked}

-- ---- the tables among relations

abbrev IfTable : (Table → Type 0) → Relation → Type 0
IfTable P (relation.Table table) = P table
IfTable P (relation.View query at) = Unit {0}

abbrev IsTable : (Table → Type 0) → Relation → Type 0
IsTable P (relation.Table table) = P table
IsTable P (relation.View query at) = ⊥

-- P holds of each of them, and of some
abbrev EachTable : (Table → Type 0) → Relations → Type 0
EachTable P relations = Each (λ r. IfTable P r.1) relations

abbrev SomeTable : (Table → Type 0) → Relations → Type 0
SomeTable P relations = Has (λ r. IsTable P r.1) relations

abbrev tables_of : Relations → List Table
tables_of relations = filter_map (λ r. base_table r.1) relations

each_table : (P : Table → Type 0) (relations : Relations) → EachTable P relations → Each P (tables_of relations)
each_table P [] each = tt
each_table P ((n, relation.Table table) ∷ relations) each = (each.0, each_table P relations each.1)
each_table P ((n, relation.View query at) ∷ relations) each = each_table P relations each.1

some_table : (P : Table → Type 0) (relations : Relations) → SomeTable P relations → Has P (tables_of relations)
some_table P [] has = absurd has
some_table P ((n, relation.Table table) ∷ relations) (inl p) = inl p
some_table P ((n, relation.Table table) ∷ relations) (inr later) = inr (some_table P relations later)
some_table P ((n, relation.View query at) ∷ relations) (inl p) = absurd p
some_table P ((n, relation.View query at) ∷ relations) (inr later) = some_table P relations later

-- ---- what fits

abbrev Fit : Table → Type 0
Fit table = KeysFit table × PrimaryFits table

-- the tables that a foreign key refers from and to
abbrev Referencing : Fkey → Table → Type 0
Referencing fkey table = (table.number ≡ fkey.from) × AreColumns table fkey.cols

abbrev Referenced : Fkey → Table → Type 0
Referenced fkey table = (table.number ≡ fkey.to) × (AreColumns table fkey.key × (has_key table.keys fkey.key ≡ true))

record Refers (relations : Relations) (fkey : Fkey) : Type 0 where
  pub from : SomeTable (Referencing fkey) relations
  pub to : SomeTable (Referenced fkey) relations
  pub counts : length fkey.cols ≡ length fkey.key

refers_fits : (relations : Relations) (fkey : Fkey) → Refers relations fkey → FkeyFits (tables_of relations) fkey
refers_fits relations fkey r = record { columns = some_table (Referencing fkey) relations r.from; key = some_table (Referenced fkey) relations r.to; counts = r.counts }

refers_push : (relations : Relations) (added : Name × Relation) (fkeys : List Fkey) → Each (Refers relations) fkeys → Each (Refers (relations ++ added ∷ [])) fkeys
refers_push relations added = each_map (Refers relations) (Refers (relations ++ added ∷ [])) (λ fkey r. record {
  from = has_first (λ r. IsTable (Referencing fkey) r.1) relations (added ∷ []) r.from;
  to = has_first (λ r. IsTable (Referenced fkey) r.1) relations (added ∷ []) r.to;
  counts = r.counts;
})

-- ---- foreign keys of a new table
same_count : (m n at : ℕ) → count_fault m n at ≡ None → m ≡ n
same_count m n at h = exact_unsigned_eq m n (not-false (nat_eq m n) (no_fault _ _ _ h))

abbrev KeyFits : Table → ℕ → List ℕ → Type 0
KeyFits table count key = (AreColumns table key × (has_key table.keys key ≡ true)) × (count ≡ length key)

key_fits : (count at : ℕ) (table : Table) (target : Option (List NameAt)) → key_fault count at table target ≡ None → Fit table
    → KeyFits table count (referenced_key table target)
key_fits count at table (Some names) h fit =
    let checks = both_pass (columns_fault table.columns names) _ h in
    let others = both_pass (count_fault count (length names) at) _ checks.1 in
    let last = both_pass (fault_if (not (has_key table.keys (places_in table.columns names))) _ at) None others.1 in (
      (places_within table.columns names checks.0, not-false (has_key table.keys (places_in table.columns names)) (no_fault _ _ _ last.0)),
      same_count count (length names) at others.0 ∙ sym (length-map names (λ n. place_in table.columns n.name)),
    )
key_fits count at table None h fit = by (primary_columns table) refl h
  where
    key_at : (o : Option ℕ) (key : List ℕ) → option_and_then (slice_get table.keys) o ≡ Some key → AreColumns table key × (has_key table.keys key ≡ true)
    key_at None key e = absurd (none-some key e)
    key_at (Some place) key e = at_place (AreColumns table) table.keys place key e fit.0

    by : (o : Option (List ℕ)) → primary_columns table ≡ o → primary_fault count at o ≡ None → KeyFits table count (unwrap_or o [])
    by None e passes = absurd (none-some _ (sym passes))
    by (Some key) e passes = (key_at table.primary key e, same_count count (length key) at passes)

module _ (relations : Relations) (name : Name) (own : Table) (fit : EachTable Fit relations) (own-fits : Fit own) where
  abbrev with_own : Relations
  with_own = relations ++ (name, relation.Table own) ∷ []

  -- the table that is referenced fits, and is one of them
  target_fits : (to : Name) (table : Table) → referenced relations name own to ≡ Some table → Fit table
  target_fits to table h = elim (cases_Bool (same_name to name)) [
    | inl is ↦ subst Fit (same_Some own table (rw is at h)) own-fits
    | inr isnt ↦ found_each (same_name to) (IfTable Fit) relations (relation.Table table) (named_relation relations to table (rw isnt at h)) fit
  ]

  target_there : (P : Table → Type 0) (to : Name) (table : Table) → referenced relations name own to ≡ Some table → P table → SomeTable P with_own
  target_there P to table h p = elim (cases_Bool (same_name to name)) [
    | inl is ↦ has_last (λ r. IsTable P r.1) relations (name, relation.Table own) (subst P (sym (same_Some own table (rw is at h))) p)
    | inr isnt ↦ has_first (λ r. IsTable P r.1) relations ((name, relation.Table own) ∷ [])
        (found_has (same_name to) (IsTable P) relations (relation.Table table) (named_relation relations to table (rw isnt at h)) p)
  ]

  reference_refers : (columns : List NameAt) (to : NameAt) (target : Option (List NameAt)) (o : Option Table) → referenced relations name own to.name ≡ o → columns_fault own.columns columns ≡ None
      → reference_fault (length columns) to target o ≡ None → IfSome (option_map (reference own columns target) o) (Refers with_own)
  reference_refers columns to target None is checked h = tt
  reference_refers columns to target (Some table) is checked h =
      let key = key_fits (length columns) to.at table target h (target_fits to.name table is) in
      let fkey : Fkey = reference own columns target table in
      record {
        from = has_last (λ r. IsTable (Referencing fkey) r.1) relations (name, relation.Table own) (refl, places_within own.columns columns checked);
        to = target_there (Referenced fkey) to.name table is (refl, key.0);
        counts = length-map columns (λ n. place_in own.columns n.name) ∙ key.1;
      }

  rules_refer : (e rules : List TableRule) → first_along (λ earlier r. rule_fault relations name own (list_any is_primary_rule earlier) r) e rules ≡ None
      → Each (Refers with_own) (foreign_keys relations name own rules)
  rules_refer e [] h = tt
  rules_refer e (rule.Key primary columns at ∷ rules) h =
      let checks = both_pass (rule_fault relations name own (list_any is_primary_rule e) (rule.Key primary columns at)) _ h in
      rules_refer (e ++ rule.Key primary columns at ∷ []) rules checks.1
  rules_refer e (rule.Foreign columns to target ∷ rules) h =
      let checks = both_pass (rule_fault relations name own (list_any is_primary_rule e) (rule.Foreign columns to target)) _ h in
      let first = both_pass (columns_fault own.columns columns) _ checks.0 in
      let second = both_pass (reference_fault (length columns) to target (referenced relations name own to.name)) None first.1 in
      with_fitting (foreign_key relations name own (rule.Foreign columns to target)) (foreign_keys relations name own rules)
      (reference_refers columns to target (referenced relations name own to.name) refl first.0 second.0)
      (rules_refer (e ++ rule.Foreign columns to target ∷ []) rules checks.1)
    where
      with_fitting : (o : Option Fkey) (fkeys : List Fkey) → IfSome o (Refers with_own) → Each (Refers with_own) fkeys → Each (Refers with_own) (cons_option o fkeys)
      with_fitting None fkeys fits others = others
      with_fitting (Some fkey) fkeys fits others = (fits, others)

-- ---- a table that has gained a key

module _ (table : Table) (key : List ℕ) where
  abbrev gained : Table
  gained = record table { keys = table.keys ++ key ∷ [] }

  from_gained : (fkey : Fkey) → Referencing fkey table → Referencing fkey (with_unique table key)
  from_gained fkey p = cond_both (has_key table.keys key) table gained (Referencing fkey) (λ old. p) (λ new. p)

  to_gained : (fkey : Fkey) → Referenced fkey table → Referenced fkey (with_unique table key)
  to_gained fkey p = cond_both (has_key table.keys key) table gained (Referenced fkey) (λ old. p)
      (λ new. (p.0, (p.1.0, list_any-append (same_set fkey.key) table.keys (key ∷ []) ∙ or_left (has_key table.keys fkey.key) (has_key (key ∷ []) fkey.key) p.1.1)))

  fit_gained : Fit table → AreColumns table key → Fit (with_unique table key)
  fit_gained fit within = cond_both (has_key table.keys key) table gained Fit (λ old. fit) (λ new. (each_push (AreColumns table) table.keys key fit.0 within, longer table.primary fit.1))
    where
      longer : (o : Option ℕ) → IfSome o (λ place. place < length table.keys) → IfSome o (λ place. place < length (table.keys ++ key ∷ []))
      longer None h = tt
      longer (Some place) h = omega (arith, h, length-append table.keys (key ∷ []))

-- ---- one statement
record Fitting (state : State) : Type 0 where
  pub tables : EachTable Fit state.relations
  pub fkeys : Each (Refers state.relations) state.fkeys

own_fits : (relations : Relations) (name : Name) (number : ℕ) (columns : List NameAt) (rules : List TableRule)
    → rules_fault relations name (own_table number columns rules) rules ≡ None → Fit (own_table number columns rules)
own_fits relations name number columns rules h = (
  each_key (λ places. Each (λ c. c < length (names_of columns)) places) written (rules_within relations name (own_table number columns rules) [] rules h),
  primary (primary_of written),
)
  where
    written : List KeyRule
    written = written_keys (names_of columns) rules

    primary : (p : Option (List ℕ)) → IfSome (option_and_then (place_of_key (keys_of written)) p) (λ place. place < length (keys_of written))
    primary None = tt
    primary (Some q) = cond_both (nat_lt (position_or_len (same_set q) (keys_of written)) (length (keys_of written))) (Some (position_or_len (same_set q) (keys_of written))) None
        (λ o. IfSome o (λ place. place < length (keys_of written))) (λ e. ltb-true (position_or_len (same_set q) (keys_of written)) (length (keys_of written)) e) (λ e. tt)

table_fits : (state : State) (name : NameAt) (columns : List NameAt) (rules : List TableRule) → Fitting state
    → rules_fault state.relations name.name (own_table state.tables columns rules) rules ≡ None
    → Fitting (after_table state name rules (own_table state.tables columns rules))
table_fits state name columns rules fitting h =
    let own = own_table state.tables columns rules in
    let own-fits = own_fits state.relations name.name state.tables columns rules h in
    let added : Name × Relation = (name.name, relation.Table own) in
    record {
      tables = each_push (λ r. IfTable Fit r.1) state.relations added fitting.tables own-fits;
      fkeys = subst (Each (Refers (state.relations ++ added ∷ []))) (sym (rules-fkeys state.relations name.name own state.fkeys rules))
          (each_append (Refers (state.relations ++ added ∷ [])) state.fkeys (foreign_keys state.relations name.name own rules)
          (refers_push state.relations added state.fkeys fitting.fkeys) (rules_refer state.relations name.name own fitting.tables own-fits [] rules h));
    }

view_fits : (state : State) (name : Name) (query : Query) (at : ℕ) → Fitting state
    → Fitting (record state { relations = state.relations ++ (name, relation.View query at) ∷ [] })
view_fits state name query at fitting = let added : Name × Relation = (name, relation.View query at) in record {
  tables = each_push (λ r. IfTable Fit r.1) state.relations added fitting.tables tt;
  fkeys = refers_push state.relations added state.fkeys fitting.fkeys;
}

key_step : (state : State) (on : Name) (table : Table) (key : List ℕ) → Fitting state → relation_named on state.relations ≡ Some (relation.Table table)
    → AreColumns table key → (unique : Bool) → Fitting (record state { relations = with_index_key state.relations unique on key })
key_step state on table key fitting found within false = fitting
key_step state on table key fitting found within true =
    let new : Relation = relation.Table (with_unique table key) in
    let fit = fit_gained table key (found_each (same_name on) (IfTable Fit) state.relations (relation.Table table) found fitting.tables) within in
    subst (λ o. Fitting (record state { relations = with_named (with_unique_key key) on state.relations o })) (sym found)
    (record {
      tables = set_each (same_name on) (IfTable Fit) state.relations new fitting.tables fit;
      fkeys = each_map (Refers state.relations) (Refers (set_value (same_name on) state.relations new)) (λ fkey r. record {
        from = set_has (same_name on) (IsTable (Referencing fkey)) state.relations (relation.Table table) new found (from_gained table key fkey) r.from;
        to = set_has (same_name on) (IsTable (Referenced fkey)) state.relations (relation.Table table) new found (to_gained table key fkey) r.to;
        counts = r.counts;
      }) state.fkeys fitting.fkeys;
    })

index_fits : (state : State) (name : NameAt) (unique : Bool) (on : NameAt) (columns : List NameAt) (o : Option Table) → Fitting state
    → table_in state.relations on.name ≡ o → on_table_fault on columns o ≡ None → Fitting (after_index state name unique on columns o)
index_fits state name unique on columns None fitting found h = fitting
index_fits state name unique on columns (Some table) fitting found h =
    let view : Name × Relation = (name.name, relation.View (index_query on columns table) name.at) in
    key_step (record state { relations = state.relations ++ view ∷ [] }) on.name table (places_in table.columns columns)
    (view_fits state name.name (index_query on columns table) name.at fitting)
    (lookup_first (same_name on.name) state.relations (view ∷ []) (relation.Table table) (named_relation state.relations on.name table found))
    (places_within table.columns columns h) unique

step_fits : (state : State) (s : Statement) → Fitting state → state_fault state s ≡ None → Fitting (after_statement state s)
step_fits state (statement.Table name columns rules) fitting h =
    let checks = both_pass (new_name_fault state.relations name) _ h in
    let others = both_pass (repetition_fault columns) _ checks.1 in
    table_fits state name columns rules fitting (both_pass (rules_fault state.relations name.name (own_table state.tables columns rules) rules) None others.1).0
step_fits state (statement.View name query) fitting h = view_fits state name.name query name.at fitting
step_fits state (statement.Index name unique on columns) fitting h =
    let checks = both_pass (new_name_fault state.relations name) (or_else (on_table_fault on columns (table_in state.relations on.name)) None) h in
    index_fits state name unique on columns (table_in state.relations on.name) fitting refl
    (both_pass (on_table_fault on columns (table_in state.relations on.name)) None checks.1).0

built_fits : (state : State) (xs : List Statement) → Fitting state → fault_from state xs ≡ None → Fitting (built_from state xs)
built_fits state [] fitting h = fitting
built_fits state (s ∷ xs) fitting h =
    let checks = both_pass (state_fault state s) (fault_from (after_statement state s) xs) h in
    built_fits (after_statement state s) xs (step_fits state s fitting checks.0) checks.1

-- ---- a schema
module _ (statements : List Statement) (schema : Schema) (builds : Builds statements schema) where
  fitting : Fitting (built_from no_statements statements)
  fitting = built_fits no_statements statements (record { tables = tt; fkeys = tt }) (faults-are statements ∙ builds.faultless)

  same_relations : (built_from no_statements statements).relations ≡ schema.relations.entries
  same_relations = sym (builds.relations ∙ sym (built_linked statements builds.faultless).relations)

  each_fits : Each Fit (base_tables schema)
  each_fits = each_table Fit schema.relations.entries (subst (EachTable Fit) same_relations fitting.tables)

  pub keys_fit : Each KeysFit (base_tables schema)
  keys_fit = each_map Fit KeysFit (λ table fit. fit.0) (base_tables schema) each_fits

  pub primary_keys_fit : Each PrimaryFits (base_tables schema)
  primary_keys_fit = each_map Fit PrimaryFits (λ table fit. fit.1) (base_tables schema) each_fits

  pub fkeys_fit : Each (FkeyFits (base_tables schema)) schema.fkeys
  fkeys_fit = each_map (Refers schema.relations.entries) (FkeyFits (base_tables schema)) (refers_fits schema.relations.entries) schema.fkeys
      (subst (λ relations. Each (Refers relations) schema.fkeys) same_relations
      (subst (Each (Refers (built_from no_statements statements).relations)) (sym (builds.fkeys ∙ sym (built_linked statements builds.faultless).fkeys)) fitting.fkeys))
