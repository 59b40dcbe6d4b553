-- The builder, statement by statement, builds what the statements declare.
use Rattle.std.proofs.Common.{◌≡◌, ℕ, ◌+◌, Bool, true, false, ◌||◌, List, [], ◌∷◌, ◌++◌, length, Option, Some, None, option_and_then, unwrap_or, refl, sym, ap, subst, ◌∙◌, append_assoc, true≢false, inl, inr, arith, length-append}
use Rattle.std.specs.Prelude.{is_some, filter}
use Rattle.std.specs.List.{cons_option, list_any, flat_map}
use Rattle.std.specs.Map.{lookup, set_value}
use Rattle.std.specs.Cmp.Lexicographic.{same_text}
use Rattle.std.proofs.lemmas.Bool.{and_right, cases_Bool, or_parts}
use Rattle.std.proofs.lemmas.List.{append-nil}
use Rattle.std.proofs.lemmas.List.Concat.{flat_map-append}
use Rattle.std.proofs.lemmas.List.Elements.{filter-append, filter_map-append}
use Rattle.std.proofs.lemmas.List.Folds.{list_any-append}
use Rattle.std.proofs.lemmas.Option.{none-some, same_Some}
use Rattle.data_model.specs.Lists.{Each}
use Rattle.sql_model.specs.declared.schema.Fkey.{Fkey}
use Rattle.sql_model.specs.declared.schema.Relation.TheVariants as relation
use Rattle.sql_model.specs.declared.schema.Table.{Table}
use Rattle.sql_model.specs.declared.statement.NameAt.{NameAt}
use Rattle.sql_model.specs.declared.statement.Statement.{Statement}
use Rattle.sql_model.specs.declared.statement.Statement.TheVariants as statement
use Rattle.sql_model.specs.declared.statement.TableRule.{TableRule}
use Rattle.sql_model.specs.Columns.{same_name}
use Rattle.sql_model.specs.Meets.{base_table}
use Rattle.sql_model.specs.Relations.{Relation, relation_named}
use Rattle.sql_model.specs.Syntax.{Name, Query}
use Rattle.schema_read.specs.Building.{State, no_statements, after_rule, after_rules, with_fkey, with_unique, with_unique_key, with_named, with_index_key, after_table, after_index, after_statement, state_fault, fault_from, built_from}
use Rattle.schema_read.specs.Builds.{fault_after, schema_fault}
use Rattle.schema_read.specs.Declarations.{declared_name, is_table, count_tables, index_key, index_keys, whole_table, declared_table, table_entry, table_named, no_table, declared_relation, relation_entry, relations_of, declared_fkeys, fkeys_of}
use Rattle.schema_read.specs.Faults.{Relations, table_in, own_table, new_name_fault, on_table_fault, statement_fault}
use Rattle.schema_read.specs.ForeignKeys.{foreign_key, foreign_keys}
use Rattle.schema_read.specs.Indexes.{index_query}
use Rattle.schema_read.specs.Keys.{places_in}
use Rattle.schema_read.specs.Order.{Fault, fault_if, or_else, first_along, map_along}
use Rattle.schema_read.specs.Tables.{names_of, written_keys, table_of}
use Rattle.schema_read.specs.declared.fault.SchemaCode.{SchemaCode}
use Rattle.schema_read.proofs.built.Entries.{lookup_first, set_first}
use Rattle.schema_read.proofs.built.UniqueKeys.{unique_rule, unique_added}

-- ---- checks that pass
pub no_fault : (b : Bool) (code : SchemaCode) (at : ℕ) → fault_if b code at ≡ None → b ≡ false
no_fault true code at h = absurd (none-some _ (sym h))
no_fault false code at h = refl

pub both_pass : (check rest : Option Fault) → or_else check rest ≡ None → (check ≡ None) × (rest ≡ None)
both_pass None rest h = (refl, h)
both_pass (Some fault) rest h = absurd (none-some fault (sym h))

-- ---- members with those before them
along-push : {X Y : Type 0} (give : List X → X → Y) (e xs : List X) (x : X) → map_along give e (xs ++ x ∷ []) ≡ map_along give e xs ++ give (e ++ xs) x ∷ []
along-push give e [] x = ap (λ es. give es x ∷ []) (sym (append-nil e))
along-push give e (y ∷ xs) x =
    ap (λ ys. give e y ∷ ys)
    (along-push give (e ++ y ∷ []) xs x ∙ ap (λ es. map_along give (e ++ y ∷ []) xs ++ give es x ∷ []) (append_assoc e (y ∷ []) xs))

-- ---- names
abbrev is_declared : Name → List Statement → Bool
is_declared name statements = list_any (λ s. same_name name (declared_name s)) statements

declared-push : (name : Name) (xs : List Statement) (s : Statement) → is_declared name (xs ++ s ∷ []) ≡ (is_declared name xs || (same_name name (declared_name s) || false))
declared-push name xs s = list_any-append (λ t. same_name name (declared_name t)) xs (s ∷ [])

named-declared : (all : List Statement) (name : Name) (e xs : List Statement)
    → is_some (lookup (same_name name) (map_along (relation_entry all) e xs)) ≡ is_declared name xs
named-declared all name e [] = refl
named-declared all name e (x ∷ xs) =
    elim (cases_Bool (same_name name (declared_name x))) [ inl is ↦ rw is refl | inr isnt ↦ rw isnt (named-declared all name (e ++ x ∷ []) xs) ]

other_way : (a b : Name) → same_name a b ≡ false → same_name b a ≡ false
other_way a b h = elim (cases_Bool (same_name b a)) [
  | inl is ↦ let same : b ≡ a = same_text b a (sym is) in subst (λ n. same_name n a ≡ same_name a n) (sym same) refl ∙ h
  | inr isnt ↦ isnt
]

-- no two statements declare one name
abbrev Apart : List Statement → Type 0
Apart [] = Unit {0}
Apart (s ∷ statements) = (is_declared (declared_name s) statements ≡ false) × Apart statements

apart_push : (xs : List Statement) (s : Statement) → Apart xs → is_declared (declared_name s) xs ≡ false → Apart (xs ++ s ∷ [])
apart_push [] s apart new = (refl, tt)
apart_push (x ∷ xs) s apart new =
    let parts = or_parts (same_name (declared_name s) (declared_name x)) (is_declared (declared_name s) xs) new in
    (rw (declared-push (declared_name x) xs s, apart.0, other_way (declared_name s) (declared_name x) parts.0) refl, apart_push xs s apart.1 parts.1)

-- ---- tables
named-table : (all : List Statement) (test : Name → Bool) (e xs : List Statement)
    → option_and_then base_table (lookup test (map_along (relation_entry all) e xs)) ≡ option_and_then (λ t. t) (lookup test (map_along (table_entry all) e xs))
named-table all test e [] = refl
named-table all test e (x ∷ xs) = elim (cases_Bool (test (declared_name x))) [ inl is ↦ rw is (same x) | inr isnt ↦ rw isnt (named-table all test (e ++ x ∷ []) xs) ]
  where
    same : (s : Statement) → base_table (declared_relation all e s) ≡ declared_table all e s
    same (statement.Table name columns rules) = refl
    same (statement.View name query) = refl
    same (statement.Index name unique on columns) = refl

-- ---- keys of indexes
keys-push : (name : Name) (columns : List Name) (xs : List Statement) (s : Statement)
    → index_keys name columns (xs ++ s ∷ []) ≡ index_keys name columns xs ++ index_keys name columns (s ∷ [])
keys-push name columns xs s = filter_map-append (index_key name columns) xs (s ∷ [])

keys_same : (name : Name) (columns : List Name) (xs : List Statement) (s : Statement) → index_key name columns s ≡ None
    → index_keys name columns (xs ++ s ∷ []) ≡ index_keys name columns xs
keys_same name columns xs s none =
    keys-push name columns xs s ∙ ap (λ o. index_keys name columns xs ++ cons_option o []) none ∙ append-nil (index_keys name columns xs)

-- a further statement that declares no key of a relation leaves it as it is
same_relation : (all e : List Statement) (s x : Statement) → ((columns : List Name) → index_key (declared_name x) columns s ≡ None)
    → declared_relation (all ++ s ∷ []) e x ≡ declared_relation all e x
same_relation all e s (statement.Table name columns rules) none =
    ap (λ keys. relation.Table (table_of (count_tables e) (names_of columns) (written_keys (names_of columns) rules ++ keys)))
    (keys_same name.name (names_of columns) all s (none (names_of columns)))
same_relation all e s (statement.View name query) none = refl
same_relation all e s (statement.Index name unique on columns) none = refl

abbrev NoKeys : Statement → List Statement → Type 0
NoKeys s xs = Each (λ x. (columns : List Name) → index_key (declared_name x) columns s ≡ None) xs

same_relations : (all e xs : List Statement) (s : Statement) → NoKeys s xs
    → map_along (relation_entry (all ++ s ∷ [])) e xs ≡ map_along (relation_entry all) e xs
same_relations all e [] s none = refl
same_relations all e (x ∷ xs) s none =
    ap (λ r. (declared_name x, r) ∷ map_along (relation_entry (all ++ s ∷ [])) (e ++ x ∷ []) xs) (same_relation all e s x none.0)
    ∙ ap (λ rs. (declared_name x, declared_relation all e x) ∷ rs) (same_relations all (e ++ x ∷ []) xs s none.1)

no_keys : (s : Statement) → ((name : Name) (columns : List Name) → index_key name columns s ≡ None) → (xs : List Statement) → NoKeys s xs
no_keys s none [] = tt
no_keys s none (x ∷ xs) = (none (declared_name x), no_keys s none xs)

-- an index on another name, and on a name that none of the statements declares
module _ (name : NameAt) (unique : Bool) (on : NameAt) (columns : List NameAt) where
  no_key : (x : Name) (names : List Name) → same_name on.name x ≡ false → index_key x names (statement.Index name unique on columns) ≡ None
  no_key x names isnt = rw (and_right unique (same_name on.name x) isnt) refl

  no_keys_elsewhere : (xs : List Statement) → is_declared on.name xs ≡ false → NoKeys (statement.Index name unique on columns) xs
  no_keys_elsewhere [] new = tt
  no_keys_elsewhere (x ∷ xs) new =
      let parts = or_parts (same_name on.name (declared_name x)) (is_declared on.name xs) new in
      ((λ names. no_key (declared_name x) names parts.0), no_keys_elsewhere xs parts.1)

-- ---- a unique index
module _ (name on : NameAt) (columns : List NameAt) where
  abbrev index : Statement
  index = statement.Index name true on columns

  own-key : (x : Name) (names : List Name) → same_name on.name x ≡ true → index_keys x names (index ∷ []) ≡ unique_rule (places_in names columns) ∷ []
  own-key x names same = rw same refl

  changed_head : (all e : List Statement) (x : Statement) (table : Table) → same_name on.name (declared_name x) ≡ true → declared_relation all e x ≡ relation.Table table
      → relation.Table (with_unique table (places_in table.columns columns)) ≡ declared_relation (all ++ index ∷ []) e x
  changed_head all e (statement.Table n cols rules) table same is =
      let names = names_of cols in
      let found : whole_table all (count_tables e) n.name names rules ≡ table = ap (λ r. unwrap_or (base_table r) table) is in
      ap (λ t. relation.Table (with_unique t (places_in t.columns columns))) (sym found)
      ∙ ap relation.Table (sym (unique_added (count_tables e) names (written_keys names rules ++ index_keys n.name names all) (places_in names columns)))
      ∙ ap (λ rules. relation.Table (table_of (count_tables e) names rules))
      (append_assoc (written_keys names rules) (index_keys n.name names all) _
      ∙ ap (λ keys. written_keys names rules ++ keys) (ap (λ keys. index_keys n.name names all ++ keys) (sym (own-key n.name names same)) ∙ sym (keys-push n.name names all index)))
  changed_head all e (statement.View n query) table same is = absurd (none-some table (ap base_table is))
  changed_head all e (statement.Index n unique o cols) table same is = absurd (none-some table (ap base_table is))

  abbrev changed_table : Table → Relation
  changed_table table = relation.Table (with_unique table (places_in table.columns columns))

  abbrev rest_of : List Statement → List Statement → Statement → List Statement → Relations
  rest_of all e x xs = map_along (relation_entry all) (e ++ x ∷ []) xs

  changed_relations : (all e xs : List Statement) (table : Table) → lookup (same_name on.name) (map_along (relation_entry all) e xs) ≡ Some (relation.Table table) → Apart xs
      → set_value (same_name on.name) (map_along (relation_entry all) e xs) (relation.Table (with_unique table (places_in table.columns columns)))
      ≡ map_along (relation_entry (all ++ index ∷ [])) e xs
  changed_relations all e [] table found apart = refl
  changed_relations all e (x ∷ xs) table found apart = elim (cases_Bool (same_name on.name (declared_name x))) [
    | inl is ↦ rw is (
        let one : declared_name x ≡ on.name = sym (same_text on.name (declared_name x) (sym is)) in
        ap (λ r. (declared_name x, r) ∷ rest_of all e x xs) (changed_head all e x table is (same_Some (declared_relation all e x) (relation.Table table) (rw is at found)))
        ∙ ap (λ rs. (declared_name x, declared_relation (all ++ index ∷ []) e x) ∷ rs)
        (sym (same_relations all (e ++ x ∷ []) xs index (no_keys_elsewhere name true on columns xs (subst (λ n. is_declared n xs ≡ false) one apart.0)))))
    | inr isnt ↦ rw isnt (
        ap (λ r. (declared_name x, r) ∷ set_value (same_name on.name) (rest_of all e x xs) (changed_table table))
        (sym (same_relation all e index x (λ names. no_key name true on columns (declared_name x) names isnt)))
        ∙ ap (λ rs. (declared_name x, declared_relation (all ++ index ∷ []) e x) ∷ rs) (changed_relations all (e ++ x ∷ []) xs table (rw isnt at found) apart.1))
  ]

-- ---- foreign keys
pub rules-fkeys : (relations : Relations) (name : Name) (own : Table) (fkeys : List Fkey) (rules : List TableRule)
    → after_rules relations name own fkeys rules ≡ fkeys ++ foreign_keys relations name own rules
rules-fkeys relations name own fkeys [] = sym (append-nil fkeys)
rules-fkeys relations name own fkeys (r ∷ rules) =
    rules-fkeys relations name own (after_rule relations name own fkeys r) rules ∙ one_more (foreign_key relations name own r) (foreign_keys relations name own rules)
  where
    one_more : (o : Option Fkey) (others : List Fkey) → with_fkey fkeys o ++ others ≡ fkeys ++ cons_option o others
    one_more None others = refl
    one_more (Some f) others = append_assoc fkeys (f ∷ []) others

fkeys-push : (earlier : List Statement) (s : Statement) → fkeys_of (earlier ++ s ∷ []) ≡ fkeys_of earlier ++ declared_fkeys earlier s
fkeys-push earlier s =
    ap (flat_map (λ fkeys. fkeys)) (along-push declared_fkeys [] earlier s)
    ∙ flat_map-append (λ fkeys. fkeys) (map_along declared_fkeys [] earlier) (declared_fkeys earlier s ∷ [])
    ∙ ap (λ fkeys. fkeys_of earlier ++ fkeys) (append-nil (declared_fkeys earlier s))

count-push : (earlier : List Statement) (s : Statement) → count_tables (earlier ++ s ∷ []) ≡ count_tables earlier + length (filter is_table (s ∷ []))
count-push earlier s = ap length (filter-append is_table earlier (s ∷ [])) ∙ length-append (filter is_table earlier) (filter is_table (s ∷ []))

-- ---- one statement
-- what the builder has after these statements, none of which is refused
pub record Linked (earlier : List Statement) (state : State) : Type 0 where
  pub relations : state.relations ≡ relations_of earlier
  pub tables : state.tables ≡ count_tables earlier
  pub fkeys : state.fkeys ≡ fkeys_of earlier
  pub apart : Apart earlier
  -- an index names a table before it
  pub covered : (name : Name) (columns : List Name) → is_declared name earlier ≡ false → index_keys name columns earlier ≡ []

relations-push : (earlier : List Statement) (s : Statement) → NoKeys s earlier
    → relations_of (earlier ++ s ∷ []) ≡ relations_of earlier ++ relation_entry (earlier ++ s ∷ []) earlier s ∷ []
relations-push earlier s none =
    along-push (relation_entry (earlier ++ s ∷ [])) [] earlier s
    ∙ ap (λ rs. rs ++ relation_entry (earlier ++ s ∷ []) earlier s ∷ []) (same_relations earlier [] earlier s none)

-- a statement that declares no key
module _ (earlier : List Statement) (s : Statement) (none : (name : Name) (columns : List Name) → index_key name columns s ≡ None) where
  covered_push : ((name : Name) (columns : List Name) → is_declared name earlier ≡ false → index_keys name columns earlier ≡ [])
      → (name : Name) (columns : List Name) → is_declared name (earlier ++ s ∷ []) ≡ false → index_keys name columns (earlier ++ s ∷ []) ≡ []
  covered_push covered name columns new =
      keys_same name columns earlier s (none name columns)
      ∙ covered name columns (or_parts (is_declared name earlier) (same_name name (declared_name s) || false) (sym (declared-push name earlier s) ∙ new)).0

no-table : (earlier : List Statement) (s : Statement) → is_table s ≡ false → count_tables earlier ≡ count_tables (earlier ++ s ∷ [])
no-table earlier s other = let none : length (filter is_table (s ∷ [])) ≡ 0 = rw other refl in omega (arith, count-push earlier s, none)

no-fkeys : (earlier : List Statement) (s : Statement) → declared_fkeys earlier s ≡ [] → fkeys_of earlier ≡ fkeys_of (earlier ++ s ∷ [])
no-fkeys earlier s none = sym (fkeys-push earlier s ∙ ap (λ fs. fkeys_of earlier ++ fs) none ∙ append-nil (fkeys_of earlier))

table_step : (earlier : List Statement) (name : NameAt) (columns : List NameAt) (rules : List TableRule)
    → (state : State) → Linked earlier state → is_declared name.name earlier ≡ false
    → Linked (earlier ++ statement.Table name columns rules ∷ []) (after_table state name rules (own_table state.tables columns rules))
table_step earlier name columns rules state linked new =
    let s : Statement = statement.Table name columns rules in
    let names = names_of columns in
    let written = written_keys names rules in
    let none : (n : Name) (cols : List Name) → index_key n cols s ≡ None = λ n cols. refl in
    let table : own_table state.tables columns rules ≡ whole_table (earlier ++ s ∷ []) (count_tables earlier) name.name names rules =
    ap (λ n. table_of n names written) linked.tables
    ∙ ap (table_of (count_tables earlier) names) (sym (append-nil written) ∙ ap (λ keys. written ++ keys) (sym (keys_same name.name names earlier s (none name.name names) ∙ linked.covered name.name names new))) in
    record {
      relations =
          ap (λ rs. rs ++ (name.name, relation.Table (own_table state.tables columns rules)) ∷ []) linked.relations
          ∙ ap (λ t. relations_of earlier ++ (name.name, relation.Table t) ∷ []) table ∙ sym (relations-push earlier s (no_keys s none earlier));
      tables = ap (λ n. n + 1) linked.tables ∙ sym (count-push earlier s);
      fkeys =
          rules-fkeys state.relations name.name (own_table state.tables columns rules) state.fkeys rules
          ∙ (rw (linked.relations, linked.tables, linked.fkeys) refl) ∙ sym (fkeys-push earlier s);
      apart = apart_push earlier s linked.apart new;
      covered = covered_push earlier s none linked.covered;
    }

view_step : (earlier : List Statement) (name : NameAt) (query : Query) (state : State) → Linked earlier state → is_declared name.name earlier ≡ false
    → Linked (earlier ++ statement.View name query ∷ []) (after_statement state (statement.View name query))
view_step earlier name query state linked new =
    let s : Statement = statement.View name query in
    let none : (n : Name) (cols : List Name) → index_key n cols s ≡ None = λ n cols. refl in
    record {
      relations = ap (λ rs. rs ++ (name.name, relation.View query name.at) ∷ []) linked.relations ∙ sym (relations-push earlier s (no_keys s none earlier));
      tables = linked.tables ∙ no-table earlier s refl;
      fkeys = linked.fkeys ∙ no-fkeys earlier s refl;
      apart = apart_push earlier s linked.apart new;
      covered = covered_push earlier s none linked.covered;
    }

-- ---- an index
table-is : (name : Name) (statements : List Statement) → table_in (relations_of statements) name ≡ table_named statements name
table-is name statements = named-table statements (same_name name) [] statements

pub named_relation : (relations : Relations) (name : Name) (table : Table) → table_in relations name ≡ Some table → relation_named name relations ≡ Some (relation.Table table)
named_relation relations name table h = by (relation_named name relations) h
  where
    by : (o : Option Relation) → option_and_then base_table o ≡ Some table → o ≡ Some (relation.Table table)
    by None e = absurd (none-some table e)
    by (Some (relation.Table t)) e = ap (λ o. Some (relation.Table (unwrap_or o t))) e
    by (Some (relation.View query at)) e = absurd (none-some table e)

index-entry : (earlier : List Statement) (name : NameAt) (unique : Bool) (on : NameAt) (columns : List NameAt) (table : Table)
    → table_named earlier on.name ≡ Some table → (all : List Statement)
    → relation_entry all earlier (statement.Index name unique on columns) ≡ (name.name, relation.View (index_query on columns table) name.at)
index-entry earlier name unique on columns table found all = ap (λ o. (name.name, relation.View (index_query on columns (unwrap_or o no_table)) name.at)) found

module _ (earlier : List Statement) (name on : NameAt) (columns : List NameAt) (table : Table)
    (found : table_in (relations_of earlier) on.name ≡ Some table) (apart : Apart earlier) where
  abbrev entry : Name × Relation
  entry = (name.name, relation.View (index_query on columns table) name.at)

  plain-relations : relations_of earlier ++ entry ∷ [] ≡ relations_of (earlier ++ statement.Index name false on columns ∷ [])
  plain-relations =
      let s : Statement = statement.Index name false on columns in
      sym (relations-push earlier s (no_keys s (λ n cols. refl) earlier)
      ∙ ap (λ r. relations_of earlier ++ r ∷ []) (index-entry earlier name false on columns table (sym (table-is on.name earlier) ∙ found) (earlier ++ s ∷ [])))

  unique-relations : with_index_key (relations_of earlier ++ entry ∷ []) true on.name (places_in table.columns columns)
      ≡ relations_of (earlier ++ statement.Index name true on columns ∷ [])
  unique-relations =
      let s : Statement = statement.Index name true on columns in
      let key = places_in table.columns columns in
      let named = named_relation (relations_of earlier) on.name table found in
      let relations = relations_of earlier in
      ap (with_named (with_unique_key key) on.name (relations ++ entry ∷ [])) (lookup_first (same_name on.name) relations (entry ∷ []) (relation.Table table) named)
      ∙ set_first (same_name on.name) relations (entry ∷ []) (relation.Table table) (relation.Table (with_unique table key)) named
      ∙ ap (λ rs. rs ++ entry ∷ []) (changed_relations name on columns earlier [] earlier table named apart)
      ∙ ap (λ r. map_along (relation_entry (earlier ++ s ∷ [])) [] earlier ++ r ∷ [])
      (sym (index-entry earlier name true on columns table (sym (table-is on.name earlier) ∙ found) (earlier ++ s ∷ [])))
      ∙ sym (along-push (relation_entry (earlier ++ s ∷ [])) [] earlier s)

  index-relations : (unique : Bool) → with_index_key (relations_of earlier ++ entry ∷ []) unique on.name (places_in table.columns columns)
      ≡ relations_of (earlier ++ statement.Index name unique on columns ∷ [])
  index-relations true = unique-relations
  index-relations false = plain-relations

found_declared : (earlier : List Statement) (name : Name) (table : Table) → table_in (relations_of earlier) name ≡ Some table → is_declared name earlier ≡ true
found_declared earlier name table found = sym (named-declared earlier name [] earlier) ∙ ap is_some (named_relation (relations_of earlier) name table found)

covered_index : (earlier : List Statement) (name : NameAt) (unique : Bool) (on : NameAt) (columns : List NameAt) → is_declared on.name earlier ≡ true
    → (n : Name) (cols : List Name) → is_declared n earlier ≡ false → index_key n cols (statement.Index name unique on columns) ≡ None
covered_index earlier name unique on columns known n cols new = no_key name unique on columns n cols (elim (cases_Bool (same_name on.name n)) [
  | inl is ↦ absurd (true≢false (sym known ∙ ap (λ m. is_declared m earlier) (same_text on.name n (sym is)) ∙ new))
  | inr isnt ↦ isnt
])

index_step : (earlier : List Statement) (name : NameAt) (unique : Bool) (on : NameAt) (columns : List NameAt) (state : State) (o : Option Table)
    → Linked earlier state → is_declared name.name earlier ≡ false → table_in state.relations on.name ≡ o → on_table_fault on columns o ≡ None
    → Linked (earlier ++ statement.Index name unique on columns ∷ []) (after_index state name unique on columns o)
index_step earlier name unique on columns state None linked new found passes = absurd (none-some _ (sym passes))
index_step earlier name unique on columns state (Some table) linked new found passes =
    let s : Statement = statement.Index name unique on columns in
    let there : table_in (relations_of earlier) on.name ≡ Some table = ap (λ rs. table_in rs on.name) (sym linked.relations) ∙ found in
    record {
      relations =
          ap (λ rs. with_index_key (rs ++ (name.name, relation.View (index_query on columns table) name.at) ∷ []) unique on.name (places_in table.columns columns)) linked.relations
          ∙ index-relations earlier name on columns table there linked.apart unique;
      tables = linked.tables ∙ no-table earlier s refl;
      fkeys = linked.fkeys ∙ no-fkeys earlier s refl;
      apart = apart_push earlier s linked.apart new;
      covered = λ n cols later.
          let before = (or_parts (is_declared n earlier) (same_name n name.name || false) (sym (declared-push n earlier s) ∙ later)).0 in
          keys_same n cols earlier s (covered_index earlier name unique on columns (found_declared earlier on.name table there) n cols before)
          ∙ linked.covered n cols before;
    }

-- ---- all statements
fault-is : (earlier : List Statement) (state : State) (s : Statement) → Linked earlier state → state_fault state s ≡ fault_after earlier s
fault-is earlier state s linked =
    ap (λ rs. statement_fault rs state.tables s) linked.relations ∙ ap (λ n. statement_fault (relations_of earlier) n s) linked.tables

new_in : (earlier : List Statement) (state : State) (name : NameAt) → Linked earlier state → new_name_fault state.relations name ≡ None → is_declared name.name earlier ≡ false
new_in earlier state name linked h = sym (named-declared earlier name.name [] earlier) ∙ no_fault _ _ _ (ap (λ rs. new_name_fault rs name) (sym linked.relations) ∙ h)

pub linked_step : (earlier : List Statement) (state : State) (s : Statement) → Linked earlier state → state_fault state s ≡ None
    → Linked (earlier ++ s ∷ []) (after_statement state s)
linked_step earlier state (statement.Table name columns rules) linked passes =
    table_step earlier name columns rules state linked (new_in earlier state name linked (both_pass _ _ passes).0)
linked_step earlier state (statement.View name query) linked passes =
    view_step earlier name query state linked (new_in earlier state name linked passes)
linked_step earlier state (statement.Index name unique on columns) linked passes =
    let checks = both_pass (new_name_fault state.relations name) (or_else (on_table_fault on columns (table_in state.relations on.name)) None) passes in
    index_step earlier name unique on columns state (table_in state.relations on.name) linked (new_in earlier state name linked checks.0) refl
    (both_pass (on_table_fault on columns (table_in state.relations on.name)) None checks.1).0

pub faults_agree : (earlier xs : List Statement) (state : State) → Linked earlier state → fault_from state xs ≡ first_along fault_after earlier xs
faults_agree earlier [] state linked = refl
faults_agree earlier (s ∷ xs) state linked =
    behind (state_fault state s) (λ passes. faults_agree (earlier ++ s ∷ []) xs (after_statement state s) (linked_step earlier state s linked passes))
    ∙ ap (λ o. or_else o (first_along fault_after (earlier ++ s ∷ []) xs)) (fault-is earlier state s linked)
  where
    behind : (o : Option Fault) {p q : Option Fault} → (o ≡ None → p ≡ q) → or_else o p ≡ or_else o q
    behind None same = same refl
    behind (Some fault) same = refl

linked_from : (earlier xs : List Statement) (state : State) → Linked earlier state → fault_from state xs ≡ None → Linked (earlier ++ xs) (built_from state xs)
linked_from earlier [] state linked passes = subst (λ es. Linked es state) (sym (append-nil earlier)) linked
linked_from earlier (s ∷ xs) state linked passes =
    let checks = both_pass (state_fault state s) (fault_from (after_statement state s) xs) passes in
    subst (λ es. Linked es (built_from (after_statement state s) xs)) (append_assoc earlier (s ∷ []) xs)
    (linked_from (earlier ++ s ∷ []) xs (after_statement state s) (linked_step earlier state s linked checks.0) checks.1)

none_linked : Linked [] no_statements
none_linked = record { relations = refl; tables = refl; fkeys = refl; apart = tt; covered = λ name columns new. refl }

pub faults-are : (statements : List Statement) → fault_from no_statements statements ≡ schema_fault statements
faults-are statements = faults_agree [] statements no_statements none_linked

pub built_linked : (statements : List Statement) → schema_fault statements ≡ None → Linked statements (built_from no_statements statements)
built_linked statements faultless = linked_from [] statements no_statements none_linked (faults-are statements ∙ faultless)
