-- The resolved tree of a query is plain exactly where the query is.
use Rattle.std.proofs.Common.{◌≡◌, ℕ, suc, Bool, true, false, ◌&&◌, ◌||◌, List, [], ◌∷◌, ◌++◌, map, Option, Some, None, option_map, unwrap_or, refl, ap, sym, subst, ◌∙◌, arith}
use Rattle.std.specs.Prelude.{find, if◌then◌else◌}
use Rattle.sql_model.specs.Syntax as n
use Rattle.sql_model.specs.Syntax.{Name}
use Rattle.sql_model.specs.Frames.{ColumnName}
use Rattle.sql_model.specs.Columns.{same_name}
use Rattle.sql_model.specs.Headings.{Heading, headings, source_columns}
use Rattle.sql_model.specs.Grouping.{has_aggregate, item_has_aggregate, items_have_aggregate}
use Rattle.sql_model.specs.declared.schema.Schema.{Schema}
use Rattle.scope_core.specs.declared.tree.RCond.TheBlock as t
use Rattle.scope_core.specs.declared.tree.RVal.TheVariants as v
use Rattle.scope_core.specs.declared.tree.RSource.TheVariants as s
use Rattle.scope_core.specs.declared.tree.RQuery.TheVariants as q
use Rattle.scope_core.specs.declared.tree.Grouping.TheVariants as g
use Rattle.scope_core.specs.declared.tree.RBlock.{roll-RBlock}
use Rattle.scope_core.specs.Syntax.{RVal, RCond, RSource, RQuery, Grouping}
use Rattle.scope_core.specs.Scope.{Known, heading, AsRows, Level, place_at, rows_level, output_level, on_level, no_entry, grouping_of}
use Rattle.scope_core.specs.Resolving.{entry_of, nothing, star, entry_columns, alias_star, resolved_value, conjuncts, conjuncts_of_each, conjuncts_written, resolved, resolved_block, resolved_entries, resolved_source, on_conjuncts, resolved_items, resolved_item, column_at, column_from}
use Rattle.scope_core.specs.Relations.{known_of}
use Rattle.scope_core.specs.ViewTrees.{tree_of}
use Rattle.scope_core.specs.Plain.{is_table, is_base_table, is_plain_source, is_point, is_plain_condition, are_plain_conditions, is_plain_written, are_plain_entries, is_plain_item, are_plain_items, is_plain, is_tree_point, are_tree_points, is_tree_equality, are_tree_equalities, are_tree_tables, is_plain_tree}
use Rattle.scope_core.specs.WellFormed.{WellFormed}
use Rattle.scope_core.specs.Compute.{everything}
use Rattle.scope_core.proofs.basics.Booleans.{no, and-true, and-false, and-assoc}
use Rattle.scope_core.proofs.well_formed.Resolvability.{well_formed-resolvable}
use Rattle.scope_core.proofs.well_formed.Resolvable.{Resolvable, ResolvableBlock, ResolvableEntries, ResolvableWritten, ResolvableItems, ResolvableItem, ResolvableValue, ResolvableCondition, ResolvableConditions}

-- ---- of lists
points : List RVal → Bool
points [] = true
points (e ∷ es) = is_tree_point e && points es

equalities : List RCond → Bool
equalities [] = true
equalities (c ∷ cs) = is_tree_equality c && equalities cs

tables : List (RSource × ℕ) → Bool
tables [] = true
tables (e ∷ es) = is_table e.0 && tables es

listed-points : (es : List RVal) → are_tree_points (t.hidden-the_row-RVal-1 es) ≡ points es
unfolding everything points
listed-points [] = refl
listed-points (e ∷ es) = ap (λ b. is_tree_point e && b) (listed-points es)

listed-equalities : (cs : List RCond) → are_tree_equalities (t.hidden-the_row-RCond-2 cs) ≡ equalities cs
unfolding everything equalities
listed-equalities [] = refl
listed-equalities (c ∷ cs) = ap (λ b. is_tree_equality c && b) (listed-equalities cs)

listed-tables : (es : List (RSource × ℕ)) → are_tree_tables (t.hidden-the_row-REntry-7 (map entry_of es)) ≡ tables es
unfolding everything tables
listed-tables [] = refl
listed-tables (e ∷ es) = ap (λ b. is_table e.0 && b) (listed-tables es)

points-append : (xs ys : List RVal) → points (xs ++ ys) ≡ (points xs && points ys)
unfolding points
points-append [] ys = refl
points-append (x ∷ xs) ys = ap (λ b. is_tree_point x && b) (points-append xs ys) ∙ and-assoc (is_tree_point x) (points xs) (points ys)

equalities-append : (xs ys : List RCond) → equalities (xs ++ ys) ≡ (equalities xs && equalities ys)
unfolding equalities
equalities-append [] ys = refl
equalities-append (x ∷ xs) ys = ap (λ b. is_tree_equality x && b) (equalities-append xs ys) ∙ and-assoc (is_tree_equality x) (equalities xs) (equalities ys)

-- ---- values, within one block whose rows are seen
column-point : (level : Level) (qual : Option Name) (name : Name) → level.sight ≡ AsRows → is_tree_point (column_from 0 qual name (level ∷ [])) ≡ true
column-point level qual name e =
    subst (λ sight. is_tree_point (unwrap_or (option_map (column_at 0 sight) (place_at qual name level)) (v.Col 1 0 0)) ≡ true) (sym e) (by (place_at qual name level))
  where
    by : (o : Option (ℕ × ℕ)) → is_tree_point (unwrap_or (option_map (column_at 0 AsRows) o) (v.Col 1 0 0)) ≡ true
    by None = refl
    by (Some p) = refl

module _ (known : List Known) (level : Level) (rows : level.sight ≡ AsRows) where
  abbrev hs : List Heading
  hs = map heading known

  value-point : (e : n.Expr) → ResolvableValue e hs (level ∷ []) → is_tree_point (resolved_value e known (level ∷ [])) ≡ is_point e
  unfolding everything resolved Resolvable
  value-point (n.Col qual qual_at name at) f = column-point level qual name rows
  value-point (n.Lit lit at) f = refl
  value-point (n.Fun symbol s args at) f = refl
  value-point (n.Call symbol s args at) f = refl
  value-point (n.Agg fun is_distinct argument at) f = refl
  value-point (n.Sub query at) f = refl
  value-point _ f = absurd f

  mutual
    unfolding everything resolved Resolvable is_plain_condition equalities

    conjuncts-plain : (e : n.Expr) → ResolvableCondition e hs (level ∷ []) → equalities (conjuncts e known (level ∷ [])) ≡ is_plain_condition e
    conjuncts-plain (n.And s parts at) f = conjuncts_of_each-plain parts f
    conjuncts-plain (n.Eq left right at) f =
        and-true (is_tree_point (resolved_value left known (level ∷ [])) && is_tree_point (resolved_value right known (level ∷ [])))
        ∙ (λ i. value-point left f.0 i && value-point right f.1 i)
    conjuncts-plain (n.Pred symbol s args at) f = refl
    conjuncts-plain (n.Call symbol s args at) f = refl
    conjuncts-plain (n.Or s parts at) f = refl
    conjuncts-plain (n.Not part at) f = refl
    conjuncts-plain (n.Exists query at) f = refl
    conjuncts-plain (n.In left query at in_at) f = refl
    conjuncts-plain _ f = absurd f

    conjuncts_of_each-plain : {k : _} (es : n.Exprs k) → ResolvableConditions es hs (level ∷ []) → equalities (conjuncts_of_each es known (level ∷ [])) ≡ are_plain_conditions es
    conjuncts_of_each-plain n.NoExprs f = refl
    conjuncts_of_each-plain (n.ExprThen expr rest) f =
        equalities-append (conjuncts expr known (level ∷ [])) (conjuncts_of_each rest known (level ∷ [])) ∙ (λ i. conjuncts-plain expr f.0 i && conjuncts_of_each-plain rest f.1 i)

  written-plain : (condition : n.MaybeCondition) → ResolvableWritten condition hs (level ∷ []) → equalities (conjuncts_written condition known (level ∷ [])) ≡ is_plain_written condition
  unfolding resolved Resolvable equalities
  written-plain n.NoCondition f = refl
  written-plain (n.ACondition expr) f = conjuncts-plain expr f

  entry_columns-points : (entry column : ℕ) (names : List ColumnName) → points (entry_columns entry column names) ≡ true
  unfolding points
  entry_columns-points entry column [] = refl
  entry_columns-points entry column (name ∷ names) = entry_columns-points entry (suc column) names

  star-points : (entry : ℕ) (from : List Heading) → points (star entry from) ≡ true
  unfolding points
  star-points entry [] = refl
  star-points entry (h ∷ from) =
      points-append (entry_columns entry 0 h.columns) (star (suc entry) from) ∙ (λ i. entry_columns-points entry 0 h.columns i && star-points (suc entry) from i)

  alias_star-points : (alias : Name) (entry : ℕ) (from : List Heading) → points (alias_star alias entry from) ≡ true
  unfolding points
  alias_star-points alias entry [] = refl
  alias_star-points alias entry (h ∷ from) = by (same_name alias h.alias) (alias_star-points alias (suc entry) from)
    where
      by : (b : Bool) → points (alias_star alias (suc entry) from) ≡ true → points (if b then entry_columns entry 0 h.columns else alias_star alias (suc entry) from) ≡ true
      by true rest = entry_columns-points entry 0 h.columns
      by false rest = rest

  item-plain : (item : n.Item) → ResolvableItem item hs (level ∷ []) → points (resolved_item item known (level ∷ [])) ≡ is_plain_item item
  unfolding resolved Resolvable points
  item-plain (n.Star at) f = star-points 0 level.headings
  item-plain (n.AliasStar alias at) f = alias_star-points alias 0 level.headings
  item-plain (n.Value expr name) f = and-true (is_tree_point (resolved_value expr known (level ∷ []))) ∙ value-point expr f

  items-plain : {k : _} (items : n.Items k) → ResolvableItems items hs (level ∷ []) → points (resolved_items items known (level ∷ [])) ≡ are_plain_items items
  unfolding resolved Resolvable points
  items-plain n.NoItems f = refl
  items-plain (n.ItemThen item rest) f =
      points-append (resolved_item item known (level ∷ [])) (resolved_items rest known (level ∷ [])) ∙ (λ i. item-plain item f.0 i && items-plain rest f.1 i)

-- ---- FROM
module _ (known : List Known) where
  abbrev relations : List Heading
  relations = map heading known

  on-rows : (joined : Bool) (before : Level) (entry : ℕ) (h : Heading) → (on_level joined before entry h).sight ≡ AsRows
  on-rows true before entry h = refl
  on-rows false before entry h = refl

  named-plain : (o : Option Known) → is_table (unwrap_or (option_map (λ k. k.source) o) (s.Query (q.Block nothing))) ≡ is_base_table o
  unfolding everything
  named-plain None = refl
  named-plain (Some k) = refl

  source-plain : (source : n.Source) → is_table (resolved_source source known []) ≡ is_plain_source source known
  unfolding everything resolved
  source-plain (n.Named name at) = named-plain (find (λ k. same_name name k.name) known)
  source-plain (n.Derived query) = refl

  shuffled : (a rest on later : Bool) → ((a && rest) && (on && later)) ≡ ((a && on) && (rest && later))
  shuffled true true on later = grind arith
  shuffled true false true later = refl
  shuffled true false false later = refl
  shuffled false rest on later = refl

  entries-plain : {k : _} (es : n.Entries k) (entry : ℕ) (before : Level) → ResolvableEntries es entry before relations []
      → (tables (resolved_entries es known []) && equalities (on_conjuncts es entry before known [])) ≡ are_plain_entries es known
  unfolding resolved Resolvable tables equalities
  entries-plain n.NoEntries entry before f = refl
  entries-plain (n.EntryThen source alias at joined on rest) entry before f =
      let h : Heading = record { alias = alias; columns = source_columns source relations } in
      let seen = on_level joined before entry h in
      let on_conditions = conjuncts_written on known (seen ∷ []) in
      let later = on_conjuncts rest (suc entry) seen known [] in
      ap (λ b. (is_table (resolved_source source known []) && tables (resolved_entries rest known [])) && b) (equalities-append on_conditions later)
      ∙ shuffled (is_table (resolved_source source known [])) (tables (resolved_entries rest known [])) (equalities on_conditions) (equalities later)
      ∙ (λ i. (source-plain source i && written-plain known seen (on-rows joined before entry h) on f.1 i) && entries-plain rest (suc entry) seen f.2 i)

-- ---- blocks
plain-block : (es : List (RSource × ℕ)) (cs : List RCond) (items : List RVal)
    → is_plain_tree (q.Block (roll-RBlock (record { distinct = false; entries = map entry_of es; conds = cs; grouping = g.Plain; having = None; items = items })))
    ≡ (tables es && equalities cs && points items)
unfolding everything
plain-block es cs items = λ i. listed-tables es i && listed-equalities cs i && listed-points items i

distinct-block : (es : List (RSource × ℕ)) (cs : List RCond) (gr : Grouping) (h : Option RCond) (items : List RVal)
    → is_plain_tree (q.Block (roll-RBlock (record { distinct = true; entries = map entry_of es; conds = cs; grouping = gr; having = h; items = items }))) ≡ false
unfolding everything
distinct-block es cs gr h items = refl

grouped-block : (es : List (RSource × ℕ)) (cs : List RCond) (h : Option RCond) (items : List RVal)
    → is_plain_tree (q.Block (roll-RBlock (record { distinct = false; entries = map entry_of es; conds = cs; grouping = g.One; having = h; items = items }))) ≡ false
unfolding everything
grouped-block es cs h items = refl

keyed-block : (es : List (RSource × ℕ)) (cs : List RCond) (columns : List (ℕ × ℕ)) (h : Option RCond) (items : List RVal)
    → is_plain_tree (q.Block (roll-RBlock (record { distinct = false; entries = map entry_of es; conds = cs; grouping = g.Keys columns; having = h; items = items }))) ≡ false
unfolding everything
keyed-block es cs columns h items = refl

-- a plain item has no aggregate
point-without : (e : n.Expr) → is_point e ≡ true → has_aggregate e ≡ false
unfolding has_aggregate
point-without (n.Col qual qual_at name at) h = refl
point-without (n.Lit lit at) h = refl
point-without _ h = absurd (no (sym h))

item-without : (item : n.Item) → item_has_aggregate item ≡ true → is_plain_item item ≡ false
item-without (n.Star at) h = absurd (no (sym h))
item-without (n.AliasStar alias at) h = absurd (no (sym h))
item-without (n.Value expr name) h = by (is_point expr) refl
  where
    by : (b : Bool) → is_point expr ≡ b → is_point expr ≡ false
    by true e = absurd (no (sym h ∙ point-without expr e))
    by false e = e

items-without : {k : _} (items : n.Items k) → items_have_aggregate items ≡ true → are_plain_items items ≡ false
items-without n.NoItems h = absurd (no (sym h))
items-without (n.ItemThen item rest) h = by (item_has_aggregate item) refl h (items-without rest)
  where
    by : (b : Bool) → item_has_aggregate item ≡ b → (b || items_have_aggregate rest) ≡ true → (items_have_aggregate rest ≡ true → are_plain_items rest ≡ false)
        → (is_plain_item item && are_plain_items rest) ≡ false
    by true e h later = ap (λ p. p && are_plain_items rest) (item-without item e)
    by false e h later = ap (λ p. is_plain_item item && p) (later h) ∙ and-false (is_plain_item item)

-- a block without DISTINCT, GROUP BY and HAVING, which is grouped where it has an aggregate
module _ (known : List Known) {m : _} (items : n.Items m) {m' : _} (from : n.Entries m') (where_condition : n.MaybeCondition) where
  abbrev from_headings : List Heading
  from_headings = headings from (map heading known)

  abbrev conds : List RCond
  conds = on_conjuncts from 0 no_entry known [] ++ conjuncts_written where_condition known (rows_level from_headings ∷ [])

  abbrev tree_where : Bool → RQuery
  tree_where one_group = q.Block (roll-RBlock (record {
    distinct = false;
    entries = map entry_of (resolved_entries from known []);
    conds = conds;
    grouping = grouping_of n.NoGroupBy one_group from_headings;
    having = None;
    items = resolved_items items known (output_level from_headings (grouping_of n.NoGroupBy one_group from_headings) ∷ []);
  }))

  abbrev plain_parts : Bool
  plain_parts = are_plain_entries from known && is_plain_written where_condition && are_plain_items items

  with-aggregate : items_have_aggregate items ≡ true → is_plain_tree (tree_where true) ≡ plain_parts
  with-aggregate e =
      grouped-block (resolved_entries from known []) conds None (resolved_items items known (output_level from_headings g.One ∷ []))
      ∙ sym (ap (λ p. are_plain_entries from known && is_plain_written where_condition && p) (items-without items e) ∙ and-false (are_plain_entries from known && is_plain_written where_condition))

  without-aggregate : ResolvableEntries from 0 no_entry (map heading known) [] → ResolvableWritten where_condition (map heading known) (rows_level from_headings ∷ [])
      → ResolvableItems items (map heading known) (output_level from_headings g.Plain ∷ []) → is_plain_tree (tree_where false) ≡ plain_parts
  without-aggregate f g h =
      let es = resolved_entries from known [] in
      let on = on_conjuncts from 0 no_entry known [] in
      let written = conjuncts_written where_condition known (rows_level from_headings ∷ []) in
      let values = resolved_items items known (output_level from_headings (grouping_of n.NoGroupBy false from_headings) ∷ []) in
      plain-block es conds values
      ∙ ap (λ b. tables es && b && points values) (equalities-append on written)
      ∙ ap (λ b. b && points values) (and-assoc (tables es) (equalities on) (equalities written))
      ∙ (λ i. entries-plain known from 0 no_entry f i && written-plain known (rows_level from_headings) refl where_condition g i
      && items-plain known (output_level from_headings (grouping_of n.NoGroupBy false from_headings)) refl items h i)

  either : (b : Bool) → items_have_aggregate items ≡ b → ResolvableEntries from 0 no_entry (map heading known) [] → ResolvableWritten where_condition (map heading known) (rows_level from_headings ∷ [])
      → ResolvableItems items (map heading known) (output_level from_headings (grouping_of n.NoGroupBy b from_headings) ∷ []) → is_plain_tree (tree_where b) ≡ plain_parts
  either true e f g h = with-aggregate e
  either false e f g h = without-aggregate f g h

module _ (known : List Known) where
  block-plain : (b : n.Block) → ResolvableBlock b (map heading known) [] → is_plain_tree (q.Block (resolved_block b known [])) ≡ is_plain (n.OfBlock b) known
  unfolding resolved Resolvable
  block-plain (n.Select true s items s' from where_condition group_by having) f = distinct-block _ _ _ _ _
  block-plain (n.Select false s items s' from where_condition (n.GroupBy s'' columns) having) f = keyed-block _ _ _ _ _
  block-plain (n.Select false s items s' from where_condition n.NoGroupBy (n.ACondition having)) f = grouped-block _ _ _ _
  block-plain (n.Select false s items s' from where_condition n.NoGroupBy n.NoCondition) f = either known items from where_condition (items_have_aggregate items) refl f.0 f.1 f.4

  query-plain : (query : n.Query) → Resolvable query (map heading known) [] → is_plain_tree (resolved query known []) ≡ is_plain query known
  unfolding everything resolved Resolvable
  query-plain (n.OfBlock block) f = block-plain block f
  query-plain (n.Set op left right at) f = refl

pub tree-plain : (schema : Schema) (query : n.Query) → WellFormed schema query → is_plain_tree (tree_of schema query) ≡ is_plain query (known_of schema)
tree-plain schema query f = query-plain (known_of schema) query (well_formed-resolvable query (known_of schema) f)

pub ruleset laws = (tree-plain)
