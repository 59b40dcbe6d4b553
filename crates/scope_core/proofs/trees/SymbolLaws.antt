-- The literals of a resolved tree are literals of its query.
use Rattle.std.proofs.Common.{ℕ, suc, ◌+◌, ◌<◌, Bool, true, false, List, [], ◌∷◌, ◌++◌, map, length, Option, Some, None, option_map, unwrap_or, cond}
use Rattle.std.specs.Prelude.{find, if◌then◌else◌}
use Rattle.data_model.specs.Lists.{Each}
use Rattle.sql_model.specs.Syntax as n
use Rattle.sql_model.specs.Everywhere.{Anything, Everywhere, InArgument, InBlock, InEntries, InExpr, InExprs, InItem, InItems, InSource, InWritten}
use Rattle.sql_model.specs.Frames.{ColumnName}
use Rattle.sql_model.specs.Columns.{same_name}
use Rattle.sql_model.specs.Grouping.{is_one_group}
use Rattle.sql_model.specs.Headings.{Heading, headings, source_columns}
use Rattle.sql_model.specs.Relations.{Relation}
use Rattle.sql_model.specs.declared.schema.Schema.{Schema}
use Rattle.sql_model.specs.declared.schema.Relation.TheVariants as relation
use Rattle.scope_core.specs.declared.tree.RBlock.{roll-RBlock}
use Rattle.scope_core.specs.declared.tree.RCond.TheBlock as t
use Rattle.scope_core.specs.declared.tree.RVal.TheVariants as v
use Rattle.scope_core.specs.declared.tree.RCond.TheVariants as c
use Rattle.scope_core.specs.declared.tree.RSource.TheVariants as s
use Rattle.scope_core.specs.declared.tree.RQuery.TheVariants as q
use Rattle.scope_core.specs.Syntax.{RVal, RCond, RSource, RBlock, RQuery, Grouping}
use Rattle.scope_core.specs.Scope.{Known, heading, Sight, AsRows, AsGroup, AsMember, Level, Levels, Place, place_at, rows_level, output_level, member_levels, on_level, no_entry, headings_here, grouping_of}
use Rattle.scope_core.specs.Resolving.{source_named, entry_of, nothing, star, entry_columns, alias_star, conjunction, resolved_value, resolved_values, resolved_argument, only_block, conjuncts, conjuncts_of_each, resolved_conditions, conjuncts_written, resolved_having, resolved, resolved_block, resolved_entries, resolved_source, on_conjuncts, resolved_items, resolved_item, column_at, column_from}
use Rattle.scope_core.specs.Literals.{QueryFits, RelationFits, SchemaFits, TreeFits, TreeBlockFits, TreeEntriesFit, TreeSourceFits, TreeConditionFits, TreeConditionsFit, TreeValueFits, TreeValuesFit}
use Rattle.scope_core.specs.Relations.{count_views, known_with, known_relations, known_of}
use Rattle.scope_core.specs.ViewTrees.{trees_with, view_trees, views_of, tree_of}
use Rattle.scope_core.specs.Compute.{everything}
use Rattle.scope_core.proofs.basics.Each.{Each-append, Each-end}

module _ (count : ℕ) where
  abbrev Below : ℕ → Type 0
  Below literal = literal < count

  abbrev V : RVal → Type 0
  V = TreeValueFits count

  abbrev C : RCond → Type 0
  C = TreeConditionFits count

  -- ---- of lists
  values-fit : (es : List RVal) → Each V es → TreeValuesFit count (t.hidden-the_row-RVal-1 es)
  unfolding everything TreeFits
  values-fit [] h = tt
  values-fit (e ∷ es) h = (h.0, values-fit es h.1)

  conditions-fit : (cs : List RCond) → Each C cs → TreeConditionsFit count (t.hidden-the_row-RCond-2 cs)
  unfolding everything TreeFits
  conditions-fit [] h = tt
  conditions-fit (e ∷ es) h = (h.0, conditions-fit es h.1)

  entries-fit : (es : List (RSource × ℕ)) → Each (λ e. TreeSourceFits count e.0) es → TreeEntriesFit count (t.hidden-the_row-REntry-7 (map entry_of es))
  unfolding everything TreeFits
  entries-fit [] h = tt
  entries-fit (e ∷ es) h = (h.0, entries-fit es h.1)

  -- ---- at what code builds
  fit-Col : (up e col : ℕ) → V (v.Col up e col)
  unfolding everything TreeFits
  fit-Col up e col = tt

  fit-Key : (place : ℕ) → V (v.Key place)
  unfolding everything TreeFits
  fit-Key place = tt

  fit-Lit : (lit : ℕ) → lit < count → V (v.Lit lit)
  unfolding everything TreeFits
  fit-Lit lit h = h

  fit-Fun : (symbol : ℕ) (es : List RVal) → Each V es → V (v.Fun symbol es)
  unfolding everything TreeFits
  fit-Fun symbol es h = values-fit es h

  abbrev ArgumentOk : Option RVal → Type 0
  ArgumentOk None = Unit {0}
  ArgumentOk (Some e) = V e

  fit-Agg : (fun : _) (d : Bool) (e : Option RVal) → ArgumentOk e → V (v.Agg fun d e)
  unfolding everything TreeFits
  fit-Agg fun d None h = tt
  fit-Agg fun d (Some e) h = h

  fit-Sub : (b : RBlock) → TreeBlockFits count b → V (v.Sub b)
  unfolding everything TreeFits
  fit-Sub b h = h

  fit-Eq : (left right : RVal) → V left → V right → C (c.Eq left right)
  unfolding everything TreeFits
  fit-Eq left right h k = (h, k)

  fit-Pred : (symbol : ℕ) (es : List RVal) → Each V es → C (c.Pred symbol es)
  unfolding everything TreeFits
  fit-Pred symbol es h = values-fit es h

  fit-And : (cs : List RCond) → Each C cs → C (c.And cs)
  unfolding everything TreeFits
  fit-And cs h = conditions-fit cs h

  fit-Or : (cs : List RCond) → Each C cs → C (c.Or cs)
  unfolding everything TreeFits
  fit-Or cs h = conditions-fit cs h

  fit-Not : (a : RCond) → C a → C (c.Not a)
  unfolding everything TreeFits
  fit-Not a h = h

  fit-Exists : (a : RQuery) → TreeFits count a → C (c.Exists a)
  unfolding everything TreeFits
  fit-Exists a h = h

  fit-In : (e : RVal) (a : RQuery) → V e → TreeFits count a → C (c.In e a)
  unfolding everything TreeFits
  fit-In e a h k = (h, k)

  fit-conjunction : (cs : List RCond) → Each C cs → C (conjunction cs)
  fit-conjunction [] h = fit-And [] h
  fit-conjunction (a ∷ []) h = h.0
  fit-conjunction (a ∷ b ∷ cs) h = fit-And (a ∷ b ∷ cs) h

  fit-Query : (a : RQuery) → TreeFits count a → TreeSourceFits count (s.Query a)
  unfolding everything TreeFits
  fit-Query a h = h

  fit-Block : (b : RBlock) → TreeBlockFits count b → TreeFits count (q.Block b)
  unfolding everything TreeFits
  fit-Block b h = h

  fit-Set : (op : _) (a b : RQuery) → TreeFits count a → TreeFits count b → TreeFits count (q.Set op a b)
  unfolding everything TreeFits
  fit-Set op a b h k = (h, k)

  abbrev HavingOk : Option RCond → Type 0
  HavingOk None = Unit {0}
  HavingOk (Some a) = C a

  fit-block : (d : Bool) (es : List (RSource × ℕ)) (cs : List RCond) (gr : Grouping) (h : Option RCond) (items : List RVal)
      → Each (λ e. TreeSourceFits count e.0) es → Each C cs → HavingOk h → Each V items
      → TreeBlockFits count (roll-RBlock (record { distinct = d; entries = map entry_of es; conds = cs; grouping = gr; having = h; items = items }))
  unfolding everything TreeFits
  fit-block d es cs gr None items a b h k = (entries-fit es a, conditions-fit cs b, tt, values-fit items k)
  fit-block d es cs gr (Some x) items a b h k = (entries-fit es a, conditions-fit cs b, h, values-fit items k)

  fit-nothing : TreeBlockFits count nothing
  fit-nothing = fit-block false [] (c.Or [] ∷ []) _ None [] tt (fit-Or [] tt, tt) tt tt

  -- ---- columns and stars
  column-fits : (up : ℕ) (qual : Option n.Name) (name : n.Name) (ls : Levels) → V (column_from up qual name ls)
  column-fits up qual name [] = fit-Col up 0 0
  column-fits up qual name (l ∷ ls) = go l.sight (place_at qual name l) (column-fits (suc up) qual name ls)
    where
      go : (sight : Sight) (o : Option Place) → V (column_from (suc up) qual name ls)
          → V (unwrap_or (option_map (column_at up sight) o) (column_from (suc up) qual name ls))
      go sight None further = further
      go AsRows (Some p) further = fit-Col up p.0 p.1
      go AsMember (Some p) further = fit-Col up p.0 p.1
      go (AsGroup columns) (Some p) further = fit-Key _

  entry_columns-fit : (entry column : ℕ) (cs : List ColumnName) → Each V (entry_columns entry column cs)
  entry_columns-fit entry column [] = tt
  entry_columns-fit entry column (c ∷ cs) = (fit-Col 0 entry column, entry_columns-fit entry (suc column) cs)

  star-fits : (entry : ℕ) (hs : List Heading) → Each V (star entry hs)
  star-fits entry [] = tt
  star-fits entry (h ∷ hs) = Each-append V (entry_columns entry 0 h.columns) (star (suc entry) hs) (entry_columns-fit entry 0 h.columns) (star-fits (suc entry) hs)

  alias-fits : (alias : n.Name) (entry : ℕ) (hs : List Heading) → Each V (alias_star alias entry hs)
  alias-fits alias entry [] = tt
  alias-fits alias entry (h ∷ hs) = go (same_name alias h.alias) (alias-fits alias (suc entry) hs)
    where
      go : (hit : Bool) → Each V (alias_star alias (suc entry) hs) → Each V (if hit then entry_columns entry 0 h.columns else alias_star alias (suc entry) hs)
      go true further = entry_columns-fit entry 0 h.columns
      go false further = further

  -- ---- sources
  abbrev pub KnownFit : List Known → Type 0
  KnownFit known = Each (λ k. TreeSourceFits count k.source) known

  named-fits : (name : n.Name) (known : List Known) → KnownFit known → TreeSourceFits count (source_named name known)
  named-fits name [] h = fit-Query (q.Block nothing) (fit-Block nothing fit-nothing)
  named-fits name (k ∷ known) h = go (same_name name k.name) (find (λ k. same_name name k.name) known) (named-fits name known h.1)
    where
      go : (hit : Bool) (o : Option Known) → TreeSourceFits count (unwrap_or (option_map (λ k. k.source) o) (s.Query (q.Block nothing)))
          → TreeSourceFits count (unwrap_or (option_map (λ k. k.source) (cond hit (Some k) o)) (s.Query (q.Block nothing)))
      go true o f = h.0
      go false o f = f

  module _ (known : List Known) (fit : KnownFit known) where
    mutual
      unfolding resolved Everywhere

      value-fits : (e : n.Expr) (ls : Levels) → InExpr Below Anything e → V (resolved_value e known ls)
      value-fits (n.Col qual qual_at name at) ls h = column-fits 0 qual name ls
      value-fits (n.Lit lit at) ls h = fit-Lit lit h
      value-fits (n.Fun symbol s args at) ls h = fit-Fun symbol (resolved_values args known ls) (values-of args ls h)
      value-fits (n.Call symbol s args at) ls h = fit-Fun symbol (resolved_values args known ls) (values-of args ls h)
      value-fits (n.Agg fun is_distinct argument at) ls h =
          fit-Agg fun is_distinct (resolved_argument argument known (member_levels ls)) (argument-fits argument (member_levels ls) h)
      value-fits (n.Sub query at) ls h = fit-Sub (only_block query known ls) (only_block-fits query ls h)
      value-fits _ ls h = fit-Col (length ls) 0 0

      values-of : {m : _} (es : n.Exprs m) (ls : Levels) → InExprs Below Anything es → Each V (resolved_values es known ls)
      values-of n.NoExprs ls h = tt
      values-of (n.ExprThen expr rest) ls h = (value-fits expr ls h.0, values-of rest ls h.1)

      argument-fits : (argument : n.MaybeArgument) (ls : Levels) → InArgument Below Anything argument → ArgumentOk (resolved_argument argument known ls)
      argument-fits n.NoArgument ls h = tt
      argument-fits (n.AnArgument expr) ls h = value-fits expr ls h

      only_block-fits : (query : n.Query) (ls : Levels) → QueryFits count query → TreeBlockFits count (only_block query known ls)
      only_block-fits (n.OfBlock block) ls h = block-fits block ls h
      only_block-fits (n.Set op left right at) ls h = fit-nothing

      conjuncts-fit : (e : n.Expr) (ls : Levels) → InExpr Below Anything e → Each C (conjuncts e known ls)
      conjuncts-fit (n.And s parts at) ls h = conjuncts_of_each-fit parts ls h
      conjuncts-fit (n.Pred symbol s args at) ls h = (fit-Pred symbol (resolved_values args known ls) (values-of args ls h), tt)
      conjuncts-fit (n.Call symbol s args at) ls h = (fit-Pred symbol (resolved_values args known ls) (values-of args ls h), tt)
      conjuncts-fit (n.Eq left right at) ls h =
          (fit-Eq (resolved_value left known ls) (resolved_value right known ls) (value-fits left ls h.0) (value-fits right ls h.1), tt)
      conjuncts-fit (n.Or s parts at) ls h = (fit-Or (resolved_conditions parts known ls) (conditions-of parts ls h), tt)
      conjuncts-fit (n.Not part at) ls h =
          (fit-Not (conjunction (conjuncts part known ls)) (fit-conjunction (conjuncts part known ls) (conjuncts-fit part ls h)), tt)
      conjuncts-fit (n.Exists query at) ls h = (fit-Exists (resolved query known ls) (query-fits query ls h), tt)
      conjuncts-fit (n.In left query at in_at) ls h =
          (fit-In (resolved_value left known ls) (resolved query known ls) (value-fits left ls h.0) (query-fits query ls h.1), tt)
      conjuncts-fit _ ls h = (fit-Or [] tt, tt)

      conjuncts_of_each-fit : {m : _} (es : n.Exprs m) (ls : Levels) → InExprs Below Anything es → Each C (conjuncts_of_each es known ls)
      conjuncts_of_each-fit n.NoExprs ls h = tt
      conjuncts_of_each-fit (n.ExprThen expr rest) ls h =
          Each-append C (conjuncts expr known ls) (conjuncts_of_each rest known ls) (conjuncts-fit expr ls h.0) (conjuncts_of_each-fit rest ls h.1)

      conditions-of : {m : _} (es : n.Exprs m) (ls : Levels) → InExprs Below Anything es → Each C (resolved_conditions es known ls)
      conditions-of n.NoExprs ls h = tt
      conditions-of (n.ExprThen expr rest) ls h =
          (fit-conjunction (conjuncts expr known ls) (conjuncts-fit expr ls h.0), conditions-of rest ls h.1)

      written-fits : (condition : n.MaybeCondition) (ls : Levels) → InWritten Below Anything condition → Each C (conjuncts_written condition known ls)
      written-fits n.NoCondition ls h = tt
      written-fits (n.ACondition expr) ls h = conjuncts-fit expr ls h

      having-fits : (condition : n.MaybeCondition) (ls : Levels) → InWritten Below Anything condition → HavingOk (resolved_having condition known ls)
      having-fits n.NoCondition ls h = tt
      having-fits (n.ACondition expr) ls h = fit-conjunction (conjuncts expr known ls) (conjuncts-fit expr ls h)

      pub query-fits : (query : n.Query) (ls : Levels) → QueryFits count query → TreeFits count (resolved query known ls)
      query-fits (n.OfBlock block) ls h = fit-Block (resolved_block block known ls) (block-fits block ls h)
      query-fits (n.Set op left right at) ls h =
          fit-Set op (resolved left known ls) (resolved right known ls) (query-fits left ls h.0) (query-fits right ls h.1)

      block-fits : (block : n.Block) (ls : Levels) → InBlock Below Anything block → TreeBlockFits count (resolved_block block known ls)
      block-fits (n.Select is_distinct s items s' from where_condition group_by having) ls h =
          let H = headings from (map heading known) in
          let gr = grouping_of group_by (is_one_group items having) H in
          let output = output_level H gr ∷ ls in
          fit-block is_distinct (resolved_entries from known ls) (on_conjuncts from 0 no_entry known ls ++ conjuncts_written where_condition known (rows_level H ∷ ls)) gr
          (resolved_having having known output) (resolved_items items known output) (entries-of from ls h.0)
          (Each-append C (on_conjuncts from 0 no_entry known ls) (conjuncts_written where_condition known (rows_level H ∷ ls))
          (on-fits from 0 no_entry ls h.0) (written-fits where_condition (rows_level H ∷ ls) h.1))
          (having-fits having output h.4) (items-of items output h.3)

      entries-of : {m : _} (es : n.Entries m) (ls : Levels) → InEntries Below Anything es → Each (λ e. TreeSourceFits count e.0) (resolved_entries es known ls)
      entries-of n.NoEntries ls h = tt
      entries-of (n.EntryThen source alias at joined on rest) ls h = (source-fits source ls h.0, entries-of rest ls h.2)

      source-fits : (source : n.Source) (ls : Levels) → InSource Below Anything source → TreeSourceFits count (resolved_source source known ls)
      source-fits (n.Named name at) ls h = named-fits name known fit
      source-fits (n.Derived query) ls h = fit-Query (resolved query known ls) (query-fits query ls h)

      on-fits : {m : _} (es : n.Entries m) (entry : ℕ) (before : Level) (ls : Levels) → InEntries Below Anything es → Each C (on_conjuncts es entry before known ls)
      on-fits n.NoEntries entry before ls h = tt
      on-fits (n.EntryThen source alias at joined on rest) entry before ls h =
          let seen = on_level joined before entry (record { alias = alias; columns = source_columns source (map heading known) }) in
          Each-append C (conjuncts_written on known (seen ∷ ls)) (on_conjuncts rest (suc entry) seen known ls)
          (written-fits on (seen ∷ ls) h.1) (on-fits rest (suc entry) seen ls h.2)

      items-of : {m : _} (items : n.Items m) (ls : Levels) → InItems Below Anything items → Each V (resolved_items items known ls)
      items-of n.NoItems ls h = tt
      items-of (n.ItemThen item rest) ls h =
          Each-append V (resolved_item item known ls) (resolved_items rest known ls) (item-fits item ls h.0) (items-of rest ls h.1)

      item-fits : (item : n.Item) (ls : Levels) → InItem Below Anything item → Each V (resolved_item item known ls)
      item-fits (n.Star at) ls h = star-fits 0 (headings_here ls)
      item-fits (n.AliasStar alias at) ls h = alias-fits alias 0 (headings_here ls)
      item-fits (n.Value expr name) ls h = (value-fits expr ls h, tt)

  -- ---- over the relations of a schema
  fit-Table : (number : ℕ) → TreeSourceFits count (s.Table number)
  unfolding everything TreeFits
  fit-Table number = tt

  fit-View : (place : ℕ) → TreeSourceFits count (s.View place)
  unfolding everything TreeFits
  fit-View place = tt

  known-fit : (known : List Known) (views : ℕ) (name : n.Name) (r : Relation) → KnownFit known → KnownFit (known_with known views name r)
  known-fit known views name (relation.Table table) h = Each-end (λ k. TreeSourceFits count k.source) known _ h (fit-Table table.number)
  known-fit known views name (relation.View query at) h = Each-end (λ k. TreeSourceFits count k.source) known _ h (fit-View views)

  trees-fit : (known : List Known) (trees : List RQuery) (r : Relation) → KnownFit known → Each (TreeFits count) trees → RelationFits count r
      → Each (TreeFits count) (trees_with known trees r)
  trees-fit known trees (relation.Table table) h ts f = ts
  trees-fit known trees (relation.View query at) h ts f = Each-end (TreeFits count) trees _ ts (query-fits known h query [] f)

  all-known-fit : (known : List Known) (views : ℕ) (relations : List (n.Name × Relation)) → KnownFit known → KnownFit (known_relations known views relations)
  all-known-fit known views [] h = h
  all-known-fit known views (r ∷ rest) h = all-known-fit (known_with known views r.0 r.1) (views + count_views r.1) rest (known-fit known views r.0 r.1 h)

  all-trees-fit : (known : List Known) (trees : List RQuery) (relations : List (n.Name × Relation)) → KnownFit known → Each (TreeFits count) trees
      → Each (λ r. RelationFits count r.1) relations → Each (TreeFits count) (view_trees known trees relations)
  all-trees-fit known trees [] h ts f = ts
  all-trees-fit known trees (r ∷ rest) h ts f =
      all-trees-fit (known_with known (length trees) r.0 r.1) (trees_with known trees r.1) rest (known-fit known (length trees) r.0 r.1 h) (trees-fit known trees r.1 h ts f.0) f.1

pub tree-fits : (count : ℕ) (schema : Schema) (query : n.Query) → QueryFits count query → TreeFits count (tree_of schema query)
tree-fits count schema query f = query-fits count (known_of schema) (all-known-fit count [] 0 schema.relations.entries tt) query [] f

pub views-fit : (count : ℕ) (schema : Schema) → SchemaFits count schema → Each (TreeFits count) (views_of schema)
views-fit count schema f = all-trees-fit count [] [] schema.relations.entries tt tt f

pub ruleset laws = (tree-fits, views-fit)
