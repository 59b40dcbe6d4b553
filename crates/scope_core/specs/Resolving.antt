-- The resolved tree of a query: each column replaced by its place, each source by its number, stars written out, and the conjuncts of an AND
-- taken out of the ANDs within it. It is total: on a tree that is not well formed it gives a column that is nowhere, a condition that is
-- false or a block without rows.
use Rattle.std.specs.Prelude.{ℕ, suc, false, if◌then◌else◌, List, [], ◌∷◌, ◌++◌, map, length, Option, Some, None, find, option_map, unwrap_or}
use Rattle.sql_model.specs.Syntax as n
use Rattle.sql_model.specs.Syntax.{Name}
use Rattle.sql_model.specs.Frames.{ColumnName}
use Rattle.sql_model.specs.Columns.{same_name}
use Rattle.sql_model.specs.Headings.{Heading, headings, source_columns}
use Rattle.sql_model.specs.Grouping.{is_one_group}
use Rattle.scope_core.specs.Syntax.{RVal, RCond, RSource, RBlock, RQuery}
use Rattle.scope_core.specs.Scope.{Known, heading, Place, same_place, Sight, AsRows, AsMember, AsGroup, Level, Levels, place_at, grouping_of, rows_level, output_level, member_levels, on_level, no_entry, headings_here}
use Rattle.scope_core.specs.declared.tree.RVal.TheVariants as v
use Rattle.scope_core.specs.declared.tree.RCond.TheVariants as c
use Rattle.scope_core.specs.declared.tree.RSource.TheVariants as s
use Rattle.scope_core.specs.declared.tree.RQuery.TheVariants as q
use Rattle.scope_core.specs.declared.tree.Grouping.TheVariants as g
use Rattle.scope_core.specs.declared.tree.RBlock.{roll-RBlock}
use Rattle.scope_core.specs.declared.tree.REntry.{REntry, roll-REntry}

-- ---- columns, sought as their values are: in the innermost block first
-- the place of the first member that it is, or the length
abbrev pub index_of : Place → List Place → ℕ
index_of p [] = 0
index_of p (r ∷ places) = if same_place p r then 0 else suc (index_of p places)

-- a column of the block `up` blocks outwards
abbrev pub column_at : ℕ → Sight → Place → RVal
column_at up AsRows p = v.Col up p.0 p.1
column_at up AsMember p = v.Col up p.0 p.1
column_at up (AsGroup columns) p = v.Key (index_of p columns)

-- in the innermost of these blocks that has it, where the first of them is `up` blocks outwards
abbrev pub column_from : ℕ → Option Name → Name → Levels → RVal
column_from up qual name [] = v.Col up 0 0
column_from up qual name (level ∷ outer) =
    unwrap_or (option_map (column_at up level.sight) (place_at qual name level)) (column_from (suc up) qual name outer)

abbrev pub resolved_column : Option Name → Name → Levels → RVal
resolved_column qual name levels = column_from 0 qual name levels

-- ---- stars
abbrev pub entry_columns : ℕ → ℕ → List ColumnName → List RVal
entry_columns entry column [] = []
entry_columns entry column (name ∷ names) = v.Col 0 entry column ∷ entry_columns entry (suc column) names

-- all columns of these entries, the first of which is entry number `entry`
abbrev pub star : ℕ → List Heading → List RVal
star entry [] = []
star entry (h ∷ rest) = entry_columns entry 0 h.columns ++ star (suc entry) rest

-- those of the first entry of this alias
abbrev pub alias_star : Name → ℕ → List Heading → List RVal
alias_star alias entry [] = []
alias_star alias entry (h ∷ rest) = if same_name alias h.alias then entry_columns entry 0 h.columns else alias_star alias (suc entry) rest

-- ---- sources
-- a block without rows
abbrev pub nothing : RBlock
nothing = roll-RBlock (record { distinct = false; entries = []; conds = c.Or [] ∷ []; grouping = g.Plain; having = None; items = [] })

abbrev pub source_named : Name → List Known → RSource
source_named name known = unwrap_or (option_map (λ k. k.source) (find (λ k. same_name name k.name) known)) (s.Query (q.Block nothing))

abbrev pub entry_of : RSource × ℕ → REntry
entry_of e = roll-REntry (record { source = e.0; width = e.1 })

-- ---- conditions
-- one condition alone, or an AND
abbrev pub conjunction : List RCond → RCond
conjunction (condition ∷ []) = condition
conjunction conditions = c.And conditions

unfoldable mutual
  -- ---- values; a condition is no value
  pub resolved_value : n.Expr → List Known → Levels → RVal
  resolved_value (n.Col qual qual_at name at) known levels = resolved_column qual name levels
  resolved_value (n.Lit lit at) known levels = v.Lit lit
  resolved_value (n.Fun sym s args at) known levels = v.Fun sym (resolved_values args known levels)
  resolved_value (n.Call sym s args at) known levels = v.Fun sym (resolved_values args known levels)
  resolved_value (n.Agg fun is_distinct argument at) known levels = v.Agg fun is_distinct (resolved_argument argument known (member_levels levels))
  resolved_value (n.Sub query at) known levels = v.Sub (only_block query known levels)
  resolved_value _ known levels = v.Col (length levels) 0 0

  pub resolved_values : {m : _} → n.Exprs m → List Known → Levels → List RVal
  resolved_values n.NoExprs known levels = []
  resolved_values (n.ExprThen expr rest) known levels = resolved_value expr known levels ∷ resolved_values rest known levels

  pub resolved_argument : n.MaybeArgument → List Known → Levels → Option RVal
  resolved_argument n.NoArgument known levels = None
  resolved_argument (n.AnArgument expr) known levels = Some (resolved_value expr known levels)

  -- the block of a scalar subquery
  pub only_block : n.Query → List Known → Levels → RBlock
  only_block (n.OfBlock block) known levels = resolved_block block known levels
  only_block (n.Set op left right at) known levels = nothing

  -- ---- The conjuncts of a condition: those of an AND's parts in order, and else the condition itself. A value is no condition, and is false.
  pub conjuncts : n.Expr → List Known → Levels → List RCond
  conjuncts (n.And s parts at) known levels = conjuncts_of_each parts known levels
  conjuncts (n.Pred sym s args at) known levels = c.Pred sym (resolved_values args known levels) ∷ []
  conjuncts (n.Call sym s args at) known levels = c.Pred sym (resolved_values args known levels) ∷ []
  conjuncts (n.Eq left right at) known levels = c.Eq (resolved_value left known levels) (resolved_value right known levels) ∷ []
  conjuncts (n.Or s parts at) known levels = c.Or (resolved_conditions parts known levels) ∷ []
  conjuncts (n.Not part at) known levels = c.Not (conjunction (conjuncts part known levels)) ∷ []
  conjuncts (n.Exists query at) known levels = c.Exists (resolved query known levels) ∷ []
  conjuncts (n.In left query at in_at) known levels = c.In (resolved_value left known levels) (resolved query known levels) ∷ []
  conjuncts _ known levels = c.Or [] ∷ []

  pub conjuncts_of_each : {m : _} → n.Exprs m → List Known → Levels → List RCond
  conjuncts_of_each n.NoExprs known levels = []
  conjuncts_of_each (n.ExprThen expr rest) known levels = conjuncts expr known levels ++ conjuncts_of_each rest known levels

  pub resolved_conditions : {m : _} → n.Exprs m → List Known → Levels → List RCond
  resolved_conditions n.NoExprs known levels = []
  resolved_conditions (n.ExprThen expr rest) known levels = conjunction (conjuncts expr known levels) ∷ resolved_conditions rest known levels

  -- none where no condition is written
  pub conjuncts_written : n.MaybeCondition → List Known → Levels → List RCond
  conjuncts_written n.NoCondition known levels = []
  conjuncts_written (n.ACondition expr) known levels = conjuncts expr known levels

  pub resolved_having : n.MaybeCondition → List Known → Levels → Option RCond
  resolved_having n.NoCondition known levels = None
  resolved_having (n.ACondition expr) known levels = Some (conjunction (conjuncts expr known levels))

  -- ---- queries
  pub resolved : n.Query → List Known → Levels → RQuery
  resolved (n.OfBlock block) known levels = q.Block (resolved_block block known levels)
  resolved (n.Set op left right at) known levels = q.Set op (resolved left known levels) (resolved right known levels)

  pub resolved_block : n.Block → List Known → Levels → RBlock
  resolved_block (n.Select is_distinct s items s' from where_condition group_by having) known levels =
      let from_headings = headings from (map heading known) in
      let grouping = grouping_of group_by (is_one_group items having) from_headings in
      let output_levels = output_level from_headings grouping ∷ levels in
      roll-RBlock (record {
        distinct = is_distinct;
        entries = map entry_of (resolved_entries from known levels);
        conds = on_conjuncts from 0 no_entry known levels ++ conjuncts_written where_condition known (rows_level from_headings ∷ levels);
        grouping = grouping;
        having = resolved_having having known output_levels;
        items = resolved_items items known output_levels;
      })

  -- each source and its number of columns
  pub resolved_entries : {m : _} → n.Entries m → List Known → Levels → List (RSource × ℕ)
  resolved_entries n.NoEntries known levels = []
  resolved_entries (n.EntryThen source alias at joined on rest) known levels =
      (resolved_source source known levels, length (source_columns source (map heading known))) ∷ resolved_entries rest known levels

  -- A derived table sees the blocks around its block, and not the entries beside it.
  pub resolved_source : n.Source → List Known → Levels → RSource
  resolved_source (n.Named name at) known levels = source_named name known
  resolved_source (n.Derived query) known levels = s.Query (resolved query known levels)

  -- of the entries from number `entry` on, where `before` is what an ON of the entry before them sees
  pub on_conjuncts : {m : _} → n.Entries m → ℕ → Level → List Known → Levels → List RCond
  on_conjuncts n.NoEntries entry before known levels = []
  on_conjuncts (n.EntryThen source alias at joined on rest) entry before known levels =
      let seen = on_level joined before entry (record { alias = alias; columns = source_columns source (map heading known) }) in
      conjuncts_written on known (seen ∷ levels) ++ on_conjuncts rest (suc entry) seen known levels

  -- one value for each column
  pub resolved_items : {m : _} → n.Items m → List Known → Levels → List RVal
  resolved_items n.NoItems known levels = []
  resolved_items (n.ItemThen item rest) known levels = resolved_item item known levels ++ resolved_items rest known levels

  pub resolved_item : n.Item → List Known → Levels → List RVal
  resolved_item (n.Star at) known levels = star 0 (headings_here levels)
  resolved_item (n.AliasStar alias at) known levels = alias_star alias 0 (headings_here levels)
  resolved_item (n.Value expr name) known levels = resolved_value expr known levels ∷ []
