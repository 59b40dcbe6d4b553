-- The sites of a query: what stands in it where a fault may be, in the order in which faults are sought. What is wrong at a site is in Faults.
--     A set query is its left side, its right side, and then the two widths.
--     A block is its entries in order, each its source and then its alias; then the ON conditions in order, WHERE, GROUP BY, the items, and
--     last HAVING. In an expression a node comes before its parts, and the parts stand in the order of the tree.
use Rattle.std.specs.Prelude.{ℕ, suc, ◌+◌, List, [], ◌∷◌, ◌++◌, map, length, Option}
use Rattle.sql_model.specs.Syntax as n
use Rattle.sql_model.specs.Syntax.{Name}
use Rattle.sql_model.specs.Headings.{output_columns, item_columns, headings, source_columns}
use Rattle.sql_model.specs.Grouping.{is_one_group}
use Rattle.scope_core.specs.Scope.{Known, heading, Level, Levels, rows_level, output_level, member_levels, on_level, no_entry, headings_here, grouping_of}

-- what is wanted of an expression
pub data Wanted : Type 0 where
  AValue : Wanted
  ATruth : Wanted

-- The last number of a site is its place in the text, and for an expression the expression has it.
pub data Site : Type 0 where
  -- the name of an entry, and the relations that it may name
  ASource : Name → List Known → ℕ → Site
  -- the alias of an entry, and those of the entries before it
  AnAlias : Name → List Name → ℕ → Site
  -- a column: its qualifier with the place of that, its name, and the blocks around
  AColumn : Option Name → ℕ → Name → Levels → ℕ → Site
  -- a column of GROUP BY
  AGroupColumn : n.Expr → Levels → Site
  -- `*` and `alias.*`, with the block that they stand in and those around
  AStar : Levels → ℕ → Site
  AnAliasStar : Name → Levels → ℕ → Site
  -- an aggregate or a subquery; and a condition where a value is wanted, or a value where a condition is
  AnExpression : Wanted → Levels → n.Expr → Site
  -- the widths that are to be equal: of the operands of a set operator, or 1 and that of the query of an IN
  TwoWidths : ℕ → ℕ → ℕ → Site
  -- after an item, how many columns the block has up to and with it
  Outputs : ℕ → Site

abbrev pub group_sites : {m : _} → n.Exprs m → Levels → List Site
group_sites n.NoExprs levels = []
group_sites (n.ExprThen expr rest) levels = AGroupColumn expr levels ∷ group_sites rest levels

abbrev pub group_by_sites : n.MaybeGroupBy → Levels → List Site
group_by_sites n.NoGroupBy levels = []
group_by_sites (n.GroupBy s columns) levels = group_sites columns levels

unfoldable mutual
  -- ---- expressions, where a value is wanted
  pub value_sites : n.Expr → List Known → Levels → List Site
  value_sites (n.Col qual qual_at name at) known levels = AColumn qual qual_at name levels at ∷ []
  value_sites (n.Lit lit at) known levels = []
  value_sites (n.Fun sym s args at) known levels = values_sites args known levels
  value_sites (n.Call sym s args at) known levels = values_sites args known levels
  value_sites (n.Agg fun is_distinct argument at) known levels =
      AnExpression AValue levels (n.Agg fun is_distinct argument at) ∷ argument_sites argument known (member_levels levels)
  value_sites (n.Sub query at) known levels = AnExpression AValue levels (n.Sub query at) ∷ sites query known levels
  value_sites condition known levels = AnExpression AValue levels condition ∷ []

  pub values_sites : {m : _} → n.Exprs m → List Known → Levels → List Site
  values_sites n.NoExprs known levels = []
  values_sites (n.ExprThen expr rest) known levels = value_sites expr known levels ++ values_sites rest known levels

  pub argument_sites : n.MaybeArgument → List Known → Levels → List Site
  argument_sites n.NoArgument known levels = []
  argument_sites (n.AnArgument expr) known levels = value_sites expr known levels

  -- ---- expressions, where a truth is wanted
  pub truth_sites : n.Expr → List Known → Levels → List Site
  truth_sites (n.Pred sym s args at) known levels = values_sites args known levels
  truth_sites (n.Call sym s args at) known levels = values_sites args known levels
  truth_sites (n.Eq left right at) known levels = value_sites left known levels ++ value_sites right known levels
  truth_sites (n.And s parts at) known levels = truths_sites parts known levels
  truth_sites (n.Or s parts at) known levels = truths_sites parts known levels
  truth_sites (n.Not part at) known levels = truth_sites part known levels
  truth_sites (n.Exists query at) known levels = AnExpression ATruth levels (n.Exists query at) ∷ sites query known levels
  truth_sites (n.In left query at in_at) known levels =
      AnExpression ATruth levels (n.In left query at in_at)
      ∷ (value_sites left known levels ++ sites query known levels
      ++ TwoWidths 1 (length (output_columns query (map heading known))) in_at ∷ [])
  truth_sites value known levels = AnExpression ATruth levels value ∷ []

  pub truths_sites : {m : _} → n.Exprs m → List Known → Levels → List Site
  truths_sites n.NoExprs known levels = []
  truths_sites (n.ExprThen expr rest) known levels = truth_sites expr known levels ++ truths_sites rest known levels

  -- none where no condition is written
  pub written_sites : n.MaybeCondition → List Known → Levels → List Site
  written_sites n.NoCondition known levels = []
  written_sites (n.ACondition expr) known levels = truth_sites expr known levels

  -- ---- queries
  pub sites : n.Query → List Known → Levels → List Site
  sites (n.OfBlock block) known levels = block_sites block known levels
  sites (n.Set op left right at) known levels =
      sites left known levels ++ sites right known levels
      ++ TwoWidths (length (output_columns left (map heading known))) (length (output_columns right (map heading known))) at ∷ []

  pub block_sites : n.Block → List Known → Levels → List Site
  block_sites (n.Select is_distinct s items s' from where_condition group_by having) known levels =
      let from_headings = headings from (map heading known) in
      let grouping = grouping_of group_by (is_one_group items having) from_headings in
      let row_levels = rows_level from_headings ∷ levels in
      let output_levels = output_level from_headings grouping ∷ levels in
      entry_sites from [] known levels ++ on_sites from 0 no_entry known levels ++ written_sites where_condition known row_levels
      ++ group_by_sites group_by row_levels ++ items_sites items 0 known output_levels
      ++ written_sites having known output_levels

  -- `before` are the aliases of the entries before
  pub entry_sites : {m : _} → n.Entries m → List Name → List Known → Levels → List Site
  entry_sites n.NoEntries before known levels = []
  entry_sites (n.EntryThen source alias at joined on rest) before known levels =
      source_sites source known levels ++ AnAlias alias before at ∷ entry_sites rest (before ++ alias ∷ []) known levels

  pub source_sites : n.Source → List Known → Levels → List Site
  source_sites (n.Named name at) known levels = ASource name known at ∷ []
  source_sites (n.Derived query) known levels = sites query known levels

  -- of the entries from number `entry` on, where `before` is what an ON of the entry before them sees
  pub on_sites : {m : _} → n.Entries m → ℕ → Level → List Known → Levels → List Site
  on_sites n.NoEntries entry before known levels = []
  on_sites (n.EntryThen source alias at joined on rest) entry before known levels =
      let seen = on_level joined before entry (record { alias = alias; columns = source_columns source (map heading known) }) in
      written_sites on known (seen ∷ levels) ++ on_sites rest (suc entry) seen known levels

  -- `count` is how many columns the items before give
  pub items_sites : {m : _} → n.Items m → ℕ → List Known → Levels → List Site
  items_sites n.NoItems count known levels = []
  items_sites (n.ItemThen item rest) count known levels =
      let count_with = count + length (item_columns item (headings_here levels)) in
      item_sites item known levels ++ Outputs count_with ∷ items_sites rest count_with known levels

  pub item_sites : n.Item → List Known → Levels → List Site
  item_sites (n.Star at) known levels = AStar levels at ∷ []
  item_sites (n.AliasStar alias at) known levels = AnAliasStar alias levels at ∷ []
  item_sites (n.Value expr name) known levels = value_sites expr known levels
