-- The plain queries: one block without DISTINCT, grouping and HAVING; its sources are base tables, each item is a column, a literal or a star,
-- and each condition is an equality between columns and literals.
use Rattle.std.specs.Prelude.{Bool, true, false, ◌&&◌, List, find, Option, Some, None}
use Rattle.sql_model.specs.Syntax as n
use Rattle.sql_model.specs.Columns.{same_name}
use Rattle.scope_core.specs.Syntax.{RVal, Col, Lit, Values, NoValues, ValueThen, RCond, Eq, Conditions, NoConditions, ConditionThen, NoCondition, RSource, Table, Entries, NoEntries, EntryThen, Select, RQuery, OfBlock, Grouping, Plain, One, Keys}
use Rattle.scope_core.specs.Scope.{Known}

abbrev pub is_table : RSource → Bool
is_table (Table number) = true
is_table _ = false

abbrev pub is_base_table : Option Known → Bool
is_base_table None = false
is_base_table (Some k) = is_table k.source

abbrev pub is_plain_source : n.Source → List Known → Bool
is_plain_source (n.Named name at) known = is_base_table (find (λ k. same_name name k.name) known)
is_plain_source (n.Derived query) known = false

-- a column or a literal
abbrev pub is_point : n.Expr → Bool
is_point (n.Col qual qual_at name at) = true
is_point (n.Lit lit at) = true
is_point _ = false

-- The parts of an AND are conditions of their own.
unfoldable mutual
  pub is_plain_condition : n.Expr → Bool
  is_plain_condition (n.Eq left right at) = is_point left && is_point right
  is_plain_condition (n.And s parts at) = are_plain_conditions parts
  is_plain_condition _ = false

  pub are_plain_conditions : {m : _} → n.Exprs m → Bool
  are_plain_conditions n.NoExprs = true
  are_plain_conditions (n.ExprThen expr rest) = is_plain_condition expr && are_plain_conditions rest

abbrev pub is_plain_written : n.MaybeCondition → Bool
is_plain_written n.NoCondition = true
is_plain_written (n.ACondition expr) = is_plain_condition expr

abbrev pub are_plain_entries : {m : _} → n.Entries m → List Known → Bool
are_plain_entries n.NoEntries known = true
are_plain_entries (n.EntryThen source alias at joined on rest) known =
    is_plain_source source known && is_plain_written on && are_plain_entries rest known

abbrev pub is_plain_item : n.Item → Bool
is_plain_item (n.Value expr name) = is_point expr
is_plain_item _ = true

abbrev pub are_plain_items : {m : _} → n.Items m → Bool
are_plain_items n.NoItems = true
are_plain_items (n.ItemThen item rest) = is_plain_item item && are_plain_items rest

abbrev pub is_plain : n.Query → List Known → Bool
is_plain (n.OfBlock (n.Select false s items s' from where_condition n.NoGroupBy n.NoCondition)) known =
    are_plain_entries from known && is_plain_written where_condition && are_plain_items items
is_plain _ known = false

-- ---- the same of a resolved tree
abbrev pub is_tree_point : RVal → Bool
is_tree_point (Col up entry col) = true
is_tree_point (Lit lit) = true
is_tree_point _ = false

abbrev pub are_tree_points : {m : _} → Values m → Bool
are_tree_points NoValues = true
are_tree_points (ValueThen e rest) = is_tree_point e && are_tree_points rest

abbrev pub is_tree_equality : RCond → Bool
is_tree_equality (Eq left right) = is_tree_point left && is_tree_point right
is_tree_equality _ = false

abbrev pub are_tree_equalities : {m : _} → Conditions m → Bool
are_tree_equalities NoConditions = true
are_tree_equalities (ConditionThen condition rest) = is_tree_equality condition && are_tree_equalities rest

abbrev pub are_tree_tables : {m : _} → Entries m → Bool
are_tree_tables NoEntries = true
are_tree_tables (EntryThen source width rest) = is_table source && are_tree_tables rest

abbrev pub is_grouping : Grouping → Bool
is_grouping Plain = false
is_grouping One = true
is_grouping (Keys columns) = true

abbrev pub is_plain_tree : RQuery → Bool
is_plain_tree (OfBlock (Select false s entries s' conds Plain NoCondition s'' items)) =
    are_tree_tables entries && are_tree_equalities conds && are_tree_points items
is_plain_tree _ = false
