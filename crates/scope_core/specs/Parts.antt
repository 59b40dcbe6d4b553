-- The first fault of each part of a query, and what its tree is made of, at lists as code has them.
use Rattle.std.specs.Option.{option_or}
use Rattle.std.specs.Prelude.{◌≡◌, if◌then◌else◌, ℕ, Bool, true, false, List, [], ◌∷◌, ◌++◌, ◌||◌, is_some, map, Option, Some, None}
use Rattle.sql_model.specs.Syntax as n
use Rattle.sql_model.specs.Syntax.{Name}
use Rattle.sql_model.specs.declared.tree.Block.{out-Block}
use Rattle.sql_model.specs.declared.tree.Entry.{Entry}
use Rattle.sql_model.specs.declared.tree.Expr.TheVariants as expr
use Rattle.sql_model.specs.Frames.{ColumnName}
use Rattle.sql_model.specs.Headings.{Heading}
use Rattle.scope_core.specs.declared.fault.ScopeCode.TheVariants as code
use Rattle.scope_core.specs.declared.fault.ScopeFault.{ScopeFault}
use Rattle.scope_core.specs.declared.fault.ScopeFault.TheVariants as fault
use Rattle.scope_core.specs.declared.tree.REntry.{REntry}
use Rattle.scope_core.specs.Syntax.{RVal, RCond, Grouping}
use Rattle.scope_core.specs.Scope.{Known, Level, Levels, Place, group_places, no_entry, output_level, rows_level}
use Rattle.scope_core.specs.Resolving.{conjunction, conjuncts, resolved_value, entry_of, resolved_values, conjuncts_of_each, resolved_conditions, resolved_entries, on_conjuncts, resolved_items}
use Rattle.scope_core.specs.Sites.{AGroupColumn, value_sites, values_sites, truth_sites, truths_sites, sites, block_sites, entry_sites, source_sites, on_sites, items_sites, item_sites, group_sites}
use Rattle.scope_core.specs.FirstFault.{fault_at, first_fault}
use Rattle.scope_core.specs.declared.tree.Grouping.TheVariants as g
use Rattle.scope_core.specs.Faults.{is_scalar, is_one_aggregate, name_twice}
use Rattle.scope_core.specs.Lent.{row_of, items_row, entries_row, entries_headings, items_have_aggregate_listed}

module _ (known : List Known) (levels : Levels) where
  -- ---- faults
  unfoldable pub value_fault : n.Expr → Option ScopeFault
  value_fault expr = first_fault (value_sites expr known levels)

  unfoldable pub values_fault : List n.Expr → Option ScopeFault
  values_fault exprs = first_fault (values_sites (row_of exprs) known levels)

  unfoldable pub truth_fault : n.Expr → Option ScopeFault
  truth_fault expr = first_fault (truth_sites expr known levels)

  unfoldable pub truths_fault : List n.Expr → Option ScopeFault
  truths_fault exprs = first_fault (truths_sites (row_of exprs) known levels)

  unfoldable pub fault_within : n.Query → Option ScopeFault
  fault_within query = first_fault (sites query known levels)

  unfoldable pub block_fault : n.Block → Option ScopeFault
  block_fault block = first_fault (block_sites block known levels)

  unfoldable pub source_fault : n.Source → Option ScopeFault
  source_fault source = first_fault (source_sites source known levels)

  unfoldable pub entries_fault : List Name → List Entry → Option ScopeFault
  entries_fault before entries = first_fault (entry_sites (entries_row entries) before known levels)

  unfoldable pub on_fault : ℕ → Level → List Entry → Option ScopeFault
  on_fault entry before entries = first_fault (on_sites (entries_row entries) entry before known levels)

  unfoldable pub item_fault : n.Item → Option ScopeFault
  item_fault item = first_fault (item_sites item known levels)

  unfoldable pub items_fault : ℕ → List n.Item → Option ScopeFault
  items_fault count items = first_fault (items_sites (items_row items) count known levels)

  -- ---- trees
  unfoldable pub values_listed : List n.Expr → List RVal
  values_listed exprs = resolved_values (row_of exprs) known levels

  unfoldable pub conjuncts_listed : List n.Expr → List RCond
  conjuncts_listed exprs = conjuncts_of_each (row_of exprs) known levels

  unfoldable pub conditions_listed : List n.Expr → List RCond
  conditions_listed exprs = resolved_conditions (row_of exprs) known levels

  unfoldable pub entries_listed : List Entry → List REntry
  entries_listed entries = map entry_of (resolved_entries (entries_row entries) known levels)

  unfoldable pub on_listed : ℕ → Level → List Entry → List RCond
  on_listed entry before entries = on_conjuncts (entries_row entries) entry before known levels

  unfoldable pub items_listed : List n.Item → List RVal
  items_listed items = resolved_items (items_row items) known levels

  -- ---- what may be left out
  abbrev pub written_fault : Option n.Expr → Option ScopeFault
  written_fault None = None
  written_fault (Some expr) = truth_fault expr

  abbrev pub written_listed : Option n.Expr → List RCond
  written_listed None = []
  written_listed (Some expr) = conjuncts expr known levels

  abbrev pub having_listed : Option n.Expr → Option RCond
  having_listed None = None
  having_listed (Some expr) = Some (conjunction (conjuncts expr known levels))

  abbrev pub argument_fault : Option n.Expr → Option ScopeFault
  argument_fault None = None
  argument_fault (Some expr) = value_fault expr

  abbrev pub argument_listed : Option n.Expr → Option RVal
  argument_listed None = None
  argument_listed (Some expr) = Some (resolved_value expr known levels)

-- ---- GROUP BY
unfoldable pub group_fault : Levels → n.Expr → Option ScopeFault
group_fault levels column = fault_at (AGroupColumn column levels)

unfoldable pub columns_fault : Levels → List n.Expr → Option ScopeFault
columns_fault levels columns = first_fault (group_sites (row_of columns) levels)

unfoldable pub places_listed : List Heading → List n.Expr → List Place
places_listed from columns = group_places (row_of columns) from

abbrev pub group_by_fault : Levels → Option (List n.Expr) → Option ScopeFault
group_by_fault levels None = None
group_by_fault levels (Some columns) = columns_fault levels columns

abbrev pub grouping_listed : Option (List n.Expr) → Bool → List Heading → Grouping
grouping_listed None false from = g.Plain
grouping_listed None true from = g.One
grouping_listed (Some columns) one_group from = g.Keys (places_listed from columns)

-- ---- a block, over the headings of its entries
abbrev pub from_headings : n.Block → List Heading → List Heading
from_headings block relations = entries_headings (out-Block block).entries relations

abbrev pub grouping_over : n.Block → List Heading → Grouping
grouping_over block from = grouping_listed (out-Block block).groups (is_some (out-Block block).having || items_have_aggregate_listed (out-Block block).items) from

module _ (known : List Known) (levels : Levels) (block : n.Block) (from : List Heading) where
  -- ON and WHERE
  abbrev pub filter_fault : Option ScopeFault
  filter_fault = option_or (on_fault known levels 0 no_entry (out-Block block).entries) (written_fault known (rows_level from ∷ levels) (out-Block block).cond)

  abbrev pub filter_listed : List RCond
  filter_listed = on_listed known levels 0 no_entry (out-Block block).entries ++ written_listed known (rows_level from ∷ levels) (out-Block block).cond

  -- GROUP BY, the items and HAVING
  abbrev pub output_levels : Levels
  output_levels = output_level from (grouping_over block from) ∷ levels

  abbrev pub output_fault : Option ScopeFault
  output_fault =
      option_or (group_by_fault (rows_level from ∷ levels) (out-Block block).groups)
      (option_or (items_fault known output_levels 0 (out-Block block).items) (written_fault known output_levels (out-Block block).having))

  abbrev pub output_items : List RVal
  output_items = items_listed known output_levels (out-Block block).items

  abbrev pub output_having : Option RCond
  output_having = having_listed known output_levels (out-Block block).having

-- ---- conditions
-- an expression is the AND of these
abbrev pub IsAndOf : List n.Expr → n.Expr → Type 0
IsAndOf parts e = (at : ℕ) × (e ≡ expr.And parts at)

-- two predicates with these arguments, as those that BETWEEN stands for
abbrev pub AreBounds : ℕ → List n.Expr → ℕ → List n.Expr → List n.Expr → Type 0
AreBounds above low below high parts = (first second : ℕ) × (parts ≡ expr.Pred above low first ∷ expr.Pred below high second ∷ [])

-- arguments of two predicates, the second of which begins with the value that the first one ends with
abbrev pub AreBoundsOfOne : List n.Expr → List n.Expr → n.Expr → Type 0
AreBoundsOfOne before args high = (low value : n.Expr) × (before ≡ low ∷ value ∷ []) × (args ≡ value ∷ high ∷ [])

-- an expression that is its own conjunct
unfoldable pub IsSingle : n.Expr → Type 0
IsSingle e = (known : List Known) (levels : Levels) → conjuncts e known levels ≡ conjunction (conjuncts e known levels) ∷ []

-- ---- scalar subqueries
unfoldable pub is_scalar_block : n.Block → Bool
is_scalar_block block = is_scalar (n.OfBlock block)

unfoldable pub is_one_aggregate_listed : List n.Item → Bool
is_one_aggregate_listed items = is_one_aggregate (items_row items)

abbrev pub is_aggregate_item : n.Item → Bool
is_aggregate_item (n.Value (n.Agg fun is_distinct argument at) name) = true
is_aggregate_item _ = false

-- ---- the names of a view's columns
abbrev pub name_twice_fault : List ColumnName → ℕ → Option ScopeFault
name_twice_fault columns at = if name_twice columns then Some (fault.Refused code.NameTwice at 0 0) else None
