-- The definitions at lists as code has them.
use Rattle.std.specs.Prelude.{ℕ, Bool, List, [], ◌∷◌, Option, Some, None, if◌then◌else◌}
use Rattle.scope_core.specs.declared.tree.RCond.TheBlock as t
use Rattle.scope_core.specs.declared.tree.REntry.{REntry}
use Rattle.scope_core.specs.Syntax as r
use Rattle.scope_core.specs.Syntax.{RVal, RCond}
use Rattle.sql_to_u.specs.declared.size.Size.{Size}
use Rattle.sql_to_u.specs.declared.product.GroupSize.{GroupSize}
use Rattle.sql_to_u.specs.declared.product.Row.{Row}
use Rattle.sql_to_u.specs.declared.product.Row.TheVariants as row
use Rattle.sql_to_u.specs.Scopes.{count_columns}
use Rattle.sql_to_u.specs.Sizes.{condition_sizes, item_sizes, source_sizes, values_size, having_sizes, value_size, leaf, leaves, no_members}

unfoldable pub columns_listed : List REntry → ℕ
columns_listed entries = count_columns (t.hidden-the_row-REntry-7 entries)

-- the sizes of the values of a row
abbrev pub row_sizes : Row → List Size
row_sizes (row.Names count) = leaves count
row_sizes (row.One size) = size ∷ []

module _ (views : List Size) where
  unfoldable pub source_sizes_listed : List REntry → List Size
  source_sizes_listed entries = source_sizes views (t.hidden-the_row-REntry-7 entries)

  unfoldable pub condition_sizes_listed : GroupSize → List RCond → List Size
  condition_sizes_listed members cs = condition_sizes views (t.hidden-the_row-RCond-2 cs) members

  unfoldable pub item_sizes_listed : GroupSize → List RVal → List Size → List Size
  item_sizes_listed members es row = item_sizes views (t.hidden-the_row-RVal-1 es) members row

  unfoldable pub values_size_listed : GroupSize → List RVal → Size → Size
  values_size_listed members es before = values_size views (t.hidden-the_row-RVal-1 es) members before

  -- what may be left out
  abbrev pub having_sizes_written : GroupSize → Option RCond → List Size
  having_sizes_written members None = []
  having_sizes_written members (Some condition) = having_sizes views (r.ACondition condition) members

  abbrev pub argument_size_written : Bool → Option RVal → Size
  argument_size_written counting None = leaf
  argument_size_written counting (Some e) = if counting then leaf else value_size views e no_members
