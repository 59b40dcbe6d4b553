-- The view of an index: a plain block that shows the indexed columns and then those of the primary key that are not shown yet.
use Rattle.std.specs.Prelude.{ℕ, false, not, List, [], ◌∷◌, ◌++◌, map, filter, slice_get, Option, None, option_and_then, unwrap_or}
use Rattle.std.specs.List.{filter_map}
use Rattle.sql_model.specs.declared.tree.Item.{Item}
use Rattle.sql_model.specs.declared.tree.Item.TheVariants as item
use Rattle.sql_model.specs.declared.tree.Expr.TheVariants as expr
use Rattle.sql_model.specs.declared.tree.Query.TheVariants as query
use Rattle.sql_model.specs.declared.tree.Block.{roll-Block}
use Rattle.sql_model.specs.declared.statement.NameAt.{NameAt}
use Rattle.sql_model.specs.declared.schema.Table.{Table}
use Rattle.sql_model.specs.Syntax.{Name, Query}
use Rattle.sql_model.specs.SelectStar.{entry_of}
use Rattle.schema_read.specs.Keys.{is_named}

-- the columns of the primary key, in its order
abbrev pub primary_columns : Table → Option (List ℕ)
primary_columns table = option_and_then (slice_get table.keys) table.primary

-- an item that is a bare column
abbrev pub bare_column : Name → ℕ → Item
bare_column name at = item.Value (expr.Col None 0 name at) None

abbrev pub column_item : NameAt → Item
column_item column = bare_column column.name column.at

-- the columns of a key that are not shown yet, at this place
abbrev pub added_columns : List NameAt → ℕ → Table → List ℕ → List NameAt
added_columns shown at table key =
    map (λ name. record { name = name; at = at }) (filter (λ name. not (is_named name shown)) (filter_map (slice_get table.columns) key))

abbrev pub shown_columns : List NameAt → ℕ → Table → List NameAt
shown_columns columns at table = columns ++ added_columns columns at table (unwrap_or (primary_columns table) [])

abbrev pub index_query : NameAt → List NameAt → Table → Query
index_query on columns table = query.Block (roll-Block (record {
  distinct = false;
  items = map column_item (shown_columns columns on.at table);
  entries = entry_of on.name on.name on.at on.at ∷ [];
  cond = None;
  groups = None;
  having = None;
}))
