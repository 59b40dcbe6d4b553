-- What the code lends on its way through a query, as the definitions have it.
use Rattle.std.specs.Prelude.{nat_lt, Bool, false, not, List, [], ◌∷◌, map, Option, Some, None}
use Rattle.std.specs.List.{flat_map, list_any}
use Rattle.scope_core.specs.declared.catalog.Known.{Known as LentKnown}
use Rattle.scope_core.specs.declared.heading.Stored.{Stored}
use Rattle.scope_core.specs.declared.heading.Stored.TheVariants as stored
use Rattle.scope_core.specs.declared.level.Sight.{Sight as LentSight}
use Rattle.scope_core.specs.declared.level.Sight.TheVariants as lent
use Rattle.scope_core.specs.declared.level.Levels.{Levels as LentLevels}
use Rattle.scope_core.specs.declared.level.Levels.TheVariants as around
use Rattle.sql_model.specs.Syntax as n
use Rattle.sql_model.specs.Syntax.{Name}
use Rattle.sql_model.specs.Frames.{ColumnName}
use Rattle.sql_model.specs.declared.tree.Expr.TheBlock as node
use Rattle.sql_model.specs.declared.tree.Entry.{Entry}
use Rattle.sql_model.specs.Columns.{is_called}
use Rattle.sql_model.specs.Headings.{Heading, columns_of, headings, items_columns}
use Rattle.sql_model.specs.Grouping.{items_have_aggregate, some_has_aggregate}
use Rattle.scope_core.specs.Syntax.{RSource}
use Rattle.scope_core.specs.Catalogs.{Catalog}
use Rattle.scope_core.specs.Scope.{Known, heading, Sight, AsRows, AsGroup, AsMember, Levels, Place, place_at}
use Rattle.scope_core.specs.Faults.{count_called}
use Rattle.scope_core.specs.Ropes.{columns_within}
use Rattle.scope_core.specs.declared.tree.RSource.TheVariants as s

abbrev pub source_of : Stored → RSource
source_of (stored.Table number) = s.Table number
source_of (stored.View place) = s.View place

abbrev pub relation_of : LentKnown → Known
relation_of k = record { name = k.name.now; columns = columns_within k.columns; source = source_of k.stored }

-- the relations that a query can name
abbrev pub relations_of : Catalog → List Known
relations_of catalog = map relation_of catalog.relations

abbrev pub headings_of : Catalog → List Heading
headings_of catalog = map heading (relations_of catalog)

abbrev pub sight_of : LentSight → Sight
sight_of lent.Rows = AsRows
sight_of (lent.Group columns) = AsGroup columns.now
sight_of lent.Member = AsMember

-- the blocks around a place
abbrev pub levels_of : LentLevels → Levels
levels_of (around.Outside runs) = []
levels_of (around.Block' first headings sight p outer) =
    record { first = first; headings = headings.now; sight = sight_of sight } ∷ levels_of outer

-- where the innermost block has a name
abbrev pub place_here : Option Name → Name → Levels → Option Place
place_here qual name [] = None
place_here qual name (level ∷ outer) = place_at qual name level

-- ---- in one block that has a name
-- whether two of the columns that are meant have it
abbrev pub is_twice_in : Option Name → Name → List Heading → Bool
is_twice_in None name headings = nat_lt 1 (count_called name (flat_map (λ h. h.columns) headings))
is_twice_in (Some alias) name headings = nat_lt 1 (count_called name (columns_of alias headings))

-- whether the entry of the qualifier lacks it
abbrev pub is_lacking_in : Option Name → Name → List Heading → Bool
is_lacking_in None name headings = false
is_lacking_in (Some alias) name headings = not (list_any (is_called name) (columns_of alias headings))

-- ---- lists as code has them, in a row
abbrev pub row_of : (exprs : List n.Expr) → n.Exprs (n.long (node.shape-the_row-Expr-0 exprs))
row_of exprs = node.hidden-the_row-Expr-0 exprs

abbrev pub items_row : (items : List n.Item) → n.Items (n.long (node.shape-the_row-Item-6 items))
items_row items = node.hidden-the_row-Item-6 items

abbrev pub entries_row : (entries : List Entry) → n.Entries (n.long (node.shape-the_row-Entry-7 entries))
entries_row entries = node.hidden-the_row-Entry-7 entries

unfoldable pub entries_headings : List Entry → List Heading → List Heading
entries_headings entries relations = headings (entries_row entries) relations

unfoldable pub list_columns : List n.Item → List Heading → List ColumnName
list_columns items from = items_columns (items_row items) from

unfoldable pub list_has_aggregate : List n.Expr → Bool
list_has_aggregate exprs = some_has_aggregate (row_of exprs)

unfoldable pub items_have_aggregate_listed : List n.Item → Bool
items_have_aggregate_listed items = items_have_aggregate (items_row items)
