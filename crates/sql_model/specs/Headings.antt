-- The columns of a query's answer, by name (SQL, ISO/IEC 9075-2, 7.12 query specification and 7.13 query expression, on the names of
-- columns). An item has its alias as name, or else the name of the column that it is, or else none.
use Rattle.std.specs.Prelude.{List, [], ◌∷◌, ◌++◌, Some, None, find, unwrap_or, option_map}
use Rattle.std.specs.Option.{option_or}
use Rattle.std.specs.List.{flat_map}
use Rattle.sql_model.specs.Syntax.{Name, Expr, Col, Item, Items, NoItems, ItemThen, Star, AliasStar, Value, Source, Named, Derived, Query, OfBlock, Set, Block, Select, Entries, NoEntries, EntryThen}
use Rattle.sql_model.specs.Frames.{ColumnName}
use Rattle.sql_model.specs.Columns.{same_name}

-- the alias of an entry of FROM, or the name of a relation, and the columns behind it
pub record Heading : Type 0 where
  pub alias : Name
  pub columns : List ColumnName

-- the columns behind the first heading of this alias, and none where it is absent
abbrev pub columns_of : Name → List Heading → List ColumnName
columns_of alias headings = unwrap_or (option_map (λ h. h.columns) (find (λ h. same_name alias h.alias) headings)) []

-- the name of a column, where the expression is one
abbrev pub own_name : Expr → ColumnName
own_name (Col qual qual_at name at) = Some name
own_name _ = None

-- the columns of an item, over the headings of FROM
abbrev pub item_columns : Item → List Heading → List ColumnName
item_columns (Star at) from = flat_map (λ h. h.columns) from
item_columns (AliasStar alias at) from = columns_of alias from
item_columns (Value expr name) from = option_or name (own_name expr) ∷ []

abbrev pub items_columns : {m : _} → Items m → List Heading → List ColumnName
items_columns NoItems from = []
items_columns (ItemThen item rest) from = item_columns item from ++ items_columns rest from

-- over the headings of the relations that the query can name
unfoldable mutual
  pub output_columns : Query → List Heading → List ColumnName
  output_columns (OfBlock block) relations = block_columns block relations
  output_columns (Set op left right at) relations = output_columns left relations

  pub block_columns : Block → List Heading → List ColumnName
  block_columns (Select is_distinct s items s' from where_condition group_by having) relations = items_columns items (headings from relations)

  pub headings : {m : _} → Entries m → List Heading → List Heading
  headings NoEntries relations = []
  headings (EntryThen source alias at joined on rest) relations =
      record { alias = alias; columns = source_columns source relations } ∷ headings rest relations

  pub source_columns : Source → List Heading → List ColumnName
  source_columns (Named name at) relations = columns_of name relations
  source_columns (Derived query) relations = output_columns query relations
