-- The faults of a query, one predicate for each, of the site at which it stands. A site that a predicate does not name has not its fault.
use Rattle.std.specs.Prelude.{ℕ, nat_eq, nat_lt, Bool, true, false, not, ◌&&◌, ◌||◌, List, [], ◌∷◌, length, filter, Option, Some, None, is_some, is_none, find}
use Rattle.std.specs.List.{list_any, flat_map}
use Rattle.sql_model.specs.Syntax as n
use Rattle.sql_model.specs.Syntax.{Name}
use Rattle.sql_model.specs.Frames.{ColumnName}
use Rattle.sql_model.specs.Columns.{same_name, is_called}
use Rattle.sql_model.specs.Headings.{columns_of}
use Rattle.scope_core.specs.Scope.{Place, is_among_places, Sight, AsGroup, AsMember, Level, Levels, place_at, headings_here, sight_here}
use Rattle.scope_core.specs.Sites.{AValue, ATruth, Site, ASource, AnAlias, AColumn, AGroupColumn, AStar, AnAliasStar, AnExpression, TwoWidths, Outputs}

-- ---- vocabulary
abbrev pub is_some_and : {X : Type 0} → (X → Bool) → Option X → Bool
is_some_and test None = false
is_some_and test (Some x) = test x

abbrev pub count_called : Name → List ColumnName → ℕ
count_called name columns = length (filter (is_called name) columns)

-- whether a block has the qualifier, or offers a bare name
abbrev pub offers : Option Name → Name → Level → Bool
offers qual name level = is_some (place_at qual name level)

-- the innermost block that does
abbrev pub block_meant : Option Name → Name → Levels → Option Level
block_meant qual name levels = find (offers qual name) levels

-- the columns among which a name is sought there: those of the qualified entry, or of all entries
abbrev pub columns_meant : Option Name → Level → List ColumnName
columns_meant None level = flat_map (λ h. h.columns) level.headings
columns_meant (Some alias) level = columns_of alias level.headings

-- whether that is the innermost block of all, and whether it is one further out
abbrev pub is_here : Option Name → Name → Levels → Bool
is_here qual name [] = false
is_here qual name (level ∷ outer) = offers qual name level

abbrev pub is_outer : Option Name → Name → Levels → Bool
is_outer qual name levels = is_some (block_meant qual name levels) && not (is_here qual name levels)

-- how the innermost block is seen: as a group in the items and HAVING of a grouped block, outside aggregates; as one member in an aggregate's
-- argument there
abbrev pub is_group : Sight → Bool
is_group (AsGroup columns) = true
is_group _ = false

abbrev pub is_member : Sight → Bool
is_member AsMember = true
is_member _ = false

abbrev pub is_in_group : Sight → Bool
is_in_group sight = is_group sight || is_member sight

-- ---- E30: an entry names no relation
abbrev pub unknown_table : Site → Bool
unknown_table (ASource name known at) = is_none (find (λ k. same_name name k.name) known)
unknown_table _ = false

-- ---- E31: no block from here outwards has the qualifier; for `alias.*`, this block has it not
abbrev pub lacks_alias : Option Name → Name → Levels → Bool
lacks_alias None name levels = false
lacks_alias (Some alias) name levels = is_none (block_meant (Some alias) name levels)

abbrev pub unknown_alias : Site → Bool
unknown_alias (AColumn qual qual_at name levels at) = lacks_alias qual name levels
unknown_alias (AGroupColumn (n.Col qual qual_at name at) levels) = lacks_alias qual name levels
unknown_alias (AnAliasStar alias levels at) = is_none (find (λ h. same_name alias h.alias) (headings_here levels))
unknown_alias _ = false

-- ---- E32: the entry found by the qualifier lacks the column, or no block offers a bare one; or a column of GROUP BY is not this block's
abbrev pub lacks_column : Option Name → Name → Levels → Bool
lacks_column None name levels = is_none (block_meant None name levels)
lacks_column (Some alias) name levels =
    is_some_and (λ level. not (list_any (is_called name) (columns_meant (Some alias) level))) (block_meant (Some alias) name levels)

abbrev pub unknown_column : Site → Bool
unknown_column (AColumn qual qual_at name levels at) = lacks_column qual name levels
unknown_column (AGroupColumn (n.Col qual qual_at name at) levels) = lacks_column qual name levels || is_outer qual name levels
unknown_column (AGroupColumn expr levels) = true
unknown_column _ = false

-- ---- E33: two columns of the innermost block that offers the name, or of the qualified entry, have it
abbrev pub names_two : Option Name → Name → Levels → Bool
names_two qual name levels = is_some_and (λ level. nat_lt 1 (count_called name (columns_meant qual level))) (block_meant qual name levels)

abbrev pub ambiguous : Site → Bool
ambiguous (AColumn qual qual_at name levels at) = names_two qual name levels
ambiguous (AGroupColumn (n.Col qual qual_at name at) levels) = names_two qual name levels
ambiguous _ = false

-- ---- E34: an alias twice in one block
abbrev pub alias_twice : Site → Bool
alias_twice (AnAlias alias before at) = list_any (same_name alias) before
alias_twice _ = false

-- ---- E35: a column, literal, operator, aggregate or scalar subquery where a truth is wanted
abbrev pub not_truth : Site → Bool
not_truth (AnExpression ATruth levels (n.Col qual qual_at name at)) = true
not_truth (AnExpression ATruth levels (n.Lit lit at)) = true
not_truth (AnExpression ATruth levels (n.Fun sym s args at)) = true
not_truth (AnExpression ATruth levels (n.Agg fun is_distinct argument at)) = true
not_truth (AnExpression ATruth levels (n.Sub query at)) = true
not_truth _ = false

-- ---- E36: a truth other than a call where a value is wanted
abbrev pub not_value : Site → Bool
not_value (AnExpression AValue levels (n.Pred sym s args at)) = true
not_value (AnExpression AValue levels (n.Eq left right at)) = true
not_value (AnExpression AValue levels (n.And s parts at)) = true
not_value (AnExpression AValue levels (n.Or s parts at)) = true
not_value (AnExpression AValue levels (n.Not part at)) = true
not_value (AnExpression AValue levels (n.Exists query at)) = true
not_value (AnExpression AValue levels (n.In left query at in_at)) = true
not_value _ = false

-- ---- E37: an aggregate in ON, WHERE or another aggregate's argument
abbrev pub aggregate_here : Site → Bool
aggregate_here (AnExpression wanted levels (n.Agg fun is_distinct argument at)) = not (is_group (sight_here levels))
aggregate_here _ = false

-- ---- E38: in the items or HAVING of a grouped block, outside aggregates, a column of this block that is not a group column
abbrev pub is_no_key : Sight → Option Place → Bool
is_no_key (AsGroup columns) (Some p) = not (is_among_places p columns)
is_no_key _ _ = false

abbrev pub not_grouped : Site → Bool
not_grouped (AColumn qual qual_at name (level ∷ outer) at) = is_no_key level.sight (place_at qual name level)
not_grouped _ = false

-- ---- E39: an aggregate's argument names an outer block's column
abbrev pub outer_aggregate : Site → Bool
outer_aggregate (AColumn qual qual_at name levels at) = is_member (sight_here levels) && is_outer qual name levels
outer_aggregate _ = false

-- ---- E40: a subquery in the items or HAVING of a grouped block, aggregates' arguments included
abbrev pub is_subquery : n.Expr → Bool
is_subquery (n.Sub query at) = true
is_subquery (n.Exists query at) = true
is_subquery (n.In left query at in_at) = true
is_subquery _ = false

abbrev pub subquery_in_group : Site → Bool
subquery_in_group (AnExpression wanted levels expr) = is_in_group (sight_here levels) && is_subquery expr
subquery_in_group _ = false

-- ---- E41: two widths differ
abbrev pub width_differs : Site → Bool
width_differs (TwoWidths left right at) = not (nat_eq left right)
width_differs _ = false

-- ---- E42: a scalar subquery that is not one block with one item, an aggregate, without DISTINCT, GROUP BY and HAVING
abbrev pub is_one_aggregate : {m : _} → n.Items m → Bool
is_one_aggregate (n.ItemThen (n.Value (n.Agg fun is_distinct argument at) name) n.NoItems) = true
is_one_aggregate _ = false

abbrev pub is_scalar : n.Query → Bool
is_scalar (n.OfBlock (n.Select false s items s' from where_condition n.NoGroupBy n.NoCondition)) = is_one_aggregate items
is_scalar _ = false

abbrev pub scalar_not_aggregate : Site → Bool
scalar_not_aggregate (AnExpression wanted levels (n.Sub query at)) = not (is_scalar query)
scalar_not_aggregate _ = false

-- ---- E43: a view has one output name twice; of the names of its columns
abbrev pub is_repeated : ColumnName → List ColumnName → Bool
is_repeated None rest = false
is_repeated (Some name) rest = list_any (is_called name) rest

abbrev pub name_twice : List ColumnName → Bool
name_twice [] = false
name_twice (None ∷ rest) = name_twice rest
name_twice (Some name ∷ rest) = list_any (is_called name) rest || name_twice rest

-- ---- E44: `*` or `alias.*` in a grouped block
abbrev pub star_in_group : Site → Bool
star_in_group (AStar levels at) = is_in_group (sight_here levels)
star_in_group (AnAliasStar alias levels at) = is_in_group (sight_here levels)
star_in_group _ = false

-- ---- The limit on the outputs of a block is no fault of the query; it is tried after each item.
abbrev pub most_outputs : ℕ
most_outputs = 2048

abbrev pub is_too_wide : Site → Bool
is_too_wide (Outputs count) = nat_lt most_outputs count
is_too_wide _ = false
