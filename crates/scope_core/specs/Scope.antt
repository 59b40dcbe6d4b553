-- What a place in a query can name: the relations of the schema, and the columns of the blocks around it, each with the place at which a
-- resolved tree finds it (SQL, ISO/IEC 9075-2, 6.6 identifier chain and 7.6 table reference). In one block a column is sought as its value
-- is: among the entries from left to right.
use Rattle.std.specs.Prelude.{ℕ, suc, nat_eq, Bool, true, false, ◌&&◌, ◌||◌, if◌then◌else◌, List, [], ◌∷◌, ◌++◌, length, Option, Some, None, position, option_map, unwrap_or}
use Rattle.std.specs.Option.{option_or}
use Rattle.sql_model.specs.Syntax as n
use Rattle.sql_model.specs.Syntax.{Name}
use Rattle.sql_model.specs.Frames.{ColumnName}
use Rattle.sql_model.specs.Columns.{same_name, is_called}
use Rattle.sql_model.specs.Headings.{Heading}
use Rattle.scope_core.specs.Syntax.{RSource, Grouping, Plain, One, Keys}
use Rattle.scope_core.specs.declared.tree.Grouping.TheVariants as g

-- a relation that a query can name, and what a resolved tree says for it
pub record Known : Type 0 where
  pub name : Name
  pub columns : List ColumnName
  pub source : RSource

abbrev pub heading : Known → Heading
heading k = record { alias = k.name; columns = k.columns }

-- an entry of a block, and a column of that entry
abbrev pub Place : Type 0
Place = ℕ × ℕ

abbrev pub same_place : Place → Place → Bool
same_place p r = nat_eq p.0 r.0 && nat_eq p.1 r.1

abbrev pub is_among_places : Place → List Place → Bool
is_among_places p [] = false
is_among_places p (r ∷ places) = same_place p r || is_among_places p places

-- how a place sees a block around it
pub data Sight : Type 0 where
  -- by the rows of its entries: in ON, WHERE and GROUP BY, and in the items of a block that is not grouped
  AsRows : Sight
  -- by the columns of a group, and by no others: in the items and HAVING of a grouped block
  AsGroup : List Place → Sight
  -- by the rows of one member of a group: in the argument of an aggregate there
  AsMember : Sight

-- What a place sees of a block around it: the headings of some of its entries, the first of which is entry number `first`.
pub record Level : Type 0 where
  pub first : ℕ
  pub headings : List Heading
  pub sight : Sight

-- the blocks around a place, the innermost first
abbrev pub Levels : Type 0
Levels = List Level

-- the innermost block's headings, and how it is seen
abbrev pub headings_here : Levels → List Heading
headings_here [] = []
headings_here (level ∷ outer) = level.headings

abbrev pub sight_here : Levels → Sight
sight_here [] = AsRows
sight_here (level ∷ outer) = level.sight

-- ---- where a name is in one block, whose headings begin at entry number `entry`
abbrev pub bare_place : Name → ℕ → List Heading → Option Place
bare_place name entry [] = None
bare_place name entry (h ∷ rest) =
    option_or (option_map (λ column. (entry, column)) (position (is_called name) h.columns)) (bare_place name (suc entry) rest)

-- An entry of this alias that lacks the column still ends the search: the place then is one past the entry's columns.
abbrev pub qualified_place : Name → Name → ℕ → List Heading → Option Place
qualified_place alias name entry [] = None
qualified_place alias name entry (h ∷ rest) =
    if same_name alias h.alias then Some (entry, unwrap_or (position (is_called name) h.columns) (length h.columns))
    else qualified_place alias name (suc entry) rest

abbrev pub place_in : Option Name → Name → ℕ → List Heading → Option Place
place_in None name entry headings = bare_place name entry headings
place_in (Some alias) name entry headings = qualified_place alias name entry headings

abbrev pub place_at : Option Name → Name → Level → Option Place
place_at qual name level = place_in qual name level.first level.headings

-- ---- GROUP BY
abbrev pub group_place : n.Expr → List Heading → Place
group_place (n.Col qual qual_at name at) from = unwrap_or (place_in qual name 0 from) (length from, 0)
group_place _ from = (length from, 0)

abbrev pub group_places : {m : _} → n.Exprs m → List Heading → List Place
group_places n.NoExprs from = []
group_places (n.ExprThen expr rest) from = group_place expr from ∷ group_places rest from

-- over the headings of FROM; `one_group` is whether a block without GROUP BY is grouped
abbrev pub grouping_of : n.MaybeGroupBy → Bool → List Heading → Grouping
grouping_of n.NoGroupBy false from = g.Plain
grouping_of n.NoGroupBy true from = g.One
grouping_of (n.GroupBy s columns) one_group from = g.Keys (group_places columns from)

-- ---- the levels of a block
-- in WHERE and GROUP BY
abbrev pub rows_level : List Heading → Level
rows_level headings = record { first = 0; headings = headings; sight = AsRows }

abbrev pub output_sight : Grouping → Sight
output_sight Plain = AsRows
output_sight One = AsGroup []
output_sight (Keys columns) = AsGroup columns

-- in the items and HAVING
abbrev pub output_level : List Heading → Grouping → Level
output_level headings grouping = record { first = 0; headings = headings; sight = output_sight grouping }

-- in the argument of an aggregate, of the blocks that the aggregate sees
abbrev pub member_levels : Levels → Levels
member_levels [] = []
member_levels (level ∷ outer) = record { first = level.first; headings = level.headings; sight = AsMember } ∷ outer

-- in the ON of entry number `entry`, where `before` is what an ON of the entry before it sees: after a comma its own entry alone
abbrev pub on_level : Bool → Level → ℕ → Heading → Level
on_level true before entry h = record { first = before.first; headings = before.headings ++ h ∷ []; sight = AsRows }
on_level false before entry h = record { first = entry; headings = h ∷ []; sight = AsRows }

-- what is seen before the first entry
abbrev pub no_entry : Level
no_entry = rows_level []
