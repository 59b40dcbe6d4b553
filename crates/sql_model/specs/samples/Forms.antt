-- Short forms for the queries of the samples, and the world that they are evaluated over.
use Rattle.std.specs.Prelude.{ℕ, Bool, true, false, List, [], ◌∷◌, map, Some, None, Option, codes}
use Rattle.data_model.specs.Rows.{Row}
use Rattle.data_model.specs.Reading.{Reading, AggregateEntry}
use Rattle.sql_model.specs.declared.tree.Expr.TheVariants as expr
use Rattle.sql_model.specs.declared.tree.Source.TheVariants as source
use Rattle.sql_model.specs.declared.tree.Query.TheVariants as query
use Rattle.sql_model.specs.declared.tree.Block.{roll-Block}
use Rattle.sql_model.specs.declared.tree.Entry.{Entry, roll-Entry}
use Rattle.sql_model.specs.Syntax.{Name, Expr, Col, Item, Star, Value, Query, SetOp, AggFun, Count, Max}
use Rattle.sql_model.specs.Aggregates.{number_of}
use Rattle.sql_model.specs.World.{World, ShownRelation}
use Rattle.sql_model.specs.Meaning.{rows}

-- ---- queries
abbrev pub block : Bool → List Item → List Entry → Option Expr → Option (List Expr) → Option Expr → Query
unfolding roll-Block
block is_distinct items entries cond groups having = query.Block (roll-Block (record {
  distinct = is_distinct;
  items = items;
  entries = entries;
  cond = cond;
  groups = groups;
  having = having;
}))

abbrev pub select : List Item → List Entry → Query
unfolding roll-Block
select items entries = block false items entries None None None

abbrev pub select_where : List Item → List Entry → Expr → Query
unfolding roll-Block
select_where items entries condition = block false items entries (Some condition) None None

abbrev pub select_group_by : List Item → List Entry → List Expr → Query
unfolding roll-Block
select_group_by items entries columns = block false items entries None (Some columns) None

abbrev pub star : List Item
star = Star 0 ∷ []

-- one item without an alias
abbrev pub only : Expr → List Item
only e = Value e None ∷ []

abbrev pub from : Name → Name → Entry
from table alias = roll-Entry (record { source = source.Named table 0; alias = alias; at = 0; joined = false; on = None })

abbrev pub derived : Query → Name → Entry
derived q alias = roll-Entry (record { source = source.Query q; alias = alias; at = 0; joined = false; on = None })

abbrev pub join : Name → Name → Expr → Entry
join table alias on = roll-Entry (record { source = source.Named table 0; alias = alias; at = 0; joined = true; on = Some on })

abbrev pub all_of : Name → Query
unfolding roll-Block
all_of table = select star (from table table ∷ [])

abbrev pub set : SetOp → Query → Query → Query
set op p q = query.Set op p q 0

-- ---- expressions: alias.name, and a name alone
abbrev pub col : Name → Name → Expr
col alias name = Col (Some alias) 0 name 0

abbrev pub bare : Name → Expr
bare name = Col None 0 name 0

abbrev pub equal : Expr → Expr → Expr
equal left right = expr.Eq left right 0

abbrev pub exists : Query → Expr
exists q = expr.Exists q 0

abbrev pub count_star : Expr
count_star = expr.Agg Count false None 0

abbrev pub one : Expr
one = expr.Lit 0 0

abbrev pub two : Expr
two = expr.Lit 1 0

-- ---- names
abbrev pub r : Name
r = codes "r"

abbrev pub s : Name
s = codes "s"

abbrev pub none : Name
none = codes "none"

abbrev pub a : Name
a = codes "a"

abbrev pub b : Name
b = codes "b"

abbrev pub x : Name
x = codes "x"

abbrev pub y : Name
y = codes "y"

abbrev pub z : Name
z = codes "z"

-- ---- the world: a domain of 4 values, the literals 1 and 2, COUNT and MAX of some bags, and three tables:
--     r(a, b): (0, 1), (0, 2), (1, 1)      s(a): 0, 0, 2      none(a): no row
abbrev pub gives : AggFun → List ℕ → ℕ → AggregateEntry
gives fun counts value = record { aggregate = number_of fun; counts = counts; value = value }

-- COUNT is handed ones, so the second count is the number of rows; COUNT(DISTINCT e) of 0 and 2 is 2.
abbrev pub reading : Reading
reading = record {
  literals = record { literal = 0; value = 1 } ∷ record { literal = 1; value = 2 } ∷ [];
  functions = [];
  predicates = [];
  aggregates =
      gives Count (0 ∷ 0 ∷ 0 ∷ 0 ∷ []) 0 ∷ gives Count (0 ∷ 1 ∷ 0 ∷ 0 ∷ []) 1 ∷ gives Count (0 ∷ 2 ∷ 0 ∷ 0 ∷ []) 2
      ∷ gives Count (0 ∷ 3 ∷ 0 ∷ 0 ∷ []) 3 ∷ gives Count (1 ∷ 0 ∷ 1 ∷ 0 ∷ []) 2 ∷ gives Max (0 ∷ 1 ∷ 0 ∷ 0 ∷ []) 1
      ∷ gives Max (0 ∷ 1 ∷ 1 ∷ 0 ∷ []) 2 ∷ [];
}

abbrev pub shows : Name → List Name → List Row → ShownRelation
shows name columns rows = record { name = name; columns = map Some columns; rows = rows }

abbrev pub w : World
w = record {
  size = 4;
  reading = reading;
  relations =
      shows r (a ∷ b ∷ []) ((0 ∷ 1 ∷ []) ∷ (0 ∷ 2 ∷ []) ∷ (1 ∷ 1 ∷ []) ∷ [])
      ∷ shows s (a ∷ []) ((0 ∷ []) ∷ (0 ∷ []) ∷ (2 ∷ []) ∷ []) ∷ shows none (a ∷ []) [] ∷ [];
}

-- what a query gives there, in no block
abbrev pub rows_of : Query → List Row
rows_of q = rows q w []
