-- Which blocks are grouped, and how the combinations of a block fall into groups (SQL, ISO/IEC 9075-2, 7.9 group by clause, 7.10 having
-- clause and 7.12 query specification).
use Rattle.std.specs.Prelude.{Bool, true, false, ◌||◌, List, [], ◌∷◌, map, filter}
use Rattle.data_model.specs.Rows.{Row, same_row, distinct}
use Rattle.sql_model.specs.Syntax.{Expr, Fun, Pred, Call, Agg, Eq, And, Or, Not, In, Exprs, NoExprs, ExprThen, Item, Value, Items, NoItems, ItemThen, MaybeCondition, NoCondition, ACondition}
use Rattle.sql_model.specs.Frames.{BoundEntry, Combination, Frame}
use Rattle.sql_model.specs.Headings.{Heading}

-- whether an aggregate stands in an expression, outside its subqueries
unfoldable mutual
  pub has_aggregate : Expr → Bool
  has_aggregate (Agg fun is_distinct argument at) = true
  has_aggregate (Fun sym s args at) = some_has_aggregate args
  has_aggregate (Pred sym s args at) = some_has_aggregate args
  has_aggregate (Call sym s args at) = some_has_aggregate args
  has_aggregate (Eq left right at) = has_aggregate left || has_aggregate right
  has_aggregate (And s parts at) = some_has_aggregate parts
  has_aggregate (Or s parts at) = some_has_aggregate parts
  has_aggregate (Not part at) = has_aggregate part
  has_aggregate (In left query at in_at) = has_aggregate left
  has_aggregate _ = false

  pub some_has_aggregate : {m : _} → Exprs m → Bool
  some_has_aggregate NoExprs = false
  some_has_aggregate (ExprThen expr rest) = has_aggregate expr || some_has_aggregate rest

abbrev pub item_has_aggregate : Item → Bool
item_has_aggregate (Value expr name) = has_aggregate expr
item_has_aggregate _ = false

abbrev pub items_have_aggregate : {m : _} → Items m → Bool
items_have_aggregate NoItems = false
items_have_aggregate (ItemThen item rest) = item_has_aggregate item || items_have_aggregate rest

abbrev pub is_written : MaybeCondition → Bool
is_written NoCondition = false
is_written (ACondition condition) = true

-- A block without GROUP BY that has HAVING, or an aggregate among its items, has the one group of all its combinations, also where there are
-- none: the standard reads it as GROUP BY ().
abbrev pub is_one_group : {m : _} → Items m → MaybeCondition → Bool
is_one_group items having = is_written having || items_have_aggregate items

-- a group for each distinct key, in the order of first occurrence; so no combinations have no group
abbrev pub groups_by : (Combination → Row) → List Combination → List (List Combination)
groups_by key combinations = map (λ k. filter (λ c. same_row (key c) k) combinations) (distinct (map key combinations))

-- what stands for an entry in an empty group: no well-formed column reads it
abbrev pub zero_entry : Heading → BoundEntry
zero_entry h = record { alias = h.alias; columns = h.columns; row = map (λ name. 0) h.columns }

-- the frame of a group: the first member's entries, and all members
abbrev pub group_frame : List Heading → List Combination → Frame
group_frame from [] = record { entries = map zero_entry from; members = [] }
group_frame from (first ∷ others) = record { entries = first; members = first ∷ others }
