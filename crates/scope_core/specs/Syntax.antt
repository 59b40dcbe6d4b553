-- The resolved trees of src/tree.rt, by the names that the definitions match on.
--     Values n, Conditions n, Entries n    n values, conditions or entries in a row: NoValues, or ValueThen e es
--     MaybeCondition, MaybeArgument        what may be left out: NoCondition, or ACondition c
-- A node with a list has before it the list's shape, which says how long the list is and no more: `And s parts`.
-- A box is not seen: `Not part`.
use Rattle.std.specs.Prelude.{ℕ, Bool, List}
use mathlib.Core.Former.{Count as Length, none_left, one_more}
use Rattle.sql_model.specs.Syntax.{AggFun, SetOp, Shape, long}
use Rattle.scope_core.specs.declared.tree.Grouping.{Grouping as TheGrouping}
use Rattle.scope_core.specs.declared.tree.Grouping.TheVariants as grouping
use Rattle.scope_core.specs.declared.tree.RVal as value
use Rattle.scope_core.specs.declared.tree.RVal.TheVariants as v
use Rattle.scope_core.specs.declared.tree.RCond as condition
use Rattle.scope_core.specs.declared.tree.RCond.TheVariants as c
use Rattle.scope_core.specs.declared.tree.RSource as source
use Rattle.scope_core.specs.declared.tree.RSource.TheVariants as s
use Rattle.scope_core.specs.declared.tree.RBlock as block
use Rattle.scope_core.specs.declared.tree.RQuery as query
use Rattle.scope_core.specs.declared.tree.RQuery.TheVariants as q

-- ---- the types
abbrev pub Grouping : Type 0
Grouping = TheGrouping

abbrev pub RVal : Type 0
RVal = value.RVal

abbrev pub RCond : Type 0
RCond = condition.RCond

abbrev pub RSource : Type 0
RSource = source.RSource

abbrev pub RBlock : Type 0
RBlock = block.RBlock

abbrev pub RQuery : Type 0
RQuery = query.RQuery

abbrev pub Values : Length → Type 0
Values = block.Row_of-RVal

abbrev pub Conditions : Length → Type 0
Conditions = block.Row_of-RCond

abbrev pub Entries : Length → Type 0
Entries = block.Row_of-REntry

-- the condition of a HAVING, where it is written
abbrev pub MaybeCondition : Type 0
MaybeCondition = block.Held-RBlock-having

-- what stands in an aggregate, where it is not `*`
abbrev pub MaybeArgument : Type 0
MaybeArgument = value.Held-RVal-Agg-2

-- ---- groupings
pattern abbrev pub Plain : Grouping
Plain = grouping.Plain

pattern abbrev pub One : Grouping
One = grouping.One

pattern abbrev pub Keys : List (ℕ × ℕ) → Grouping
Keys columns = grouping.Keys columns

-- ---- rows of nodes, and what may be left out
pattern abbrev pub NoValues : Values none_left
NoValues = block.end_of-RVal

pattern abbrev pub ValueThen : {n : Length} → RVal → Values n → Values (one_more n)
ValueThen e rest = block.more_of-RVal e rest

pattern abbrev pub NoConditions : Conditions none_left
NoConditions = block.end_of-RCond

pattern abbrev pub ConditionThen : {n : Length} → RCond → Conditions n → Conditions (one_more n)
ConditionThen e rest = block.more_of-RCond e rest

pattern abbrev pub NoEntries : Entries none_left
NoEntries = block.end_of-REntry

pattern abbrev pub EntryThen : {n : Length} → RSource → ℕ → Entries n → Entries (one_more n)
EntryThen source width rest = block.more_of-REntry source width rest

pattern abbrev pub NoCondition : MaybeCondition
NoCondition = block.RBlock-having-None'

pattern abbrev pub ACondition : RCond → MaybeCondition
ACondition e = block.RBlock-having-Some' e

pattern abbrev pub NoArgument : MaybeArgument
NoArgument = value.RVal-Agg-2-None'

pattern abbrev pub AnArgument : RVal → MaybeArgument
AnArgument argument = value.RVal-Agg-2-Some' tt (value.more_of-RVal argument value.end_of-RVal)

-- ---- values
pattern abbrev pub Col : ℕ → ℕ → ℕ → RVal
Col up entry col = v.Col up entry col

pattern abbrev pub Key : ℕ → RVal
Key place = v.Key place

pattern abbrev pub Lit : ℕ → RVal
Lit lit = v.Lit lit

pattern abbrev pub Fun : ℕ → (s : Shape) → Values (long s) → RVal
Fun sym s args = v.Fun' sym s args

pattern abbrev pub Agg : AggFun → Bool → MaybeArgument → RVal
Agg fun is_distinct argument = v.Agg' fun is_distinct argument

pattern abbrev pub Sub : RBlock → RVal
Sub b = v.Sub' tt (query.more_of-RBlock b query.end_of-RBlock)

-- ---- conditions
pattern abbrev pub Eq : RVal → RVal → RCond
Eq left right = c.Eq' tt (block.more_of-RVal left block.end_of-RVal) right

pattern abbrev pub Pred : ℕ → (s : Shape) → Values (long s) → RCond
Pred sym s args = c.Pred' sym s args

pattern abbrev pub And : (s : Shape) → Conditions (long s) → RCond
And s parts = c.And' s parts

pattern abbrev pub Or : (s : Shape) → Conditions (long s) → RCond
Or s parts = c.Or' s parts

pattern abbrev pub Not : RCond → RCond
Not part = c.Not' tt (block.more_of-RCond part block.end_of-RCond)

pattern abbrev pub Exists : RQuery → RCond
Exists q = c.Exists' tt (query.more_of-RQuery q query.end_of-RQuery)

pattern abbrev pub In : RVal → RQuery → RCond
In left q = c.In' left tt (query.more_of-RQuery q query.end_of-RQuery)

-- ---- queries
pattern abbrev pub Table : ℕ → RSource
Table number = s.Table number

pattern abbrev pub View : ℕ → RSource
View place = s.View place

-- a derived table
pattern abbrev pub Derived : RQuery → RSource
Derived q = s.Query' tt (query.more_of-RQuery q query.end_of-RQuery)

-- DISTINCT, the entries, the conjuncts of ON and WHERE, the grouping, HAVING and the items
pattern abbrev pub Select : Bool → (s : Shape) → Entries (long s) → (s' : Shape) → Conditions (long s')
    → Grouping → MaybeCondition → (s'' : Shape) → Values (long s'') → RBlock
Select is_distinct s entries s' conds grouping having s'' items = block.RBlock' is_distinct s entries s' conds grouping having s'' items

pattern abbrev pub OfBlock : RBlock → RQuery
OfBlock b = q.Block' tt (query.more_of-RBlock b query.end_of-RBlock)

pattern abbrev pub Set : SetOp → RQuery → RQuery → RQuery
Set op left right = q.Set' op tt (query.more_of-RQuery left query.end_of-RQuery) tt (query.more_of-RQuery right query.end_of-RQuery)
