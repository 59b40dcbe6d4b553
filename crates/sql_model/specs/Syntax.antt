-- The trees of src/tree.rt, by the names that the definitions match on.
--     Exprs n, Items n, Entries n                    n expressions, items or entries in a row: NoExprs, or ExprThen e es
--     MaybeCondition, MaybeArgument, MaybeGroupBy    what may be left out: NoCondition, or ACondition e
-- A node with a list has before it the list's shape, which says how long the list is and no more: `And s parts at`.
-- A box is not seen: `Eq left right at`.
use Rattle.std.specs.Prelude.{ℕ, Bool, Option}
use mathlib.Core.Former.{Count as Length, none_left, one_more, this, arity}
use Rattle.plain_data.specs.formers.list.List.{the_former}
use Rattle.sql_model.specs.declared.name.Name.{Name as TheName}
use Rattle.sql_model.specs.declared.tree.AggFun.{AggFun as TheAggFun}
use Rattle.sql_model.specs.declared.tree.AggFun.TheVariants as fun
use Rattle.sql_model.specs.declared.tree.SetOp.{SetOp as TheSetOp}
use Rattle.sql_model.specs.declared.tree.SetOp.TheVariants as op
use Rattle.sql_model.specs.declared.tree.Expr.{Expr as TheExpr, Row_of-Expr, end_of-Expr, more_of-Expr, Held-Expr-Agg-2, Expr-Agg-2-None', Expr-Agg-2-Some'}
use Rattle.sql_model.specs.declared.tree.Expr.TheVariants as expr
use Rattle.sql_model.specs.declared.tree.Item.{Item as TheItem}
use Rattle.sql_model.specs.declared.tree.Item.TheVariants as item
use Rattle.sql_model.specs.declared.tree.Source.{Source as TheSource}
use Rattle.sql_model.specs.declared.tree.Source.TheVariants as source
use Rattle.sql_model.specs.declared.tree.Query.{Query as TheQuery, end_of-Query, more_of-Query, end_of-Block, more_of-Block}
use Rattle.sql_model.specs.declared.tree.Query.TheVariants as query
use Rattle.sql_model.specs.declared.tree.Block as block

-- ---- the types
abbrev pub Name : Type 0
Name = TheName

abbrev pub AggFun : Type 0
AggFun = TheAggFun

abbrev pub SetOp : Type 0
SetOp = TheSetOp

abbrev pub Expr : Type 0
Expr = TheExpr

abbrev pub Item : Type 0
Item = TheItem

abbrev pub Source : Type 0
Source = TheSource

abbrev pub Block : Type 0
Block = block.Block

abbrev pub Query : Type 0
Query = TheQuery

abbrev pub Exprs : Length → Type 0
Exprs = Row_of-Expr

abbrev pub Items : Length → Type 0
Items = block.Row_of-Item

abbrev pub Entries : Length → Type 0
Entries = block.Row_of-Entry

-- the condition of an ON, a WHERE or a HAVING, where it is written
abbrev pub MaybeCondition : Type 0
MaybeCondition = block.Held-Block-cond

-- the columns of a GROUP BY, where it is written
abbrev pub MaybeGroupBy : Type 0
MaybeGroupBy = block.Held-Block-groups

-- what stands in an aggregate, where it is not `*`
abbrev pub MaybeArgument : Type 0
MaybeArgument = Held-Expr-Agg-2

-- how long a list is
abbrev pub Shape : Type 0
Shape = (the_former (this {0})).Shape

abbrev pub long : Shape → Length
long s = arity (the_former (this {0})) s

-- ---- aggregates and set operators
pattern abbrev pub Count : AggFun
Count = fun.Count

pattern abbrev pub Sum : AggFun
Sum = fun.Sum

pattern abbrev pub Avg : AggFun
Avg = fun.Avg

pattern abbrev pub Min : AggFun
Min = fun.Min

pattern abbrev pub Max : AggFun
Max = fun.Max

pattern abbrev pub UnionAll : SetOp
UnionAll = op.UnionAll

pattern abbrev pub Union : SetOp
Union = op.Union

pattern abbrev pub Except : SetOp
Except = op.Except

pattern abbrev pub Intersect : SetOp
Intersect = op.Intersect

-- ---- rows of nodes, and what may be left out
pattern abbrev pub NoExprs : Exprs none_left
NoExprs = end_of-Expr

pattern abbrev pub ExprThen : {n : Length} → Expr → Exprs n → Exprs (one_more n)
ExprThen e rest = more_of-Expr e rest

pattern abbrev pub NoItems : Items none_left
NoItems = block.end_of-Item

pattern abbrev pub ItemThen : {n : Length} → Item → Items n → Items (one_more n)
ItemThen i rest = block.more_of-Item i rest

pattern abbrev pub NoCondition : MaybeCondition
NoCondition = block.Block-cond-None'

pattern abbrev pub ACondition : Expr → MaybeCondition
ACondition condition = block.Block-cond-Some' condition

pattern abbrev pub NoEntries : Entries none_left
NoEntries = block.end_of-Entry

pattern abbrev pub EntryThen : {n : Length} → Source → Name → ℕ → Bool → MaybeCondition → Entries n → Entries (one_more n)
EntryThen s alias at joined on rest = block.more_of-Entry s alias at joined on rest

pattern abbrev pub NoGroupBy : MaybeGroupBy
NoGroupBy = block.Block-groups-None'

pattern abbrev pub GroupBy : (s : Shape) → Exprs (long s) → MaybeGroupBy
GroupBy s columns = block.Block-groups-Some' s columns

pattern abbrev pub NoArgument : MaybeArgument
NoArgument = Expr-Agg-2-None'

pattern abbrev pub AnArgument : Expr → MaybeArgument
AnArgument argument = Expr-Agg-2-Some' tt (more_of-Expr argument end_of-Expr)

-- ---- expressions
pattern abbrev pub Col : Option Name → ℕ → Name → ℕ → Expr
Col qual qual_at name at = expr.Col qual qual_at name at

pattern abbrev pub Lit : ℕ → ℕ → Expr
Lit lit at = expr.Lit lit at

pattern abbrev pub Fun : ℕ → (s : Shape) → Exprs (long s) → ℕ → Expr
Fun sym s args at = expr.Fun' sym s args at

pattern abbrev pub Pred : ℕ → (s : Shape) → Exprs (long s) → ℕ → Expr
Pred sym s args at = expr.Pred' sym s args at

pattern abbrev pub Call : ℕ → (s : Shape) → Exprs (long s) → ℕ → Expr
Call sym s args at = expr.Call' sym s args at

pattern abbrev pub Agg : AggFun → Bool → MaybeArgument → ℕ → Expr
Agg f is_distinct argument at = expr.Agg' f is_distinct argument at

pattern abbrev pub Sub : Query → ℕ → Expr
Sub q at = expr.Sub' tt (more_of-Query q end_of-Query) at

pattern abbrev pub Eq : Expr → Expr → ℕ → Expr
Eq left right at = expr.Eq' tt (more_of-Expr left end_of-Expr) tt (more_of-Expr right end_of-Expr) at

pattern abbrev pub And : (s : Shape) → Exprs (long s) → ℕ → Expr
And s parts at = expr.And' s parts at

pattern abbrev pub Or : (s : Shape) → Exprs (long s) → ℕ → Expr
Or s parts at = expr.Or' s parts at

pattern abbrev pub Not : Expr → ℕ → Expr
Not part at = expr.Not' tt (more_of-Expr part end_of-Expr) at

pattern abbrev pub Exists : Query → ℕ → Expr
Exists q at = expr.Exists' tt (more_of-Query q end_of-Query) at

pattern abbrev pub In : Expr → Query → ℕ → ℕ → Expr
In left q at in_at = expr.In' tt (more_of-Expr left end_of-Expr) tt (more_of-Query q end_of-Query) at in_at

-- ---- queries
pattern abbrev pub Star : ℕ → Item
Star at = item.Star at

pattern abbrev pub AliasStar : Name → ℕ → Item
AliasStar alias at = item.AliasStar alias at

pattern abbrev pub Value : Expr → Option Name → Item
Value e name = item.Value e name

pattern abbrev pub Named : Name → ℕ → Source
Named name at = source.Named name at

-- a derived table: a subquery in FROM
pattern abbrev pub Derived : Query → Source
Derived q = source.Query' tt (more_of-Query q end_of-Query)

-- DISTINCT, the items, FROM, WHERE, GROUP BY and HAVING
pattern abbrev pub Select : Bool → (s : Shape) → Items (long s) → (s' : Shape) → Entries (long s')
    → MaybeCondition → MaybeGroupBy → MaybeCondition → Block
Select is_distinct s items s' from where_condition group_by having = block.Block' is_distinct s items s' from where_condition group_by having

pattern abbrev pub OfBlock : Block → Query
OfBlock b = query.Block' tt (more_of-Block b end_of-Block)

pattern abbrev pub Set : SetOp → Query → Query → ℕ → Query
Set o left right at = query.Set' o tt (more_of-Query left end_of-Query) tt (more_of-Query right end_of-Query) at
