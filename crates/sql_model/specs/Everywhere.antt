-- What holds everywhere in a query: the one property of each literal, and the other of how many entries each block has in FROM. Its
-- subqueries are parts of it, in FROM, as values, and in IN and EXISTS.
use Rattle.std.specs.Prelude.{ℕ, zero, suc}
use Rattle.sql_model.specs.Syntax as n

-- it says nothing
abbrev pub Anything : ℕ → Type 0
Anything number = Unit {0}

abbrev pub entry_count : {m : _} → n.Entries m → ℕ
entry_count n.NoEntries = zero
entry_count (n.EntryThen source alias at joined on rest) = suc (entry_count rest)

module _ (literal entries : ℕ → Type 0) where
  unfoldable mutual
    pub Everywhere : n.Query → Type 0
    Everywhere (n.OfBlock block) = InBlock block
    Everywhere (n.Set op left right at) = Everywhere left × Everywhere right

    pub InBlock : n.Block → Type 0
    InBlock (n.Select is_distinct s items s' from where_condition group_by having) =
        InEntries from × InWritten where_condition × InGroupBy group_by × InItems items × InWritten having × entries (entry_count from)

    pub InEntries : {m : _} → n.Entries m → Type 0
    InEntries n.NoEntries = Unit {0}
    InEntries (n.EntryThen source alias at joined on rest) = InSource source × InWritten on × InEntries rest

    pub InSource : n.Source → Type 0
    InSource (n.Named name at) = Unit {0}
    InSource (n.Derived query) = Everywhere query

    pub InWritten : n.MaybeCondition → Type 0
    InWritten n.NoCondition = Unit {0}
    InWritten (n.ACondition expr) = InExpr expr

    pub InGroupBy : n.MaybeGroupBy → Type 0
    InGroupBy n.NoGroupBy = Unit {0}
    InGroupBy (n.GroupBy s columns) = InExprs columns

    pub InItems : {m : _} → n.Items m → Type 0
    InItems n.NoItems = Unit {0}
    InItems (n.ItemThen item rest) = InItem item × InItems rest

    pub InItem : n.Item → Type 0
    InItem (n.Star at) = Unit {0}
    InItem (n.AliasStar alias at) = Unit {0}
    InItem (n.Value expr name) = InExpr expr

    pub InExpr : n.Expr → Type 0
    InExpr (n.Col qual qual_at name at) = Unit {0}
    InExpr (n.Lit lit at) = literal lit
    InExpr (n.Fun sym s args at) = InExprs args
    InExpr (n.Pred sym s args at) = InExprs args
    InExpr (n.Call sym s args at) = InExprs args
    InExpr (n.Agg fun is_distinct argument at) = InArgument argument
    InExpr (n.Sub query at) = Everywhere query
    InExpr (n.Eq left right at) = InExpr left × InExpr right
    InExpr (n.And s parts at) = InExprs parts
    InExpr (n.Or s parts at) = InExprs parts
    InExpr (n.Not part at) = InExpr part
    InExpr (n.Exists query at) = Everywhere query
    InExpr (n.In left query at in_at) = InExpr left × Everywhere query

    pub InExprs : {m : _} → n.Exprs m → Type 0
    InExprs n.NoExprs = Unit {0}
    InExprs (n.ExprThen expr rest) = InExpr expr × InExprs rest

    pub InArgument : n.MaybeArgument → Type 0
    InArgument n.NoArgument = Unit {0}
    InArgument (n.AnArgument expr) = InExpr expr
