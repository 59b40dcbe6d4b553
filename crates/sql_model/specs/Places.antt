-- Where the nodes of a query stand in its text.
use Rattle.std.specs.Prelude.{ℕ, Some, None}
use Rattle.sql_model.specs.Syntax.{Expr, Col, Lit, Fun, Pred, Call, Agg, Sub, Eq, And, Or, Not, Exists, In}

-- Of an expression: the place of its first token; of a column that is its qualifier, where one is written.
abbrev pub place_of : Expr → ℕ
place_of (Col None qual_at name at) = at
place_of (Col (Some qual) qual_at name at) = qual_at
place_of (Lit lit at) = at
place_of (Fun sym shape args at) = at
place_of (Pred sym shape args at) = at
place_of (Call sym shape args at) = at
place_of (Agg fun is_distinct argument at) = at
place_of (Sub query at) = at
place_of (Eq left right at) = at
place_of (And shape parts at) = at
place_of (Or shape parts at) = at
place_of (Not part at) = at
place_of (Exists query at) = at
place_of (In left query at in_at) = at
