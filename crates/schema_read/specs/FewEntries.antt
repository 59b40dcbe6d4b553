-- Whether no block of a tree has more than so many entries in FROM, the blocks of its subqueries too.
use Rattle.std.specs.Prelude.{ℕ, ◌≤◌}
use Rattle.sql_model.specs.Everywhere.{Anything, Everywhere}
use Rattle.sql_model.specs.Syntax.{Query}
use Rattle.sql_model.specs.declared.statement.Statement.{Statement}
use Rattle.sql_model.specs.declared.statement.Statement.TheVariants as statement

-- each block of the query has no more
abbrev pub HasFewEntries : ℕ → Query → Type 0
HasFewEntries most query = Everywhere Anything (λ count. count ≤ most) query

-- P holds of the query, where the statement declares a view
abbrev pub OfView : (Query → Type 0) → Statement → Type 0
OfView P (statement.Table name columns rules) = Unit {0}
OfView P (statement.View name query) = P query
OfView P (statement.Index name unique on columns) = Unit {0}

abbrev pub ViewHasFew : ℕ → Statement → Type 0
ViewHasFew most s = OfView (HasFewEntries most) s
