-- What one token of lookahead tells of statements.
use Rattle.std.specs.Prelude.{true, [], ◌∷◌}
use Rattle.grammar.specs.Lookahead.{Lookahead}
use Rattle.sql_grammar.specs.declared.kinds.Kind.TheVariants as k
use Rattle.sql_grammar.specs.declared.kinds.Kind.{Kind}
use Rattle.sql_grammar.specs.QueryLookahead.{some}

-- there may be none, and each begins with CREATE
abbrev pub of_statements : Lookahead Kind
of_statements = some true (k.Create ∷ []) (k.Create ∷ [])
