-- The table of the left-factored grammar is right, which is computed line by line.
use Rattle.std.proofs.Common.{◌≡◌, true, refl}
use Rattle.grammar.specs.Lookahead.{PredictiveGrammar, is_right}
use Rattle.sql_lex.specs.Lexemes.{Lexeme}
use Rattle.sql_grammar.specs.Kinds.{Kind, kind_of, every_kind}
use Rattle.sql_grammar.specs.QueryGrammar.{Production, Read, query}
use Rattle.sql_grammar.specs.QueryLookahead.{table}
use Rattle.sql_grammar.specs.QueryTails.{set_tail}
use Rattle.sql_grammar.proofs.lists.EveryKind.{every_kind_is_there}
use Rattle.sql_grammar.specs.FactoredQueries.{factored}

abbrev pub right : (p : Production) → is_right every_kind table factored p ≡ true
right query = refl
right set_tail = refl
right other = refl

-- the left-factored grammar, with its table
abbrev pub left_factored : PredictiveGrammar Lexeme Kind Production Read
left_factored = record {
  kind = kind_of;
  kinds = every_kind;
  every = every_kind_is_there;
  rules = factored;
  table = table;
  right = right;
}
