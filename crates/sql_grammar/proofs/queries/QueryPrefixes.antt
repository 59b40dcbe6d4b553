-- The limits are passed at one token.
use Rattle.std.proofs.Common.{◌≡◌, List, ◌∷◌, ◌++◌, Some, None}
use Rattle.grammar.specs.Language.{HasPrefixes}
use Rattle.grammar.proofs.languages.Heights.{name_prefixes}
use Rattle.grammar.proofs.languages.Limits.{passed_once}
use Rattle.sql_lex.specs.Lexemes.{Lexeme}
use Rattle.sql_grammar.specs.Kinds.{kind_of}
use Rattle.sql_grammar.specs.Queries.{IsTooDeep, most_levels, queries, rules, shallow_queries}
use Rattle.sql_grammar.specs.QueryEntries.{IsEntryTooMany, few_queries, few_rules, most_further}
use Rattle.sql_grammar.specs.QueryGrammar.{query}

pub query_prefixes : HasPrefixes queries
query_prefixes = name_prefixes kind_of rules None query

pub too_deep_once : (x more y others : List Lexeme) (t u : Lexeme) → IsTooDeep x t → IsTooDeep y u → x ++ t ∷ more ≡ y ++ u ∷ others → (x ≡ y) × (t ≡ u)
too_deep_once = passed_once queries shallow_queries (name_prefixes kind_of rules (Some most_levels) query).shorter

pub too_many_once : (x more y others : List Lexeme) (t u : Lexeme) → IsEntryTooMany x t → IsEntryTooMany y u → x ++ t ∷ more ≡ y ++ u ∷ others → (x ≡ y) × (t ≡ u)
too_many_once = passed_once queries few_queries (name_prefixes kind_of (few_rules most_further) None query).shorter
