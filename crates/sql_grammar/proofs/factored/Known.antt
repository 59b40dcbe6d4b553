-- The left-factored grammar is included in the grammar.
use Rattle.grammar.specs.Language.{Includes}
use Rattle.grammar.specs.Form.{Room, language}
use Rattle.sql_grammar.specs.Kinds.{kind_of}
use Rattle.sql_grammar.specs.QueryGrammar.{Production}
use Rattle.sql_grammar.specs.Queries.{rules}
use Rattle.sql_grammar.specs.FactoredQueries.{factored}
use Rattle.sql_grammar.proofs.factored.Below.{grammar_above}
use Rattle.sql_grammar.proofs.queries.Variants.{unchanged}

-- what the left-factored grammar spells and begins, the grammar does
pub grammar_includes : (room : Room) (p : Production) → Includes (language kind_of rules room p) (language kind_of factored room p)
grammar_includes = grammar_above unchanged
