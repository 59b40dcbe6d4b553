-- The grammar of queries, what a list of tokens spells as a query, and where it passes the limits on depth and length.
use Rattle.std.specs.Prelude.{ℕ, ◌≡◌, List, Some, None}
use Rattle.grammar.specs.Form.{Room, Rules, form_language, language, ref}
use Rattle.grammar.specs.Language.{Language}
use Rattle.grammar.specs.Limits.{IsFirstBeyond}
use Rattle.sql_lex.specs.Lexemes.{Lexeme}
use Rattle.sql_model.specs.declared.tree.Query.{Query}
use Rattle.sql_grammar.specs.Kinds.{Kind, kind_of}
use Rattle.sql_grammar.specs.Numbering.{Numbers, Built}
use Rattle.sql_grammar.specs.QueryGrammar.{Production, Read, The, from, listed, rules_with}
use Rattle.sql_grammar.specs.QueryGrammar as g
use Rattle.sql_grammar.specs.QueryTails.{tail_rules}

-- the grammar of queries: FROM is a list of items
abbrev pub rules : Rules Lexeme Kind Production Read
rules = rules_with tail_rules (listed (ref from))

-- levels that may be open at once
abbrev pub most_levels : ℕ
most_levels = 64

abbrev pub of_production : Room → (p : Production) → Language Lexeme (Read p)
of_production room p = language kind_of rules room p

-- of a form over the names of queries
abbrev pub of_form : {A : Type 0} → Room → The A → Language Lexeme A
of_form room f = form_language kind_of of_production room f

abbrev pub queries : Language Lexeme (Built Query)
queries = of_production None g.query

abbrev pub shallow_queries : Language Lexeme (Built Query)
shallow_queries = of_production (Some most_levels) g.query

-- The tokens spell the query, where literals and called names had these numbers before them, and then those.
abbrev pub Spells : Numbers → List Lexeme → Query → Numbers → Type 0
Spells before ts q after = (read : Built Query) × queries.spells ts read × (read.build before ≡ (q, after))

-- a text may go on after these tokens
abbrev pub Begins : List Lexeme → Type 0
Begins ts = queries.prefix ts

-- the token is the first that opens too many levels or makes a chain too long
abbrev pub IsTooDeep : List Lexeme → Lexeme → Type 0
IsTooDeep = IsFirstBeyond queries shallow_queries
