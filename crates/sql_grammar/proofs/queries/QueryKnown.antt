-- The grammar is included in the left-factored grammar, and no list of tokens spells two queries.
use Rattle.std.proofs.Common.{◌≡◌, List, ◌∙◌, sym, ap, None}
use Rattle.grammar.specs.Language.{Includes}
use Rattle.grammar.specs.Form.{Room, language}
use Rattle.grammar.proofs.languages.Known.{Known}
use Rattle.sql_lex.specs.Lexemes.{Lexeme}
use Rattle.sql_model.specs.declared.tree.Query.{Query}
use Rattle.sql_grammar.specs.Kinds.{kind_of}
use Rattle.sql_grammar.specs.Numbering.{Numbers}
use Rattle.sql_grammar.specs.Queries.{rules, Spells}
use Rattle.sql_grammar.specs.QueryGrammar.{Production, query}
use Rattle.sql_grammar.specs.QueryLookahead.{table}
use Rattle.sql_grammar.specs.FactoredQueries.{factored}
use Rattle.sql_grammar.proofs.queries.QueryBelow.{known_of, factored_above}
use Rattle.sql_grammar.proofs.queries.Variants.{unchanged}

-- what the grammar spells and begins, the left-factored grammar does
pub factored_includes : (room : Room) (p : Production) → Includes (language kind_of factored room p) (language kind_of rules room p)
factored_includes = factored_above unchanged

pub production_known : (room : Room) (p : Production) → Known kind_of (language kind_of rules room p) (table p)
production_known = known_of unchanged

-- no list of tokens spells two queries
pub one_query : (before after other : Numbers) (ts : List Lexeme) (p q : Query) → Spells before ts p after → Spells before ts q other → (p ≡ q) × (after ≡ other)
one_query before after other ts p q s r =
    let same_reading = (production_known None query).unique ts s.0 r.0 s.1 r.1 in
    let e = sym s.2 ∙ (ap (λ read. read.build before) same_reading ∙ r.2) in
    (ap (λ u. u.0) e, ap (λ u. u.1) e)
