-- The grammar of a case: statements, and then two queries, each with its semicolon.
use Rattle.std.specs.Prelude.{List, [], ◌∷◌}
use Rattle.grammar.specs.Form.{seq, map, ref}
use Rattle.grammar.specs.Productions.{then_skip}
use Rattle.sql_model.specs.declared.statement.Statement.{Statement}
use Rattle.sql_model.specs.declared.tree.Query.{Query}
use Rattle.sql_grammar.specs.declared.kinds.Kind.{Kind}
use Rattle.sql_grammar.specs.declared.kinds.Kind.TheVariants as k
use Rattle.sql_grammar.specs.Numbering.{Built, both, mapped}
use Rattle.sql_grammar.specs.QueryGrammar.{The, a, query}
use Rattle.schema_read.specs.StatementGrammar.{statements}
use Rattle.case_core.specs.declared.text.CaseText.{CaseText}

-- the tokens that a query may begin with
abbrev pub query_kinds : List Kind
query_kinds = k.Select ∷ k.Open ∷ []

-- query ;
abbrev pub ended_query : The (Built Query)
ended_query = then_skip (ref query) (a k.Semicolon)

-- {statement ;} query ;
abbrev pub one_query : The (Built (List Statement) × Built Query)
one_query = seq statements ended_query

abbrev pub text_of : List Statement × (Query × Query) → CaseText
text_of p = record { statements = p.0; left = p.1.0; right = p.1.1 }

abbrev pub case_of : Built (List Statement) × (Built Query × Built Query) → Built CaseText
case_of p = mapped text_of (both p.0 (both p.1.0 p.1.1))

-- query ; query ;
abbrev pub two_queries : The (Built Query × Built Query)
two_queries = seq ended_query ended_query

-- {statement ;} query ; query ;
abbrev pub case : The (Built CaseText)
case = map case_of (seq statements two_queries)
