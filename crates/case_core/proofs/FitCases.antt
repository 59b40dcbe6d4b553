-- The literals of a case that is spelled have numbers in it, and so those of its trees.
use Rattle.std.proofs.Common.{ℕ, ◌<◌, false, List, [], ◌∷◌, ◌++◌, length, map, None, sym, subst, unwrap_or, arith}
use Rattle.data_model.specs.Lists.{Each}
use Rattle.sql_lex.specs.Lexemes.{Lexeme}
use Rattle.sql_model.specs.declared.statement.NameAt.{NameAt}
use Rattle.sql_model.specs.declared.statement.Statement.{Statement}
use Rattle.sql_model.specs.declared.statement.Statement.TheVariants as statement
use Rattle.sql_model.specs.declared.schema.Schema.{Schema}
use Rattle.sql_model.specs.declared.schema.Table.{Table}
use Rattle.sql_model.specs.declared.symbols.Symbols.{Symbols}
use Rattle.sql_model.specs.declared.tree.Query.{Query}
use Rattle.sql_model.specs.SelectStar.{entry_of}
use Rattle.sql_model.specs.Compute.{everything}
use Rattle.sql_model.specs.Everywhere.{Anything, Everywhere, InItem}
use Rattle.sql_grammar.specs.Numbering.{Built, Numbers, first_numbers}
use Rattle.sql_grammar.specs.Queries.{of_form, of_production, queries}
use Rattle.sql_grammar.specs.QueryGrammar as grammar
use Rattle.sql_grammar.proofs.entries.EntryTexts.{few_spell}
use Rattle.sql_grammar.proofs.entries.EverywhereQueries.{everywhere}
use Rattle.sql_grammar.proofs.entries.EverywhereTrees.{block_has}
use Rattle.sql_grammar.proofs.entries.Fits.{Fits, fit_both, fit_mapped}
use Rattle.schema_read.specs.Builds.{Builds}
use Rattle.schema_read.specs.Declarations.{declared_relation, no_table, relation_entry, table_named}
use Rattle.schema_read.specs.Indexes.{column_item, index_query, shown_columns}
use Rattle.schema_read.specs.Order.{map_along}
use Rattle.schema_read.proofs.spelled.FewStatements.{statements_fit}
use Rattle.scope_core.specs.Literals.{QueryFits, RelationFits, SchemaFits, TreeFits}
use Rattle.scope_core.specs.Syntax.{RQuery}
use Rattle.case_core.specs.declared.text.CaseText.{CaseText}
use Rattle.case_core.specs.CaseGrammar as g
use Rattle.case_core.specs.Cases.{SpellsCase, cases}
use Rattle.case_core.specs.Fitting.{TextFits, TreesFitSymbols, ViewFits}

-- ---- the text

-- with as many entries as its text has tokens, each query is spelled
query_fits : (ts : List Lexeme) (read : Built Query) → queries.spells ts read → Fits QueryFits read
query_fits ts read s =
    everywhere (λ count number. number < count) Anything (length ts) (λ count number below. below) (λ number few. tt) ts read (few_spell (length ts) grammar.query ts read (omega arith) s)

ended_query_fits : (ts : List Lexeme) (v : Built Query) → (of_form None g.ended_query).spells ts v → Fits QueryFits v
ended_query_fits ts v (p, (x, y, e, s, end), i) = subst (Fits QueryFits) (sym i) (query_fits x p.0 s)

case_fits : (ts : List Lexeme) (v : Built CaseText) → cases.spells ts v → Fits TextFits v
case_fits ts v (u, (x, y, e, s, (x1, y1, e1, l, r)), i) =
    subst (Fits TextFits) (sym i)
    (fit_mapped g.text_of (λ count p f. record { views = f.0; left = f.1.0; right = f.1.1 })
    (fit_both (statements_fit of_production query_fits x u.0 s) (fit_both (ended_query_fits x1 u.1.0 l) (ended_query_fits y1 u.1.1 r))))

pub text_fits : (text : List ℕ) (written : CaseText) (numbers : Numbers) → SpellsCase text written numbers → TextFits (length numbers.literals) written
text_fits text written numbers s =
    subst (λ p. TextFits (length p.1.literals) p.0) s.built
    ((case_fits s.tokens s.read s.spelled).holds first_numbers (length (s.read.build first_numbers).1.literals) (omega arith))

-- ---- the schema that its statements build

module _ (count : ℕ) where
  abbrev Below : ℕ → Type 0
  Below number = number < count

  columns_fit : (columns : List NameAt) → Each (InItem Below Anything) (map column_item columns)
  unfolding everything Everywhere
  columns_fit [] = tt
  columns_fit (column ∷ columns) = (tt, columns_fit columns)

  -- an index has none
  index_fits : (on : NameAt) (columns : List NameAt) (table : Table) → QueryFits count (index_query on columns table)
  unfolding everything Everywhere
  index_fits on columns table =
      block_has Below Anything false (map column_item (shown_columns columns on.at table)) (entry_of on.name on.name on.at on.at ∷ []) None None None
      (record { items_have = columns_fit (shown_columns columns on.at table); count = tt; entries_have = ((tt, tt, tt), tt); cond = tt; having = tt }) tt

  relation_fits : (all earlier : List Statement) (s : Statement) → ViewFits count s → RelationFits count (declared_relation all earlier s)
  relation_fits all earlier (statement.Table name columns rules) f = tt
  relation_fits all earlier (statement.View name query) f = f
  relation_fits all earlier (statement.Index name unique on columns) f = index_fits on columns (unwrap_or (table_named earlier on.name) no_table)

  relations_fit : (all earlier list : List Statement) → Each (ViewFits count) list → Each (λ r. RelationFits count r.1) (map_along (relation_entry all) earlier list)
  relations_fit all earlier [] f = tt
  relations_fit all earlier (s ∷ list) f = (relation_fits all earlier s f.0, relations_fit all (earlier ++ s ∷ []) list f.1)

  pub schema_fits : {list : List Statement} {schema : Schema} → Builds list schema → Each (ViewFits count) list → SchemaFits count schema
  schema_fits {list = list} b f = subst (Each (λ r. RelationFits count r.1)) (sym b.relations) (relations_fit list [] list f)

-- ---- the trees, where resolving keeps what fits

module _ {written : CaseText} {schema : Schema} {symbols : Symbols} (fit : TextFits (length symbols.lits.keys) written) (built : Builds written.statements schema) where
  pub trees_fit : {views : List RQuery} {left right : RQuery} → ((count : ℕ) → SchemaFits count schema → Each (TreeFits count) views)
      → ((count : ℕ) → QueryFits count written.left → TreeFits count left) → ((count : ℕ) → QueryFits count written.right → TreeFits count right) → TreesFitSymbols symbols views left right
  trees_fit v l r =
      let count = length symbols.lits.keys in
      record { views_fit = v count (schema_fits count built fit.views); left_fits = l count fit.left; right_fits = r count fit.right }
