-- What is spelled with few entries in each block is a tree whose blocks have few, and such a tree is spelled with few.
use Rattle.std.proofs.Common.{◌≡◌, ℕ, suc, ◌≤◌, List, length, None, sym, ap, subst, arith}
use Rattle.grammar.specs.Form.{language}
use Rattle.data_model.specs.Lists.{Each}
use Rattle.sql_lex.specs.Lexemes.{Lexeme}
use Rattle.sql_model.specs.declared.tree.Query.{Query}
use Rattle.sql_model.specs.declared.statement.Statement.{Statement}
use Rattle.sql_model.specs.declared.statement.Statement.TheVariants as statement
use Rattle.sql_model.specs.Everywhere.{Anything}
use Rattle.sql_grammar.specs.Kinds.{kind_of}
use Rattle.sql_grammar.specs.Numbering.{Built, Numbers}
use Rattle.sql_grammar.specs.QueryEntries.{few_rules}
use Rattle.sql_grammar.specs.QueryGrammar.{query}
use Rattle.sql_grammar.proofs.entries.EverywhereQueries.{everywhere}
use Rattle.sql_grammar.proofs.entries.FewSpelled.{query_again_few}
use Rattle.sql_grammar.proofs.entries.Fits.{Fits, fit_each, fit_mapped, fit_plain, now_holds}
use Rattle.schema_read.specs.FewEntries.{HasFewEntries, OfView, ViewHasFew}
use Rattle.schema_read.specs.StatementGrammar as g
use Rattle.schema_read.specs.StatementLimits.{few_entry_statements}
use Rattle.schema_read.specs.Statements.{Spells, SpellsIn}
use Rattle.schema_read.specs.StatementTrees as t
use Rattle.schema_read.proofs.counts.StatementCounts.{few_entries_spelled}
use Rattle.schema_read.proofs.spelled.StatementParts.{Names, el, in_each, list_again}

-- ---- in any language of queries, where a property is known of them

module _ {P : ℕ → Query → Type 0} (E : Names) (fit : (ts : List Lexeme) (read : Built Query) → (E None query).spells ts read → Fits P read) where
  abbrev Fit : ℕ → Statement → Type 0
  Fit count s = OfView (P count) s

  pub statements_fit : (ts : List Lexeme) (read : Built (List Statement)) → (el E g.statements).spells ts read → Fits (λ count. Each (Fit count)) read
  statements_fit ts read (bs, s, i) = subst (Fits (λ count. Each (Fit count))) (sym i) (fit_each bs (in_each E g.elements (λ ts. Unit {0}) (λ ts x y e n. (tt, tt)) (Fits Fit)
      (λ name ts v n s. fit_plain _ (λ count. tt)) (λ name ts q s. fit_mapped (λ z. statement.View (t.named name) z) (λ count z f. f) (fit ts q s)) (λ unique name on columns. fit_plain _ (λ count. tt)) bs ts tt s))

-- ---- with few entries

module _ (m : ℕ) where
  abbrev OfQuery : Query → Type 0
  OfQuery q = HasFewEntries (suc m) q

  abbrev FewInView : Statement → Type 0
  FewInView s = ViewHasFew (suc m) s

  -- no block of the query has more entries, whatever stands before it
  pub query_few : (ts : List Lexeme) (read : Built Query) → (language kind_of (few_rules m) None query).spells ts read → Fits (λ count. OfQuery) read
  query_few = everywhere (λ count. Anything) (λ entries. entries ≤ suc m) m (λ count number below. tt) (λ entries few. few)

  pub statements_few : (ts : List Lexeme) (read : Built (List Statement)) → (few_entry_statements m).spells ts read → Fits (λ count. Each FewInView) read
  statements_few = statements_fit (language kind_of (few_rules m)) query_few

  pub views_few : (before after : Numbers) (ts : List Lexeme) (list : List Statement) → SpellsIn (few_entry_statements m) before ts list after → Each FewInView list
  views_few before after ts list (read, s, e) = subst (Each FewInView) (ap (λ z. z.0) e) (now_holds (Each FewInView) (statements_few ts read s) before)

  pub built_few : (before after : Numbers) (ts : List Lexeme) (q : Query) (read : Built Query) → (language kind_of (few_rules m) None query).spells ts read → read.build before ≡ (q, after) → OfQuery q
  built_few before after ts q read s e = subst OfQuery (ap (λ z. z.0) e) (now_holds OfQuery (query_few ts read s) before)

  -- ---- and back

  pub views_again : (before after : Numbers) (ts : List Lexeme) (list : List Statement) → Spells before ts list after → Each FewInView list → SpellsIn (few_entry_statements m) before ts list after
  views_again before after ts list s f =
      list_again (language kind_of (few_rules (length ts))) (language kind_of (few_rules m)) g.elements g.elements FewInView (λ name z v s f. s)
      (λ name z q s o. query_again_few m (length ts) z q o.numbers s o.holds) before after ts list (few_entries_spelled (length ts) before after ts list (omega arith) s) f
