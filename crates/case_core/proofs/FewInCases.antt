-- Each block of a case that is read has few entries.
use Rattle.std.proofs.Common.{ℕ, List, sym, ap, subst}
use Rattle.data_model.specs.Lists.{Each}
use Rattle.sql_lex.specs.Lexemes.{Lexeme}
use Rattle.sql_model.specs.declared.tree.Query.{Query}
use Rattle.sql_grammar.specs.Numbering.{Built, Numbers, first_numbers}
use Rattle.sql_grammar.specs.QueryEntries.{most_further, most_entries}
use Rattle.sql_grammar.proofs.entries.Fits.{Fits, fit_both, fit_mapped, now_holds}
use Rattle.sql_cursor.specs.declared.fault.LimitKind.TheVariants as limit
use Rattle.schema_read.specs.FewEntries.{HasFewEntries, ViewHasFew}
use Rattle.schema_read.proofs.spelled.FewStatements.{query_few, statements_few}
use Rattle.schema_read.proofs.agree.WholeStatements.{few_grammar}
use Rattle.case_core.specs.declared.text.CaseText.{CaseText}
use Rattle.case_core.specs.CaseGrammar as g
use Rattle.case_core.specs.Cases.{IsRead, few_entry_cases}

-- no block of its views and queries has more
pub record HasFew (written : CaseText) : Type 0 where
  pub views : Each (ViewHasFew most_entries) written.statements
  pub left : HasFewEntries most_entries written.left
  pub right : HasFewEntries most_entries written.right

ended_few : (ts : List Lexeme) (v : Built Query) → (few_grammar g.ended_query).spells ts v → Fits (λ count. HasFewEntries most_entries) v
ended_few ts v (p, (x, y, e, s, c), i) = subst (Fits (λ count. HasFewEntries most_entries)) (sym i) (query_few most_further x p.0 s)

few_case : (ts : List Lexeme) (v : Built CaseText) → few_entry_cases.spells ts v → Fits (λ count. HasFew) v
few_case ts v (u, (x, y, e, s, (x1, y1, e1, l, r)), i) =
    subst (Fits (λ count. HasFew)) (sym i)
    (fit_mapped g.text_of (λ count p f. record { views = f.0; left = f.1.0; right = f.1.1 })
    (fit_both (statements_few most_further x u.0 s) (fit_both (ended_few x1 u.1.0 l) (ended_few y1 u.1.1 r))))

pub read_few : (text : List ℕ) (written : CaseText) (numbers : Numbers) → IsRead text written numbers → HasFew written
read_few text written numbers r = subst HasFew (ap (λ z. z.0) r.spells.built) (now_holds HasFew (few_case r.spells.tokens r.spells.read (r.few limit.Entries)) first_numbers)
