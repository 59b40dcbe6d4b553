-- The limits on counts, over the left-factored grammar of queries: a part of a case keeps or passes them where the case does.
use Rattle.std.proofs.Common.{◌≡◌, List, ◌++◌, None, refl, subst}
use Rattle.grammar.specs.Language.{HasPrefixes, Includes, Language, map_language, seq_language}
use Rattle.grammar.specs.Form.{seq}
use Rattle.grammar.specs.Reading.{Began, Took}
use Rattle.grammar.proofs.readers.Begun.{nothing_began}
use Rattle.grammar.proofs.languages.Forms.{map_in, seq_in}
use Rattle.grammar.proofs.languages.Prefixes.{map_prefixes, seq_prefixes}
use Rattle.grammar.proofs.readers.Residuals as r
use Rattle.grammar.proofs.readers.Steps.{IsWithin, Same, map_within, took_in}
use Rattle.sql_lex.specs.Lexemes.{Lexeme}
use Rattle.sql_model.specs.declared.statement.Statement.{Statement}
use Rattle.sql_model.specs.declared.tree.Query.{Query}
use Rattle.sql_cursor.specs.declared.fault.LimitKind.{LimitKind}
use Rattle.sql_cursor.specs.declared.fault.LimitKind.TheVariants as limit
use Rattle.sql_cursor.specs.declared.fault.ReadFault.{ReadFault}
use Rattle.sql_cursor.specs.Cursor.{Cursor}
use Rattle.sql_read.specs.Reads.{Gives, GivesWithin, Refuses, TakesWithin, few_form, relations_too}
use Rattle.sql_grammar.specs.Kinds.{kind_of}
use Rattle.sql_grammar.specs.Numbering.{Built, each}
use Rattle.sql_grammar.specs.Queries.{most_levels, of_form}
use Rattle.sql_grammar.proofs.queries.QueryTable.{left_factored}
use Rattle.sql_read.proofs.steps.ReadSteps.{same_taken}
use Rattle.schema_read.specs.Counting.{RefusesCounted, TakesCounted, few_factored_statements, narrowly}
use Rattle.schema_read.specs.StatementGrammar.{elements, ended_with, statements, statements_with}
use Rattle.schema_read.specs.StatementLimits as of_statements
use Rattle.schema_read.specs.StatementLimits.{most_further_columns, most_relations}
use Rattle.schema_read.proofs.counts.CountSteps.{Holds, Rest, RestOf, below_within, free, held, holds, part_refused, rest_first, rest_second, same_read, statement_refused, took_free}
use Rattle.schema_read.proofs.agree.StatementsAgree.{few_within}
use Rattle.schema_read.proofs.spelled.StatementPrefixes.{few_statement_prefixes, narrow_below}
use Rattle.sql_grammar.proofs.queries.QueryForms.{form_has_prefixes, known_includes, left_factored_includes}
use Rattle.schema_read.proofs.agree.Telling.{refused_more, with_columns}
use Rattle.schema_read.proofs.spelled.Unlimited.{itself}
use Rattle.schema_read.proofs.agree.WholeStatements.{few_back, few_included, few_there}
use Rattle.case_core.specs.declared.text.CaseText.{CaseText}
use Rattle.case_core.specs.CaseGrammar as g
use Rattle.case_core.specs.Cases.{cases, cases_behind, within}
use Rattle.case_core.proofs.CasePrefixes.{few_prefixes}

-- ---- the languages of the left-factored grammar

abbrev pub OfStatements : Type 1
OfStatements = Language Lexeme (Built (List Statement))

abbrev pub left_factored_behind : OfStatements → Language Lexeme (Built CaseText)
left_factored_behind L = map_language g.case_of (seq_language L (free g.two_queries))

abbrev pub narrow_statements : OfStatements
narrow_statements = free (statements_with narrowly)

abbrev pub left_factored_within : LimitKind → Language Lexeme (Built CaseText)
left_factored_within limit.Columns = left_factored_behind narrow_statements
left_factored_within limit.Entries = few_form g.case
left_factored_within limit.Relations = left_factored_behind few_factored_statements
left_factored_within limit.Copies = free g.case

-- what is behind less is less
behind_in : {L M : OfStatements} {P Q : Language Lexeme (Built Query × Built Query)} → Includes M L → Includes Q P → Includes (map_language g.case_of (seq_language M Q)) (map_language g.case_of (seq_language L P))
behind_in {L = L} {M = M} {P = P} {Q = Q} m q = map_in (seq_language L P) (seq_language M Q) (seq_in L M P Q m q) g.case_of

behind_same : {L M : OfStatements} → Includes M L → Includes L M → Same (left_factored_behind L) (cases_behind M)
behind_same m l = record { there = behind_in m (known_includes None g.two_queries); back = behind_in l (left_factored_includes None g.two_queries) }

pub within_same : (what : LimitKind) → Same (left_factored_within what) (within what)
within_same limit.Columns = behind_same (known_includes None (statements_with narrowly)) (left_factored_includes None (statements_with narrowly))
within_same limit.Entries = record { there = few_there g.case; back = few_back g.case }
within_same limit.Relations = behind_same (few_included (known_includes None (ended_with elements))) (few_included (left_factored_includes None (ended_with elements)))
within_same limit.Copies = record { there = known_includes None g.case; back = left_factored_includes None g.case }

behind_prefixes : (L : OfStatements) → HasPrefixes L → HasPrefixes (cases_behind L)
behind_prefixes L l = map_prefixes g.case_of (seq_language L (of_form None g.two_queries)) (seq_prefixes L (of_form None g.two_queries) l (form_has_prefixes None g.two_queries))

pub within_prefixes : (what : LimitKind) → HasPrefixes (within what)
within_prefixes limit.Columns = behind_prefixes (of_statements.within limit.Columns) (form_has_prefixes None (statements_with (of_statements.few_columns most_further_columns)))
within_prefixes limit.Entries = few_prefixes g.case
within_prefixes limit.Relations = behind_prefixes (of_statements.within limit.Relations) (few_statement_prefixes most_relations)
within_prefixes limit.Copies = form_has_prefixes None g.case

-- ---- the limits on statements

narrow_within : IsWithin (free statements) narrow_statements
narrow_within = below_within (narrow_below most_further_columns)

relations_within : IsWithin (free statements) few_factored_statements
relations_within = map_within kind_of (λ read. each read) _ _ (few_within most_relations)

queries_within : IsWithin (free g.two_queries) (free g.two_queries)
queries_within = below_within (itself g.two_queries)

-- S is what may be read of statements within a limit
module _ {S : OfStatements} (w : IsWithin (free statements) S) {start : List Lexeme} where
  at_statements : RestOf (seq statements g.two_queries) (seq_language S (free g.two_queries)) start g.case (left_factored_behind S) start (λ v. g.case_of v)
  at_statements = record { residual = r.left_map left_factored _ _ start g.case_of (seq statements g.two_queries) (seq_language S (free g.two_queries)) start (λ v. v) (r.residual_whole (free g.case) (left_factored_behind S) start) }

  statements_hold : Holds statements S start g.case (left_factored_behind S) start
  statements_hold = record {
    exceeded = r.left_first_exceeded left_factored _ _ start statements g.two_queries S (free g.two_queries) w queries_within refl start g.case_of at_statements.residual;
    began = r.left_first_began left_factored _ _ start statements g.two_queries S (free g.two_queries) w queries_within refl start g.case_of at_statements.residual;
  }

  module _ {v : Built (List Statement)} {mid : List Lexeme} (t : Took (free statements) S start v mid) where
    queries_left : Rest g.two_queries g.two_queries mid g.case (left_factored_behind S) start (λ p. g.case_of (v, p))
    queries_left = record { residual = r.left_second left_factored _ _ start statements g.two_queries S (free g.two_queries) w queries_within refl start g.case_of at_statements.residual v mid t }

    first_holds : Holds g.ended_query (free g.ended_query) mid g.case (left_factored_behind S) start
    first_holds = rest_first (itself g.ended_query) (itself g.ended_query) queries_left refl

    module _ {left : Built Query} {rest : List Lexeme} (u : Took (free g.ended_query) (free g.ended_query) mid left rest) where
      second_left : Rest g.ended_query g.ended_query rest g.case (left_factored_behind S) start (λ right. g.case_of (v, (left, right)))
      second_left = rest_second (itself g.ended_query) (itself g.ended_query) queries_left refl u

    -- nothing of what follows was read
    behind_statements : Began (left_factored_behind S) start mid
    behind_statements = queries_left.residual.began mid (nothing_began (free g.two_queries) queries_within.prefixes mid)

    behind_first : {left : Built Query} {rest : List Lexeme} → Took (free g.ended_query) (free g.ended_query) mid left rest → Began (left_factored_behind S) start rest
    behind_first {rest = rest} u = (second_left u).residual.began rest (nothing_began (free g.ended_query) (below_within (itself g.ended_query)).prefixes rest)

-- ---- what was read of statements

-- what the function for statements gives
pub record StatementsRead (before : Cursor) (list : List Statement) (after : Cursor) : Type 0 where
  pub reads : GivesWithin relations_too statements (few_form statements) most_levels (λ read. read) before before list after
  pub columns : TakesCounted statements narrow_statements before after
  pub relations : TakesCounted statements few_factored_statements before after

pub statements_read : {a b : Cursor} {list : List Statement} → GivesWithin relations_too statements (few_form statements) most_levels (λ read. read) a a list b → TakesCounted statements narrow_statements a b
    → TakesCounted statements few_factored_statements a b → StatementsRead a list b
statements_read r c n = record { reads = r; columns = c; relations = n }

-- where the fault tells where it comes, what was passed keeps the limits on columns and relations; and where one of these is refused, the
-- next token passes it
pub record CountsRefused (before : Cursor) (fault : ReadFault) (after : Cursor) : Type 0 where
  pub columns : RefusesCounted limit.Columns g.case (left_factored_within limit.Columns) before fault after
  pub relations : RefusesCounted limit.Relations g.case (left_factored_within limit.Relations) before fault after

pub statements_counted : {a b : Cursor} {fault : ReadFault} → RefusesCounted limit.Columns statements narrow_statements a fault b → RefusesCounted limit.Relations statements few_factored_statements a fault b → CountsRefused a fault b
statements_counted c n = record { columns = held (statements_hold narrow_within) c; relations = held (statements_hold relations_within) n }

-- what was passed keeps the limits
abbrev pub KeepsAll : List Lexeme → List Lexeme → Type 0
KeepsAll ts rest = (what : LimitKind) → Began (left_factored_within what) ts rest

abbrev pub ReadsQuery : Cursor → Query → Cursor → Type 0
ReadsQuery before query after = Gives g.ended_query most_levels (λ read. read) before before query after

module _ {a b : Cursor} {list : List Statement} (s : StatementsRead a list b) where
  any : Took (free statements) (free statements) a.tokens s.reads.read b.tokens
  any = took_free s.reads.takes

  any_within : IsWithin (free statements) (free statements)
  any_within = below_within (itself statements)

  -- another reading of them reads the same
  narrow : Took (free statements) narrow_statements a.tokens s.reads.read b.tokens
  narrow = subst (λ z. Took (free statements) narrow_statements a.tokens z b.tokens) (same_read statements refl narrow_within any_within s.columns.took any) s.columns.took

  few : Took (free statements) few_factored_statements a.tokens s.reads.read b.tokens
  few = subst (λ z. Took (free statements) few_factored_statements a.tokens z b.tokens) (same_read statements refl relations_within any_within s.relations.took any) s.relations.took

  pub keeps_behind : Began (few_form g.case) a.tokens b.tokens → KeepsAll a.tokens b.tokens
  keeps_behind entries limit.Columns = behind_statements narrow_within narrow
  keeps_behind entries limit.Entries = entries
  keeps_behind entries limit.Relations = behind_statements relations_within few
  keeps_behind entries limit.Copies = behind_statements any_within any

  pub first_counted : {c : Cursor} {fault : ReadFault} → Refuses g.ended_query most_levels b fault c → CountsRefused a fault c
  first_counted r = record {
    columns = held (first_holds narrow_within narrow) (part_refused r);
    relations = held (first_holds relations_within few) (statement_refused (refused_more with_columns r));
  }

  module _ {c : Cursor} {left : Query} (p : ReadsQuery b left c) where
    one : Took (free g.ended_query) (free g.ended_query) b.tokens p.read c.tokens
    one = took_free p.takes

    pub keeps_behind_first : Began (few_form g.case) a.tokens c.tokens → KeepsAll a.tokens c.tokens
    keeps_behind_first entries limit.Columns = behind_first narrow_within narrow one
    keeps_behind_first entries limit.Entries = entries
    keeps_behind_first entries limit.Relations = behind_first relations_within few one
    keeps_behind_first entries limit.Copies = behind_first any_within any one

    pub second_counted : {d : Cursor} {fault : ReadFault} → Refuses g.ended_query most_levels c fault d → CountsRefused a fault d
    second_counted r = record {
      columns = held (holds (second_left narrow_within narrow one)) (part_refused r);
      relations = held (holds (second_left relations_within few one)) (statement_refused (refused_more with_columns r));
    }

    module _ {d : Cursor} {right : Query} (q : ReadsQuery c right d)
        (t : TakesWithin relations_too g.case (few_form g.case) most_levels a.tokens (g.case_of (s.reads.read, (p.read, q.read))) d.tokens) where
      abbrev TookIn : Language Lexeme (Built CaseText) → Type 0
      TookIn L = Took (free g.case) L a.tokens (g.case_of (s.reads.read, (p.read, q.read))) d.tokens

      left_factored_taken : (what : LimitKind) → TookIn (left_factored_within what)
      left_factored_taken limit.Columns = (second_left narrow_within narrow one).residual.took q.read d.tokens (took_free q.takes)
      left_factored_taken limit.Entries = t.few tt
      left_factored_taken limit.Relations = (second_left relations_within few one).residual.took q.read d.tokens (took_free q.takes)
      left_factored_taken limit.Copies = took_free t

      pub taken_within : (what : LimitKind) → Took cases (within what) a.tokens (g.case_of (s.reads.read, (p.read, q.read))) d.tokens
      taken_within what = took_in _ _ _ _ (within_same limit.Copies) (within_same what) a.tokens _ d.tokens (left_factored_taken what)

-- ---- of the published grammar

pub few_before : {ts rest : List Lexeme} → KeepsAll ts rest → (taken : List Lexeme) → ts ≡ taken ++ rest → (what : LimitKind) → (within what).prefix taken
few_before {ts} {rest} k taken e what =
    let u = k what in subst (λ z. (within what).prefix z) (same_taken ts rest u.taken taken u.whole e) ((within_same what).there.prefix u.taken u.begun)
