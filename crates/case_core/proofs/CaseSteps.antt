-- The steps of the reader of a case: statements, the first query and the second, and what it answers behind each.
use Rattle.std.proofs.Common.{◌≡◌, ◌≤◌, ℕ, true, List, [], ◌∷◌, ◌++◌, Some, None, inl, inr, refl, sym, ◌∙◌, ap, subst, arith}
use Rattle.std.proofs.lemmas.Bool.{false≢true}
use Rattle.std.proofs.lemmas.List.{append-nil}
use Rattle.grammar.specs.Reading.{Stops, Took}
use Rattle.grammar.proofs.readers.Begun.{nothing_began}
use Rattle.grammar.proofs.readers.Longest.{stops_at_longest}
use Rattle.sql_lex.specs.Lexemes.{Lexeme}
use Rattle.sql_model.specs.declared.statement.Statement.{Statement}
use Rattle.sql_model.specs.declared.tree.Query.{Query}
use Rattle.sql_cursor.specs.declared.fault.LimitKind.{LimitKind}
use Rattle.sql_cursor.specs.declared.fault.ReadFault.{ReadFault}
use Rattle.sql_cursor.specs.Cursor.{Cursor, next}
use Rattle.sql_cursor.specs.Eating.{Extends, IsNextAt, is_next}
use Rattle.sql_grammar.specs.Kinds.{among}
use Rattle.sql_grammar.specs.Numbering.{Built}
use Rattle.sql_grammar.specs.Queries.{most_levels, of_form}
use Rattle.sql_grammar.specs.QueryCopies.{most_copies, within_copies}
use Rattle.sql_grammar.specs.QueryGrammar.{The}
use Rattle.sql_read.specs.Reads.{Refuses, few_form, relations_too}
use Rattle.sql_cursor.specs.Refusals.{refusal}
use Rattle.sql_cursor.proofs.code.Extending.{◌⨟◌}
use Rattle.sql_read.proofs.whole.WholeTexts.{refusal_here}
use Rattle.schema_read.proofs.counts.CopiedParts.{counted_within}
use Rattle.sql_read.proofs.steps.ReadSteps.{LeftOf, blocks, built_both, built_map, entries_within, first_part, mapped as mapped_left, refuses, second, takes, whole, same_taken}
use Rattle.schema_read.specs.CopiedStatements.{CopiedToFault}
use Rattle.schema_read.specs.StatementGrammar.{statements}
use Rattle.sql_grammar.proofs.queries.QueryForms.{form_has_prefixes, roomier}
use Rattle.schema_read.proofs.agree.Telling.{refused_more, taken_more, with_both}
use Rattle.case_core.specs.declared.fault.CaseFault.{CaseFault}
use Rattle.case_core.specs.declared.fault.CaseFault.TheVariants.{Read, NotTwoQueries, NoMemory}
use Rattle.case_core.specs.declared.text.CaseText.{CaseText}
use Rattle.case_core.specs.CaseGrammar as g
use Rattle.case_core.specs.Cases.{cases, shallow_cases, within}
use Rattle.case_core.specs.ReadingCases.{IsEnded, IsMore, IsNoEnd, IsTrailing, RefusesCase, TakesCase}
use Rattle.case_core.specs.Refusals.{EndsBehind, GoesOnBehind, Says, KeepsLimits}
use Rattle.case_core.specs.Wrapping.{of_read}
use Rattle.case_core.proofs.CaseCopies.{CopiedAll, Counted, behind_first, behind_statements, first_copied, second_copied, whole_few, keeps_limits}
use Rattle.case_core.proofs.CaseCounts.{CountsRefused, KeepsAll, ReadsQuery, StatementsRead, first_counted, keeps_behind, keeps_behind_first, second_counted, taken_within, within_prefixes, few_before}
use Rattle.case_core.proofs.CasePrefixes.{prefixes, shallow_prefixes, shallow_included, third_there}
use Rattle.case_core.proofs.Outcomes.{Behind, RefusesAll, TakesAll, more_behind, not_two_excluded, refused, says_next, took}

behind : {V : Type 0} {part : The V} {before here : Cursor} {value : V} → TakesAll part before.tokens value here.tokens → Extends before here → IsMore here → Behind part before
behind {here = here} {value = value} t x more = record { value = value; here = here; takes = t; fault = x.fault; more = more }

-- no tokens behind what was taken
all_taken : (ts taken rest : List Lexeme) → ts ≡ taken ++ rest → rest ≡ [] → ts ≡ taken
all_taken ts taken rest e n = e ∙ (ap (λ z. taken ++ z) n ∙ append-nil taken)

stops_at_end : (taken rest : List Lexeme) → rest ≡ [] → Stops cases taken rest
stops_at_end taken rest e = subst (λ z. Stops cases taken z) (sym e) tt

-- a text ends behind this part, and no token of it passes a limit
text_ends : {V : Type 0} {part : The V} {a b : Cursor} {v : V} → TakesAll part a.tokens v b.tokens → ((ts : List Lexeme) → (of_form (Some most_levels) part).spells ts v → shallow_cases.prefix ts)
    → KeepsAll a.tokens b.tokens → Counted a b → Extends a b → IsEnded b → {end : ℕ} → end ≡ a.end → b.copies ≤ most_copies → EndsBehind (of_form None part) a.tokens a.fault a.end end × KeepsLimits a.copies a.tokens
text_ends {part = part} {a = a} {b = b} {v = v} t begins keeps counted x n e most =
    let u = took part t in (
      record {
        value = v;
        whole = subst (λ z. (of_form None part).spells z v) (sym (all_taken a.tokens u.taken b.tokens u.whole n.tokens)) ((roomier (Some most_levels) None tt part).spells u.taken v u.spelled);
        last = sym x.fault ∙ n.fault;
        place = e;
      },
      keeps_limits a.copies u.taken b.tokens u.whole (begins u.taken u.spelled) (few_before keeps u.taken u.whole) (counted_within counted most u.taken u.whole) (stops_at_end u.taken b.tokens n.tokens),
    )

-- ---- statements

pub statements_refused : {a b : Cursor} {fault : ReadFault} → RefusesAll statements a fault b → CountsRefused a fault b → CopiedAll a fault b → Extends a b → RefusesCase a (of_read fault) b
statements_refused r n c x = refused (refuses (first_part (mapped_left whole) refl) r) n c x (inr r) (inr (refuses (first_part whole refl) r))

module _ {a b : Cursor} {list : List Statement} (s : StatementsRead a list b) (x : Extends a b) where
  -- the queries are still to come
  queries_left : LeftOf relations_too g.two_queries most_levels b.tokens g.case (few_form g.case) most_levels a.tokens (λ queries. g.case_of (s.reads.read, queries))
  queries_left = second (mapped_left (whole {N = g.case} {e = most_levels} {start = a.tokens})) refl s.reads.takes

  pub no_query : IsEnded b → {end : ℕ} → end ≡ a.end → RefusesCase a (NotTwoQueries 0 end) b
  no_query n e = record {
    says = λ most.
        let entries = (queries_left.few tt).began b.tokens (nothing_began (few_form g.two_queries) (entries_within g.two_queries).prefixes b.tokens) in
        let u = text_ends s.reads.takes (λ ts w. inr (ts, [], s.reads.read, sym (append-nil ts), w, (form_has_prefixes (Some most_levels) g.two_queries).empty))
        (keeps_behind s entries) (behind_statements s) x n e most in
        record { counted = inl (refl, u.0); kept = u.1 };
  }

  pub first_refused : IsMore b → {c : Cursor} {fault : ReadFault} → Refuses g.ended_query most_levels b fault c → CopiedToFault g.ended_query (λ read. read) b b fault c → Extends b c → RefusesCase a (of_read fault) c
  first_refused more r m y =
      refused (refuses (first_part queries_left refl) (refused_more with_both r)) (first_counted s r) (first_copied s _ m) (x ⨟ y) (inl (behind s.reads.takes x more))
      (inr (refuses (blocks (second whole refl s.reads.takes)) (refused_more with_both r)))

-- ---- one query

module _ {a b c : Cursor} {list : List Statement} {left : Query} (s : StatementsRead a list b) (p : ReadsQuery b left c) where
  one_taken : TakesAll g.one_query a.tokens (s.reads.read, p.read) c.tokens
  one_taken = takes (second (whole {N = g.one_query} {e = most_levels} {start = a.tokens}) refl s.reads.takes) (taken_more with_both p.takes)

  -- the second query is still to come
  query_left : Extends a b → LeftOf relations_too g.ended_query most_levels c.tokens g.case (few_form g.case) most_levels a.tokens (λ right. g.case_of (s.reads.read, (p.read, right)))
  query_left x = second (queries_left s x) refl (taken_more with_both p.takes)

  module _ (x : Extends a b) (y : Extends b c) where
    pub no_second : IsEnded c → {end : ℕ} → end ≡ a.end → RefusesCase a (NotTwoQueries 1 end) c
    no_second n e = record {
      says = λ most.
          let entries = ((query_left x).few tt).began c.tokens (nothing_began (few_form g.ended_query) (entries_within g.ended_query).prefixes c.tokens) in
          let u = text_ends one_taken
          (λ ts w. inr (w.0, w.1, s.reads.read, w.2, w.3, inr (w.1, [], p.read, sym (append-nil w.1), w.4, (form_has_prefixes (Some most_levels) g.ended_query).empty)))
          (keeps_behind_first s p entries) (behind_first s p) (x ⨟ y) n e most in
          record { counted = inr (inl (refl, u.0)); kept = u.1 };
    }

    pub second_refused : IsMore b → IsMore c → {d : Cursor} {fault : ReadFault} → Refuses g.ended_query most_levels c fault d → CopiedToFault g.ended_query (λ read. read) c c fault d → Extends c d → RefusesCase a (of_read fault) d
    second_refused first_more more r m z =
        refused (refuses (blocks (query_left x)) (refused_more with_both r)) (second_counted s p r) (second_copied s p _ m) ((x ⨟ y) ⨟ z) (inl (behind s.reads.takes x first_more))
        (inl (behind one_taken (x ⨟ y) more))

-- ---- two queries

module _ {a b c d : Cursor} {list : List Statement} {left right : Query} (s : StatementsRead a list b) (p : ReadsQuery b left c) (q : ReadsQuery c right d) where
  abbrev value : Built CaseText
  value = g.case_of (s.reads.read, (p.read, q.read))

  case_taken : TakesAll g.case a.tokens value d.tokens
  case_taken =
      takes (second (second (mapped_left (whole {N = g.case} {e = most_levels} {start = a.tokens})) refl s.reads.takes) refl (taken_more with_both p.takes)) (taken_more with_both q.takes)

  the_case : Took cases shallow_cases a.tokens value d.tokens
  the_case = took g.case case_taken

  the_few : (what : LimitKind) → Took cases (within what) a.tokens value d.tokens
  the_few = taken_within s p q case_taken

  abbrev taken : List Lexeme
  taken = the_case.taken

  spelled : cases.spells taken value
  spelled = shallow_included.spells taken value the_case.spelled

  case_few : d.copies ≤ most_copies → (within_copies a.copies cases).prefix taken
  case_few most = whole_few a.copies taken value spelled (omega (arith, most, s.reads.builds.copies, p.builds.copies, q.builds.copies))

  few_spelled : (what : LimitKind) → (within what).spells taken value
  few_spelled what = let t = the_few what in subst (λ z. (within what).spells z value) (same_taken a.tokens d.tokens t.taken taken t.whole the_case.whole) t.spelled

  is_limited : d.copies ≤ most_copies → KeepsLimits a.copies a.tokens
  is_limited most = keeps_limits a.copies taken d.tokens the_case.whole (shallow_prefixes.spelled taken value the_case.spelled) (λ what. (within_prefixes what).spelled taken value (few_spelled what)) (case_few most) the_case.stops

  module _ (x : Extends a b) (y : Extends b c) (z : Extends c d) where
    pub all_read : IsEnded d → TakesCase a (record { statements = list; left = left; right = right }) d
    all_read n =
        let all = all_taken a.tokens taken d.tokens the_case.whole n.tokens in
        let builds = built_map g.text_of (built_both s.reads.builds (built_both p.builds q.builds)) in
        record {
          last = sym ((x ⨟ y) ⨟ z).fault ∙ n.fault;
          value = value;
          spelled = subst (λ u. cases.spells u value) (sym all) spelled;
          shallow = subst (λ u. shallow_cases.spells u value) (sym all) the_case.spelled;
          few = λ what. subst (λ u. (within what).spells u value) (sym all) (few_spelled what);
          built = builds.numbers;
          copied = builds.copies;
        }

    trailing : IsMore b → IsMore c → {fault : ReadFault} → IsTrailing d fault → fault ≡ refusal d → d.copies ≤ most_copies → Says a.copies a.tokens a.fault a.end (Read fault)
    trailing first_more second_more {fault = fault} t e most =
        let whole_way = (x ⨟ y) ⨟ z in
        subst (λ u. Says a.copies a.tokens a.fault a.end (Read u)) (sym (e ∙ refusal_here whole_way)) (says_next a.copies a.tokens a.fault a.end a.end (next d.tokens a.fault) (record {
          taken = taken;
          rest = d.tokens;
          parts = the_case.whole;
          leading = stops_at_longest cases prefixes a.tokens taken d.tokens the_case.whole (prefixes.spelled taken value spelled) the_case.stops;
          unspelled = more_behind (behind case_taken whole_way t.more);
          not_counted = not_two_excluded a (more_behind (behind s.reads.takes x first_more)) (more_behind (behind (one_taken s p) (x ⨟ y) second_more)) (λ at third. no_third third);
          kept = is_limited most;
          refusal = refl;
        }))
      where
        no_third : {at : ℕ} → GoesOnBehind a.tokens at → ⊥
        no_third third =
            let there = third_there value the_case.whole spelled third in
            false≢true (sym t.no_query ∙ (ap (λ ts. is_next (among g.query_kinds) ts) there ∙ third.begins))

    third_behind : (at : ℕ) (rest : List Lexeme) → d.tokens ≡ rest → is_next (among g.query_kinds) rest ≡ true → IsNextAt at rest → GoesOnBehind a.tokens at
    third_behind at [] e n i = absurd i
    third_behind at (t ∷ after) e n i = record {
      before = taken;
      third = t;
      after = after;
      parts = the_case.whole ∙ ap (λ u. taken ++ u) e;
      value = value;
      whole = spelled;
      begins = n;
      place = sym i;
    }

    says_no_end : IsMore b → IsMore c → (fault : CaseFault) → IsNoEnd d fault → d.copies ≤ most_copies → Says a.copies a.tokens a.fault a.end fault
    says_no_end first_more second_more (Read fault) n most = trailing first_more second_more n.0 (n.0.refusal n.1) most
    says_no_end first_more second_more (NotTwoQueries count at) n most = record {
      counted = inr (inr (n.0, third_behind at d.tokens refl n.1.begins n.1.place));
      kept = is_limited most;
    }
    says_no_end first_more second_more NoMemory n most = tt
    says_no_end first_more second_more other n most = n

    pub no_end : IsMore b → IsMore c → (fault : CaseFault) → IsNoEnd d fault → RefusesCase a fault d
    no_end first_more second_more fault n = record { says = says_no_end first_more second_more fault n }
