-- The readers of tables agree with the grammar, and with the limit on columns.
use Rattle.std.specs.Prelude.{◌==◌, if◌then◌else◌}
use Rattle.std.proofs.Common.{◌≡◌, ◌≢◌, ℕ, ◌+◌, ◌-◌, ◌≤◌, ◌<◌, Bool, true, false, List, [], ◌∷◌, ◌++◌, append_assoc, length, length-append, Ok, Err, refl, sym, subst, ◌∙◌, ap, arith}
use Rattle.std.proofs.lemmas.List.{append-nil}
use Rattle.std.proofs.lemmas.Bool.{eqb-false, eqb-true}
use Rattle.sql_lex.specs.Lexemes.{Lexeme}
use Rattle.sql_cursor.specs.declared.fault.LimitKind.TheVariants as limit
use Rattle.sql_cursor.specs.declared.fault.ReadFault.{ReadFault}
use Rattle.sql_cursor.specs.declared.fault.ReadFault.TheVariants.{Limit, TooDeep}
use Rattle.sql_cursor.specs.Cursor.{Cursor}
use Rattle.sql_cursor.specs.Eating.{Extends, Misses, PassesWithin, is_next}
use Rattle.sql_read.specs.Reading.{comma}
use Rattle.sql_cursor.specs.Readers.{Reading, expected}
use Rattle.sql_read.specs.Reads.{TakesWithin, columns_too, few_form}
use Rattle.sql_cursor.specs.Refusals.{refusal}
use Rattle.sql_grammar.specs.declared.kinds.Kind.TheVariants as k
use Rattle.sql_grammar.specs.Kinds.{among, name_kinds, same}
use Rattle.sql_grammar.specs.Numbering.{plain}
use Rattle.sql_grammar.specs.QueryGrammar.{a, name as a_name, parens, most_separators}
use Rattle.sql_read.proofs.steps.AgreeSteps.{by_eaten_alone, none_here}
use Rattle.sql_read.proofs.steps.AgreeLoops.{repeats, skipped_word}
use Rattle.sql_read.proofs.steps.Agreeing.{StopsIn, by_next, by_read, missing}
use Rattle.sql_cursor.proofs.code.Extending.{◌⨟◌, extends_itself}
use Rattle.sql_read.proofs.steps.ReadCopies.{at_start, on_one, on_other}
use Rattle.sql_read.proofs.steps.ReadLoops.{begins_skip}
use Rattle.sql_read.proofs.steps.ReadPassing.{Alike, alike_within, ◌then◌, first_unless, handed_on, misses, other_where}
use Rattle.sql_read.proofs.steps.ReadSteps as steps
use Rattle.sql_read.proofs.steps.ReadSteps.{blocks, refuses}
use Rattle.sql_read.specs.Copied.{CopiesSoFar}
use Rattle.schema_read.specs.Counting.{element_behind, narrowly}
use Rattle.schema_read.specs.StatementGrammar as g
use Rattle.schema_read.specs.StatementLimits.{most_columns, most_further_columns}
use Rattle.schema_read.specs.StatementReaders.{column, constraint_kinds, element, listed_elements, name, next_element, no_column, rule_element, table, table_elements}
use Rattle.schema_read.specs.StatementTrees as t
use Rattle.schema_read.specs.StatementTrees.{Elements}
use Rattle.schema_read.proofs.counts.CountSteps.{free}
use Rattle.schema_read.proofs.counts.CopiedParts.{copied_in, copied_to, counted_before, missed_other, part_copied, taken_spelled, told_if}
use Rattle.schema_read.proofs.agree.PlainSteps.{alike_built, one_token, plainly, value_built}
use Rattle.schema_read.proofs.spelled.StatementColumns.{in_column}
use Rattle.schema_read.proofs.spelled.StatementPrefixes.{columns_below, listed_below}
use Rattle.schema_read.proofs.agree.StatementNames.{name_agrees}
use Rattle.schema_read.proofs.agree.StatementRules.{column_agrees, rule_element_agrees}
use Rattle.schema_read.proofs.agree.StatementSteps.{Agrees, makes, mapped, nested, part_agrees, second, taken_counted, then_rest, whole}
use Rattle.schema_read.proofs.agree.TableColumns.{column_missed, column_refused, column_too_many, comma_refused, element_column, element_counted, element_full, element_refused, element_rule, element_within, listed, listed_counted, Narrow, narrow_first, narrow_listed}
use Rattle.schema_read.proofs.agree.Telling.{reads_more, with_columns}
use Rattle.schema_read.proofs.spelled.Unlimited.{Below, below_parens, below_seq, below_then_skip, itself}

-- ---- elements

abbrev elements_of : Elements × List Elements → Elements
elements_of read = t.with_elements read.0 (t.all_elements read.1)

with_others : (x y z : Elements) → t.with_elements (t.with_elements x y) z ≡ t.with_elements x (t.with_elements y z)
with_others x y z =
    ap (λ c. record { columns = c; rules = (x.rules ++ y.rules) ++ z.rules }) (append_assoc x.columns y.columns z.columns)
    ∙ ap (λ r. record { columns = x.columns ++ (y.columns ++ z.columns); rules = r }) (append_assoc x.rules y.rules z.rules)

with_none : (x : Elements) → t.with_elements x t.no_elements ≡ x
with_none x = ap (λ c. record { columns = c; rules = x.rules ++ [] }) (append-nil x.columns) ∙ ap (λ r. record { columns = x.columns; rules = r }) (append-nil x.rules)

module _ (levels : ℕ) (some : 0 < levels) where
  -- ---- an element behind others

  module _ (before : Elements) (few : length before.columns ≤ most_columns) (c : Cursor) where
    abbrev Element : Reading Elements → Type 0
    Element r = Agrees columns_too g.element (element_behind (length before.columns)) levels (λ read. plain (t.with_elements before read)) c c r

    nothing_copied : CopiesSoFar g.element (λ read. plain (t.with_elements before read)) c c c
    nothing_copied = counted_before at_start refl (omega arith)

    -- a column is refused where none may follow
    module _ (n : is_next (among constraint_kinds) c.tokens ≡ false) (full : length before.columns ≡ most_columns) where
      too_many : is_next (among name_kinds) c.tokens ≡ true → Element (Err (Limit limit.Columns), c)
      too_many i = record {
        reads = record { answers = refuses (blocks (first_unless (among constraint_kinds) (steps.whole {N = g.element}) refl refl n)) (column_refused i) };
        columns = record { answers = element_full (length before.columns) full n (column_too_many i) };
        copied = record { answers = record { says = nothing_copied } };
        extends = extends_itself;
      }

      none_there : Misses (among name_kinds) c (refusal c) c → Element (Err (refusal c), c)
      none_there m = record {
        reads = record { answers = refuses (blocks (first_unless (among constraint_kinds) (steps.whole {N = g.element}) refl refl n)) (misses refl refl m) };
        columns = record { answers = element_full (length before.columns) full n (column_missed {levels = levels} (misses refl refl m)) };
        copied = record { answers = told_if (refusal c) (missed_other m) (λ p. nothing_copied) };
        extends = extends_itself;
      }

    element_agrees : Element (element before c)
    unfolding element no_column
    element_agrees = by_next Element (among constraint_kinds) c
        (λ n. let t = rule_element_agrees levels some before c in record {
          reads = reads_more with_columns (handed_on (other_where (among constraint_kinds) steps.whole refl refl n) t.reads);
          columns = element_rule (length before.columns) n t.reads;
          copied = copied_in (rule_element before c).0 (on_other at_start) (λ v. refl) (part_copied (rule_element before c).0 t.copied);
          extends = t.extends;
        })
        (λ n. behind n (length before.columns == most_columns) refl)
      where
        behind : is_next (among constraint_kinds) c.tokens ≡ false → (b : Bool) → (length before.columns == most_columns) ≡ b → Element ((if b then no_column else column before) c)
        behind n true e = let full : length before.columns ≡ most_columns = eqb-true (length before.columns) most_columns e in by_next Element (among name_kinds) c (too_many n full) (λ i. none_there n full (missing i))
        behind n false e = let t = column_agrees levels some before c in record {
          reads = reads_more with_columns (handed_on (first_unless (among constraint_kinds) steps.whole refl refl n) t.reads);
          columns = element_column (length before.columns) (fewer (eqb-false (length before.columns) most_columns e)) n t.reads;
          copied = copied_in (column before c).0 (on_one at_start) (λ v. refl) (part_copied (column before c).0 t.copied);
          extends = t.extends;
        }
          where
            fewer : length before.columns ≢ most_columns → length before.columns < most_columns
            fewer i = omega (arith, few, i)

  -- ---- the elements of a table

  -- behind the first these elements were read
  record Listing (start : Cursor) (first : Elements) (done : List Elements) (elements : Elements) (now : Cursor) : Type 0 where
    join : List Elements → Elements × List Elements
    joins : (more : List Elements) → join more ≡ (first, done ++ more)
    counted : Narrow start now (length elements.columns) join
    alike : Alike start now
    few : length elements.columns ≤ most_columns
    same_elements : (more : List Elements) → t.with_elements elements (t.all_elements more) ≡ elements_of (join more)

  module _ (start : Cursor) where
    abbrev Listed : Reading Elements → Type 0
    Listed r = Agrees columns_too listed (free narrow_listed) levels (λ read. plain (elements_of read)) start start r

    module _ (first : Elements) {done : List Elements} {elements : Elements} {now : Cursor} (i : Listing start first done elements now) where
      at_end : is_next (same k.Comma) now.tokens ≡ false → TakesWithin columns_too listed (few_form listed) levels start.tokens (first, done) now.tokens → Extends start now → Listed (Ok elements, now)
      at_end n takes x = record {
        reads = record {
          answers = record {
            read = (first, done);
            takes = takes;
            builds = plainly (sym (with_none elements) ∙ (i.same_elements [] ∙ ap elements_of (i.joins [] ∙ ap (λ z. (first, z)) (append-nil done)))) i.alike;
          };
        };
        columns = record { answers = listed_counted i.counted (none_here (same k.Comma) now n) };
        copied = record { answers = tt };
        extends = x;
      }

      module _ {room : ℕ} {word : Lexeme} {mid : Cursor} (q : PassesWithin (same k.Comma) room now word mid) where
        one_more : (y : Elements) (after : Cursor) (u : Element elements i.few mid (Ok y, after)) → Listing start first (done ++ u.reads.answers.read ∷ []) y after
        one_more y after u =
            let read = u.reads.answers in
            let more = element_counted i.counted q i.few read.read after (taken_counted refl (element_within (length elements.columns)) u) in
            let same_count : length y.columns ≡ length elements.columns + length read.read.columns = ap (λ z. length z.columns) (value_built read.builds) ∙ length-append elements.columns read.read.columns in
            record {
              join = λ others. i.join (read.read ∷ others);
              joins = λ others. i.joins (read.read ∷ others) ∙ ap (λ z. (first, z)) (sym (append_assoc done (read.read ∷ []) others));
              counted = subst (λ n. Narrow start after n (λ others. i.join (read.read ∷ others))) (sym same_count) more.counted;
              alike = i.alike then alike_within q then alike_built read.builds;
              few = omega (arith, same_count, more.fits_too);
              same_elements = λ others. ap (λ z. t.with_elements z (t.all_elements others)) (value_built read.builds)
                  ∙ with_others elements read.read (t.all_elements others) ∙ i.same_elements (read.read ∷ others);
            }

        in_element : StopsIn columns_too g.element (few_form g.element) levels mid listed (few_form listed) levels start (λ v. (first, done ++ v ∷ [])) → (fault : ReadFault) (after : Cursor) → Element elements i.few mid (Err fault, after)
            → Listed (Err fault, after)
        in_element s fault after u = record {
          reads = record { answers = refuses s.blocks u.reads.answers };
          columns = record { answers = element_refused i.counted q u.columns.answers };
          copied = record { answers = copied_to fault s.going (λ v. omega (arith, i.alike.copies, (alike_within q).copies)) u.copied.answers };
          extends = s.extends ⨟ u.extends;
        }

    listed_agrees : Listed (listed_elements start)
    unfolding listed_elements
    listed_agrees = then_rest (column t.no_elements start) (itself g.column) (columns_below most_further_columns) (part_agrees with_columns (column_agrees levels some t.no_elements start)) whole refl refl (λ v. refl)
        (λ y mid u. let l = second (itself g.column) (columns_below most_further_columns) whole refl refl u in let read = u.reads.answers in
        let spelled = taken_spelled read.takes in
        let one : length y.columns ≡ 1 = ap (λ z. length z.columns) (value_built read.builds) ∙ in_column spelled.taken read.read spelled.spelled in
        repeats {built_at = start} {whole_of = λ read. plain (elements_of read)} {whole_copied = λ read. plain (elements_of read)} mid g.element (λ comma x. x) (same k.Comma) (λ others. (read.read, others)) Listed
        comma (λ room now word mid. PassesWithin (same k.Comma) room now word mid) (λ room now word mid i. skipped_word refl i) (λ room now go. by_eaten_alone Listed k.Comma now room go) refl (begins_skip (same k.Comma) g.element) refl
        next_element (Listing start read.read) (λ done x now i. omega (arith, i.alike.copies))
        (λ done x now i room at full w. record { reads = w.reads; columns = record { answers = comma_refused i.counted full }; copied = part_copied (Err (TooDeep at)) w.copied; extends = w.extends })
        (λ done x now i absent n takes on. at_end read.read i n takes on)
        (λ done x now i continues room word here q s again go. by_read Listed (Element x i.few here) (element x here) again (element_agrees x i.few here)
        (λ z after w. go w.reads.answers.read z after w.reads.answers.takes w.extends (one_more read.read i q z after w)) (in_element read.read i q s))
        most_separators [] y mid (record {
          join = λ others. (read.read, others);
          joins = λ others. refl;
          counted = narrow_first one l.counted;
          alike = alike_built read.builds;
          few = omega (arith, one);
          same_elements = λ others. ap (λ z. t.with_elements z (t.all_elements others)) (value_built read.builds);
        }) (λ none. refl) (record { left = l.left; going = l.going; extends = l.extends }))

-- ---- tables

listed_narrow : Below narrow_listed listed
listed_narrow = listed_below most_further_columns

module _ (levels : ℕ) (some : 0 < levels) (more : 0 < levels - 1) where
  table_elements_agrees : (c : Cursor) → Agrees columns_too (parens listed) (free (parens narrow_listed)) levels (λ read. plain (elements_of read)) c c (table_elements c)
  unfolding table_elements
  table_elements_agrees c =
      let inside = nested (mapped whole) some in
      then_rest (expected (same k.Open) c) (itself (a k.Open)) (below_then_skip (a k.Close) listed_narrow) (part_agrees with_columns (one_token (same k.Open) refl (levels - 1) c)) inside refl refl (λ v. refl)
      (λ open_ mid u. let behind = mapped (second (itself (a k.Open)) (below_then_skip (a k.Close) listed_narrow) inside refl refl u) in let opened = alike_built u.reads.answers.builds in
      then_rest (listed_elements mid) listed_narrow (itself (a k.Close)) (listed_agrees (levels - 1) more mid) behind refl refl (λ v. omega (arith, opened.copies))
      (λ y after w. let read = w.reads.answers in let alike = opened then alike_built read.builds in
      makes (expected (same k.Close) after) (λ close. y) (second listed_narrow (itself (a k.Close)) behind refl refl w) (λ v. omega (arith, alike.copies))
      (λ v close end b. plainly (value_built read.builds) (alike then alike_built b)) (part_agrees with_columns (one_token (same k.Close) refl (levels - 1) after))))

  pub table_agrees : (c : Cursor) → Agrees columns_too (g.table_with g.elements) (free (g.table_with narrowly)) levels (λ read. read) c c (table c)
  unfolding table
  table_agrees c =
      let start = mapped (mapped whole) in
      then_rest (expected (same k.Table) c) (itself (a k.Table)) (below_seq (itself a_name) (below_parens listed_narrow)) (part_agrees with_columns (one_token (same k.Table) refl levels c)) start refl refl (λ v. refl)
      (λ word mid u. let named = second (itself (a k.Table)) (below_seq (itself a_name) (below_parens listed_narrow)) start refl refl u in let begun = alike_built u.reads.answers.builds in
      then_rest (name mid) (itself a_name) (below_parens listed_narrow) (part_agrees with_columns (name_agrees levels mid)) named refl refl (λ v. omega (arith, begun.copies))
      (λ y after w. let read = w.reads.answers in let alike = begun then alike_built read.builds in
      makes (table_elements after) (λ elements. t.table_of y elements) (second (itself a_name) (below_parens listed_narrow) named refl refl w) (λ v. omega (arith, alike.copies))
      (λ v elements end b. plainly (ap (λ z. t.table_of z elements) (value_built read.builds) ∙ ap (λ z. t.table_of (t.named read.read) z) (value_built b)) (alike then alike_built b))
      (table_elements_agrees after)))
