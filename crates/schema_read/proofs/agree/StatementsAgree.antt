-- The readers of statements agree with the grammar, and with the limits on columns and relations.
use Rattle.std.proofs.Common.{◌≡◌, ℕ, zero, suc, ◌+◌, true, false, List, [], ◌∷◌, ◌++◌, append_assoc, Some, None, Result, Ok, Err, refl, sym, ◌∙◌, ap, arith, inl, inr}
use Rattle.std.proofs.lemmas.List.{append-nil}
use Rattle.grammar.specs.Form.{alt, star}
use Rattle.grammar.specs.Language.{Language, upto_language}
use Rattle.grammar.proofs.readers.Begun.{nothing_began}
use Rattle.grammar.proofs.readers.Predictions.{ahead}
use Rattle.grammar.proofs.readers.Residuals as r
use Rattle.grammar.proofs.readers.Repetitions.{repeated_within}
use Rattle.grammar.proofs.readers.Steps.{IsWithin}
use Rattle.sql_lex.specs.Lexemes.{Lexeme}
use Rattle.sql_model.specs.declared.statement.Statement.{Statement}
use Rattle.sql_cursor.specs.declared.fault.LimitKind.TheVariants as limit
use Rattle.sql_cursor.specs.declared.fault.ReadFault.{ReadFault}
use Rattle.sql_cursor.specs.declared.fault.ReadFault.TheVariants.{Limit, NoMemory}
use Rattle.sql_cursor.specs.Cursor.{Cursor}
use Rattle.sql_cursor.specs.Eating.{Extends, is_next}
use Rattle.sql_cursor.specs.Readers.{Gives, Reader, Reading, expected}
use Rattle.sql_read.specs.Reads.{Builds, columns_too, few_form, relations_too}
use Rattle.sql_grammar.specs.declared.kinds.Kind.TheVariants as k
use Rattle.sql_grammar.specs.Kinds.{same}
use Rattle.sql_grammar.specs.Numbering.{Built, each}
use Rattle.sql_grammar.specs.Queries.{most_levels}
use Rattle.sql_grammar.specs.QueryGrammar.{The, a}
use Rattle.sql_grammar.proofs.queries.QueryTable.{left_factored}
use Rattle.sql_read.proofs.agree.AgreeAll.{by_given}
use Rattle.sql_read.proofs.steps.Agreeing.{by_next, by_read}
use Rattle.sql_cursor.proofs.code.Extending.{◌⨟◌, extends_itself}
use Rattle.sql_read.proofs.parts.ReadChains.{built_by, built_each, each_more_copies}
use Rattle.sql_read.proofs.steps.ReadCopiedSteps.{on_last, on_next_taken}
use Rattle.sql_read.proofs.steps.ReadCopies.{Going, at_start, on_mapped}
use Rattle.sql_read.proofs.steps.ReadLoops.{Begins, begins_here, first_there, repeated_begins, repeated_end, repeated_next}
use Rattle.sql_read.proofs.steps.ReadPassing.{built_from, built_until}
use Rattle.sql_read.proofs.steps.ReadSteps as steps
use Rattle.sql_read.proofs.steps.ReadSteps.{LeftOf, absent_unless, plain_here, refuses}
use Rattle.sql_read.specs.Copied.{CopiesSoFar}
use Rattle.schema_read.specs.Counting.{Counts, few_factored_statements, narrowly}
use Rattle.schema_read.specs.StatementGrammar as g
use Rattle.schema_read.specs.StatementGrammar.{ended}
use Rattle.schema_read.specs.StatementLimits.{most_further_columns, most_relations}
use Rattle.schema_read.specs.StatementTrees.{Elements}
use Rattle.schema_read.specs.StatementReaders.{ended_statement, further_statements, index, one_statement, statements, table, view}
use Rattle.schema_read.proofs.counts.CopiedParts.{copied_to, counted_before}
use Rattle.schema_read.proofs.counts.CountSteps.{Rest, RestOf, below_within, free, held, rest_mapped, statement_refused, took_free, whole_rest}
use Rattle.schema_read.proofs.agree.PlainSteps.{alike_built, one_token}
use Rattle.schema_read.proofs.spelled.StatementPrefixes.{ended_below, statement_below, table_below}
use Rattle.schema_read.proofs.agree.StatementRules.{index_agrees, view_agrees}
use Rattle.schema_read.proofs.agree.StatementSteps.{Agrees, ends_by, makes, mapped, one_next, other_next, part_agrees, second, taken_counted, then_rest, whole}
use Rattle.schema_read.proofs.agree.StatementTables.{table_agrees}
use Rattle.schema_read.proofs.agree.Telling.{refused_more, taken_more, with_columns, with_relations}
use Rattle.schema_read.proofs.spelled.Unlimited.{Below, below_alt, itself}

-- ---- CREATE, and what is created

abbrev created : The (List Elements) → The (Built Statement)
created others = alt (g.table_with others) (alt g.view g.index)

created_narrow : Below (created narrowly) (created g.elements)
created_narrow = below_alt (table_below most_further_columns) (itself (alt g.view g.index))

abbrev Stated : Cursor → Reading Statement → Type 0
Stated c r = Agrees columns_too g.statement (free (g.statement_with narrowly)) most_levels (λ read. read) c c r

one_statement_agrees : (c : Cursor) → Stated c (one_statement c)
unfolding one_statement
one_statement_agrees c =
    then_rest (expected (same k.Create) c) (itself (a k.Create)) created_narrow (part_agrees with_columns (one_token (same k.Create) refl most_levels c)) (mapped whole) refl refl (λ v. refl)
    (λ word mid u. let l = second (itself (a k.Create)) created_narrow (mapped whole) refl refl u in let alike = alike_built u.reads.answers.builds in
    by_next (Stated c) (same k.Table) mid
    (λ n. ends_by (table mid) (one_next l (same k.Table) (itself (alt g.view g.index)) refl (λ t i. inl (inr (t, refl, i))) n) (λ v. omega (arith, alike.copies)) (λ v x end b. built_from alike b)
    (table_agrees most_levels (omega arith) (omega arith) mid))
    (λ n. let m = other_next l (same k.Table) (table_below most_further_columns) refl refl n in
    by_next (Stated c) (same k.View) mid
    (λ i. ends_by (view mid) (one_next m (same k.View) (itself g.index) refl (λ t j. inl (inr (t, refl, j))) i) (λ v. omega (arith, alike.copies)) (λ v x end b. built_from alike b) (part_agrees with_columns (view_agrees mid)))
    (λ i. ends_by (index mid) (other_next m (same k.View) (itself g.view) refl refl i) (λ v. omega (arith, alike.copies)) (λ v x end b. built_from alike b)
    (part_agrees with_columns (index_agrees most_levels (omega arith) mid)))))

abbrev narrow_ended : The (Built Statement)
narrow_ended = g.ended_with narrowly

abbrev Ended : Cursor → Reading Statement → Type 0
Ended c r = Agrees columns_too ended (free narrow_ended) most_levels (λ read. read) c c r

ended_agrees : (c : Cursor) → Ended c (ended_statement c)
unfolding ended_statement
ended_agrees c =
    let narrow = statement_below most_further_columns in
    then_rest (one_statement c) narrow (itself (a k.Semicolon)) (one_statement_agrees c) (mapped whole) refl refl (λ v. refl)
    (λ y mid u. makes (expected (same k.Semicolon) mid) (λ end. y) (second narrow (itself (a k.Semicolon)) (mapped whole) refl refl u) (λ v. omega (arith, u.reads.answers.builds.copies))
    (λ v x end b. built_until u.reads.answers.builds (alike_built b)) (part_agrees with_columns (one_token (same k.Semicolon) refl most_levels mid)))

-- ---- statements one by one

-- what a reading of statements comes to
pub record AllAgree (start : Cursor) (r : Reading (List Statement)) : Type 0 where
  pub agrees : Agrees relations_too g.statements (free (g.statements_with narrowly)) most_levels (λ read. read) start start r
  pub relations : Counts limit.Relations g.statements few_factored_statements start r.0 r.1

ended_within : IsWithin (free ended) (free narrow_ended)
ended_within = below_within (ended_below most_further_columns)

any_ended : IsWithin (free ended) (free ended)
any_ended = below_within (itself ended)

abbrev few_ended : ℕ → Language Lexeme (List (Built Statement))
few_ended room = upto_language room (free ended)

pub few_within : (room : ℕ) → IsWithin (free (star None ended)) (few_ended room)
few_within room = repeated_within (free ended) (free ended) any_ended (Some zero) (Some room)

create_begins : Begins (same k.Create) ended
create_begins t i = inl (inl (inr (t, refl, i)))

abbrev all_of : (List (Built Statement) → List (Built Statement)) → List (Built Statement) → Built (List Statement)
all_of join more = each (join more)

-- these statements were read, and so many more may follow
record Stating (start : Cursor) (room : ℕ) (list : List Statement) (now : Cursor) : Type 0 where
  join : List (Built Statement) → List (Built Statement)
  residual : LeftOf relations_too (star None ended) most_levels now.tokens g.statements (few_form g.statements) most_levels start.tokens (all_of join)
  columns : Rest (star None ended) (star None narrow_ended) now.tokens g.statements (free (g.statements_with narrowly)) start.tokens (all_of join)
  relations : RestOf (star None ended) (few_ended room) now.tokens g.statements few_factored_statements start.tokens (all_of join)
  going : Going (star None ended) now.tokens g.statements start.tokens (all_of join)
  done_so_far : List (Built Statement)
  same_done : (more : List (Built Statement)) → join more ≡ done_so_far ++ more
  builds : Builds (each done_so_far) start list now
  extends : Extends start now

stating : (start : Cursor) → Stating start most_relations [] start
stating start = record {
  join = λ more. more;
  residual = steps.mapped steps.whole;
  columns = rest_mapped whole_rest;
  relations = record { residual = r.left_map left_factored _ _ start.tokens (λ read. each read) (star None ended) (few_ended most_relations) start.tokens (λ read. read) (r.residual_whole (free g.statements) few_factored_statements start.tokens) };
  going = on_mapped at_start;
  done_so_far = [];
  same_done = λ more. refl;
  builds = plain_here;
  extends = extends_itself;
}

module _ (start : Cursor) (room : ℕ) (list : List Statement) (now : Cursor) (l : Stating start room list now) where
  at_end : is_next (same k.Create) now.tokens ≡ false → AllAgree start (Ok list, now)
  at_end n =
      let none = absent_unless (same k.Create) (ahead left_factored ended) refl now.tokens n in
      record {
        agrees = record {
          reads = record { answers = record { read = _; takes = repeated_end {most = None} l.residual refl none; builds = built_by (ap (λ z. each z) (l.same_done [] ∙ append-nil l.done_so_far)) l.builds } };
          columns = record { answers = record { read = _; took = r.left_last left_factored _ _ start.tokens None ended (free narrow_ended) ended_within refl (free (star None narrow_ended)) refl now.tokens (all_of l.join) l.columns.residual none } };
          copied = record { answers = tt };
          extends = l.extends;
        };
        relations = record { answers = record { read = _; took = r.left_last left_factored _ _ start.tokens None ended (free ended) any_ended refl (few_ended room) (refl, omega arith) now.tokens (all_of l.join) l.relations.residual none } };
      }

  copied_here : CopiesSoFar g.statements (λ read. read) start start now
  copied_here = counted_before l.going refl (same_copies (each (l.join [])).copies (each l.done_so_far).copies (ap (λ z. (each z).copies) (l.same_done [] ∙ append-nil l.done_so_far)) refl)
    where
      same_copies : (m n : ℕ) → m ≡ n → n ≡ (each l.done_so_far).copies → now.copies ≡ start.copies + m
      same_copies m n i j = omega (arith, i, j, l.builds.copies)

-- one more begins, and none is allowed
one_too_many : (start : Cursor) (list : List Statement) (now : Cursor) → Stating start zero list now → is_next (same k.Create) now.tokens ≡ true → AllAgree start (Err (Limit limit.Relations), now)
one_too_many start list now l n =
    let next = first_there (same k.Create) now.tokens n in
    record {
      agrees = record {
        reads = record {
          answers = record {
            says = record {
              counts = tt;
              token = next.first;
              more = next.others;
              next = next.stood;
              goes_on = l.residual.residual.began next.others
                  (record { taken = next.first ∷ []; whole = next.stood; begun = inr ([], next.first ∷ [], [], refl, refl, inl (inl (inr (next.first, refl, next.of_kind)))) });
              few = begins_here l.residual;
            };
          };
        };
        columns = record { answers = record { begun = λ p. l.columns.residual.began now.tokens (nothing_began (free (star None narrow_ended)) (repeated_within (free ended) (free narrow_ended) ended_within None None).prefixes now.tokens); passed = λ e. cc } };
        copied = record { answers = record { says = copied_here start zero list now l } };
        extends = l.extends;
      };
      relations = record {
        answers = record {
          begun = λ p. l.relations.residual.began now.tokens (nothing_began (few_ended zero) (few_within zero).prefixes now.tokens);
          passed = λ e. r.left_full left_factored _ _ start.tokens zero ended (free ended) now.tokens (all_of l.join) l.relations.residual next.first next.others next.stood (create_begins next.first next.of_kind);
        };
      };
    }

module _ (start : Cursor) (room : ℕ) (list : List Statement) (now : Cursor) (l : Stating start (suc room) list now) where
  one_more : (y : Statement) (after : Cursor) → Ended now (Ok y, after) → Stating start room (list ++ y ∷ []) after
  one_more y after u = let read = u.reads.answers in record {
    join = λ more. l.join (read.read ∷ more);
    residual = repeated_next {most = None} l.residual refl (taken_more with_relations read.takes);
    columns = record { residual = r.left_next left_factored _ _ start.tokens None None ended (free narrow_ended) ended_within now.tokens (all_of l.join) refl l.columns.residual read.read after.tokens (taken_counted refl ended_within u) };
    relations = record { residual = r.left_next left_factored _ _ start.tokens (Some zero) (Some room) ended (free ended) any_ended now.tokens (all_of l.join) refl l.relations.residual read.read after.tokens (took_free read.takes) };
    going = on_next_taken l.going most_levels read.takes.took;
    done_so_far = l.done_so_far ++ read.read ∷ [];
    same_done = λ more. l.same_done (read.read ∷ more) ∙ sym (append_assoc l.done_so_far (read.read ∷ []) more);
    builds = built_each l.done_so_far l.builds read.builds;
    extends = l.extends ⨟ u.extends;
  }

  in_statement : is_next (same k.Create) now.tokens ≡ true → (fault : ReadFault) (after : Cursor) → Ended now (Err fault, after) → AllAgree start (Err fault, after)
  in_statement n fault after u =
      let next = first_there (same k.Create) now.tokens n in
      record {
        agrees = record {
          reads = record { answers = refuses {a = now} (repeated_begins None l.residual refl next.first next.others next.stood (create_begins next.first next.of_kind)) (refused_more with_relations u.reads.answers) };
          columns = record {
            answers = held (record {
              exceeded = r.left_next_exceeded left_factored _ _ start.tokens None None ended (free narrow_ended) ended_within now.tokens (all_of l.join) refl l.columns.residual;
              began = r.left_next_began left_factored _ _ start.tokens None None ended (free narrow_ended) ended_within now.tokens (all_of l.join) refl l.columns.residual;
            }) u.columns.answers;
          };
          copied = record { answers = copied_to fault (on_last l.going) cost u.copied.answers };
          extends = l.extends ⨟ u.extends;
        };
        relations = record {
          answers = held (record {
            exceeded = r.left_next_exceeded left_factored _ _ start.tokens (Some zero) (Some room) ended (free ended) any_ended now.tokens (all_of l.join) refl l.relations.residual;
            began = r.left_next_began left_factored _ _ start.tokens (Some zero) (Some room) ended (free ended) any_ended now.tokens (all_of l.join) refl l.relations.residual;
          }) (statement_refused u.reads.answers);
        };
      }
    where
      cost : (v : Built Statement) → start.copies + (each (l.join (v ∷ []))).copies ≡ now.copies + v.copies
      cost v =
          let e : (each (l.join (v ∷ []))).copies ≡ (each (l.done_so_far ++ v ∷ [])).copies = ap (λ z. (each z).copies) (l.same_done (v ∷ [])) in
          omega (arith, e, each_more_copies l.done_so_far v, l.builds.copies)

further_agrees : (start : Cursor) (room : ℕ) (list : List Statement) (now : Cursor) → Stating start room list now → AllAgree start (further_statements room list now)
unfolding further_statements
further_agrees start zero list now l = by_next (AllAgree start) (same k.Create) now (one_too_many start list now l) (at_end start zero list now l)
further_agrees start (suc room) list now l =
    let behind : Statement → Reader (List Statement) = λ next. further_statements room (list ++ next ∷ []) in
    by_next (AllAgree start) (same k.Create) now
    (λ n. by_read (AllAgree start) (Ended now) (ended_statement now) behind (ended_agrees now) (λ y after u. further_agrees start room (list ++ y ∷ []) after (one_more start room list now l y after u)) (in_statement start room list now l n))
    (at_end start (suc room) list now l)

pub statements_agree : (c : Cursor) → AllAgree c (statements c)
unfolding statements
statements_agree c = further_agrees c most_relations [] c (stating c)

-- so does code, which may run out of memory
pub all_given : {before after : Cursor} (result : Result (List Statement) ReadFault) → Extends before after → Gives result after (statements before) → AllAgree before (result, after)
all_given {before = before} {after = after} result x given =
    by_given (λ result after. Extends before after → AllAgree before (result, after)) (statements before) result after (λ x. statements_agree before) ran_out given x
  where
    ran_out : Extends before after → AllAgree before (Err NoMemory, after)
    ran_out x = record {
      agrees = record {
        reads = record { answers = record { says = tt } };
        columns = record { answers = record { begun = λ p. absurd p; passed = λ (e : NoMemory ≡ Limit limit.Columns). cc } };
        copied = record { answers = record { says = tt } };
        extends = x;
      };
      relations = record { answers = record { begun = λ p. absurd p; passed = λ (e : NoMemory ≡ Limit limit.Relations). cc } };
    }
