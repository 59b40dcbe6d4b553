-- The readers of what stands in parentheses agree with the left-factored grammar.
use Rattle.std.proofs.Common.{◌≡◌, ℕ, ◌+◌, ◌-◌, Bool, true, Some, None, Ok, Err, refl, sym, ap, arith, inl, inr, []}
use Rattle.grammar.specs.Form.{empty, fork, nonempty, ref, seq}
use Rattle.grammar.proofs.readers.Predictions.{ok}
use Rattle.sql_lex.specs.Lexemes.{Lexeme}
use Rattle.sql_model.specs.declared.tree.Expr.{Expr}
use Rattle.sql_model.specs.declared.tree.Expr.TheVariants as an_expr
use Rattle.sql_model.specs.declared.tree.Query.{Query}
use Rattle.sql_cursor.specs.declared.fault.ReadFault.{ReadFault}
use Rattle.sql_read.specs.declared.reading.inside.Grouped.{Grouped}
use Rattle.sql_read.specs.declared.reading.inside.Grouped.TheVariants as grouped
use Rattle.sql_read.specs.declared.reading.inside.Inside.{Inside}
use Rattle.sql_read.specs.declared.reading.inside.Inside.TheVariants as inside
use Rattle.sql_read.specs.declared.reading.test.Sought.{Sought}
use Rattle.sql_cursor.specs.declared.tokens.counting.Mark.{Mark}
use Rattle.sql_read.specs.Copied.{CopiedToFault}
use Rattle.sql_cursor.specs.Cursor.{Cursor}
use Rattle.sql_cursor.specs.Eating.{IsMark, is_next}
use Rattle.sql_read.specs.Parts.{built_grouped, built_inside}
use Rattle.sql_read.specs.Reads.{Builds, IsBuilt, entries_too, few_form}
use Rattle.sql_read.specs.Reading.{Deeper, after_group, after_query, block, expr_tail, in_after_group, in_after_query, in_inner, in_parentheses, inner, members, expr, set_kinds, set_tail, tail_kinds}
use Rattle.sql_cursor.specs.Readers.{Reading, ◌>>=◌, done, mark}
use Rattle.sql_grammar.specs.declared.kinds.Kind.TheVariants as kind
use Rattle.sql_grammar.specs.declared.kinds.Kind.{Kind}
use Rattle.sql_grammar.specs.Kinds.{among, same}
use Rattle.sql_grammar.specs.Numbering.{Built}
use Rattle.grammar.proofs.readers.Completing.{either_of}
use Rattle.sql_grammar.specs.QueryCopies.{copies_nothing}
use Rattle.sql_grammar.specs.QueryGrammar as grammar
use Rattle.sql_grammar.specs.QueryTails as further
use Rattle.sql_grammar.specs.QueryGrammar.{The, most_separators}
use Rattle.sql_grammar.specs.QueryTails.{commas, next_comma}
use Rattle.sql_grammar.specs.FactoredQueries as factored
use Rattle.sql_grammar.specs.QueryTrees as t
use Rattle.sql_grammar.specs.QueryTailTrees as tails
use Rattle.sql_grammar.proofs.copies.QueryFillings.{Filled, fill_empty, fill_expr_tail, fill_map, fill_none, fill_other, fill_seq, fill_set_tail}
use Rattle.sql_grammar.proofs.queries.QueryTable.{left_factored}
use Rattle.sql_read.proofs.steps.AgreeSteps.{behind_first, behind_other, counted_of, first_next, fork_of, first_unless, first_where, other_where}
use Rattle.sql_read.proofs.steps.Agreeing.{Agrees, Residual, StopsIn, all_left, built, by_next, ends_in, inside, makes, mapped, other_unless, production, second, then_part, then_rest, then_tail, whole}
use Rattle.sql_cursor.proofs.code.Extending.{extends_itself}
use Rattle.sql_read.proofs.parts.ReadBegins.{expr_tail_begins, set_tail_begins}
use Rattle.sql_read.proofs.steps.ReadCopies.{SameCost, copied_in}
use Rattle.sql_read.proofs.parts.ReadInsides.{sorted_parentheses, built_in_query, built_sub, closed, closed_cost, expr_of, in_closed_cost, listed_cost, more_listed, no_commas, query_of, some_expr_tail, some_part, some_set_tail, takes_nothing, takes_some}
use Rattle.sql_read.proofs.steps.ReadLoops.{Begins}
use Rattle.sql_read.proofs.steps.ReadPassing.{handed_on}
use Rattle.sql_read.proofs.steps.ReadSteps as steps
use Rattle.sql_read.proofs.steps.ReadSteps.{built_as, built_map}
use Rattle.sql_read.proofs.steps.AgreeDeeper.{DeeperAgrees}
use Rattle.sql_read.proofs.agree.AgreeExprs.{expr_tail_agrees}
use Rattle.sql_read.proofs.agree.AgreeSets.{set_tail_agrees}
use Rattle.sql_read.proofs.agree.AgreeMembers.{members_agrees}
use Rattle.sql_read.proofs.agree.AgreeBlocks.{block_agrees}
use Rattle.sql_read.proofs.agree.AgreeGoingOn.{no_parenthesis_agrees}
use Rattle.sql_read.proofs.agree.AgreePrimaries.{in_parentheses_agrees}
use Rattle.sql_grammar.specs.FactoredQueries.{in_factored}

-- ---- what has a token, and what nothing follows

-- some of it was read, since a token that begins it stands next
some_agrees : {C Y : Type 0} {f : The C} {d : ℕ} {k w : C → Built Y} {began now : Cursor} (q : Kind → Bool) → Begins q f → is_next q now.tokens ≡ true
    → ((fault : ReadFault) (after : Cursor) → CopiedToFault f w began now fault after → CopiedToFault (nonempty f) w began now fault after) → (r : Reading Y) → Agrees f d k w began now r → Agrees (nonempty f) d k w began now r
some_agrees q i n some (Ok y, end) u =
    let read = u.reads.answers in
    record { reads = record { answers = record { read = read.read; takes = takes_some q i n read.takes; builds = read.builds } }; copied = record { answers = tt }; extends = u.extends }
some_agrees {now = now} q i n some (Err fault, end) u = record {
  reads = record { answers = steps.refuses {a = now} (some_part steps.whole) u.reads.answers };
  copied = record { answers = some fault end u.copied.answers };
  extends = u.extends;
}

module _ {A X : Type 0} {N : The A} {e : ℕ} {whole_of whole_copied : A → Built X} {built_at s : Cursor} where
  -- of what was read a node is made, and nothing follows
  makes_alone : {C Y : Type 0} {d : ℕ} {f : The C} {w : C → Built Y} {began here : Cursor} {h : C × Unit {0} → A} (r : Reading Y) (of : Y → X) → Residual (seq f empty) d here N e s h → ok left_factored (seq f empty) ≡ true
      → SameCost built_at (λ v. whole_copied (h (v, tt))) began w → ((v : C) (y : Y) (end : Cursor) → Builds (w v) began y end → Builds (whole_of (h (v, tt))) built_at (of y) end) → Agrees f d w w began here r
      → Agrees N e whole_of whole_copied built_at s (r >>= λ y. done (of y))
  makes_alone r of l o cost made u = then_rest r u (λ y end u. let read = u.reads.answers in built (second l o u) tt takes_nothing extends_itself (made read.read y end read.builds)) l o fill_empty cost

-- what stops a query or an expression in parentheses, by which it goes on
module _ {A M : Type 0} {N : The A} {e d : ℕ} {start here : Cursor} {more : The M} {m : M} {h : tails.Inside M → A} where
  group_stops : Residual (fork sorted_parentheses (factored.after_query more) (factored.after_expression more)) d here N e start h → ok left_factored (fork sorted_parentheses (factored.after_query more) (factored.after_expression more)) ≡ true → Filled more m
      → StopsIn entries_too (grammar.in_parentheses (ref further.inner)) (few_form (grammar.in_parentheses (ref further.inner))) d here N (few_form N) e start (λ v. h (closed m v))
  group_stops l o b = counted_of (inside (fork_of l o query_closed expr_closed) (all_left (mapped whole))) same
    where
      query_of : tails.Enclosed × ℕ → tails.Inside M
      query_of q = inr (inl (q.0, m))

      expr_of : t.Left → tails.Inside M
      expr_of left = inr (inr (left.0, m))

      query_closed : Filled (factored.after_query more) query_of
      query_closed = fill_other _ (fill_other _ (fill_map (λ m q. inr (inl (q.0, m))) b))

      expr_closed : Filled (factored.after_expression more) expr_of
      expr_closed = fill_map (λ p left. inr (inr (p.0 left, p.1))) (fill_seq fill_expr_tail b)

      same : (v : Lexeme × tails.Inside (Unit {0})) (count : ℕ) → h (either_of left_factored 0 copies_nothing (in_factored None N) start.tokens query_of expr_of (factored.sort (v, count))) ≡ h (closed m v)
      same (open_, inl q) count = refl
      same (open_, inr (inl p)) count = refl
      same (open_, inr (inr p)) count = refl

module _ (levels : ℕ) (deeper : Deeper) (d : DeeperAgrees levels deeper) where
  -- ---- behind a query in parentheses

  module _ (opening : Lexeme) (before : Built Query) (count : ℕ) (began now : Cursor) (start : Mark) (q : Query) (at : ℕ) (place : opening.start ≡ at) (marked : IsMark start began) (b : IsBuilt before count began q now) where
    set_tail_there : is_next (among set_kinds) now.tokens ≡ true → Agrees (nonempty (ref further.set_tail)) levels (λ tail. tail before) (λ tail. tail before) began now (set_tail levels deeper q now)
    set_tail_there n = some_agrees (among set_kinds) set_tail_begins n (λ fault after r. some_set_tail r) (set_tail levels deeper q now) (set_tail_agrees levels deeper d before began now q b.builds)

    expr_tail_there : is_next (among tail_kinds) now.tokens ≡ true → Agrees (nonempty (ref further.expr_tail)) levels (λ tail. tail (t.sub (opening, before), count)) (λ tail. tail (t.sub (opening, before), count)) began now
        (expr_tail levels deeper start (an_expr.Sub q at) now)
    expr_tail_there n = some_agrees (among tail_kinds) expr_tail_begins n (λ fault after r. some_expr_tail r) (expr_tail levels deeper start (an_expr.Sub q at) now)
        (expr_tail_agrees levels deeper d (t.sub (opening, before)) count began now start (an_expr.Sub q at) marked (built_sub opening place b))

    pub after_query_agrees : Agrees (factored.after_query empty) levels (λ read. built_inside (read ((opening, before), count))) (λ read. built_inside (read ((opening, before), count))) began now (after_query levels deeper start q at now)
    unfolding after_query
    after_query_agrees = by_next After (among set_kinds) now
        (λ n. makes (set_tail levels deeper q now) (λ x. inside.Query x) (mapped (first_next (among set_kinds) whole refl set_tail_begins n)) (λ v. refl) (λ v y end u. built_map (λ x. inside.Query x) u) (set_tail_there n))
        (λ no_set. by_next After (among tail_kinds) now
        (λ n. makes_alone (expr_tail levels deeper start (an_expr.Sub q at) now) (λ x. inside.Expr x) (mapped
        (first_next (among tail_kinds) (other_unless (among set_kinds) whole refl refl no_set) refl (λ u i. inl (expr_tail_begins u i)) n)) refl
        (λ v. refl) (λ v y end u. built_map (λ x. inside.Expr x) u) (expr_tail_there n))
        (λ n. built (mapped (other_unless (among tail_kinds) (other_unless (among set_kinds) whole refl refl no_set) refl refl n)) tt takes_nothing extends_itself
        (built_as (ap (λ z. inside.Enclosed q z) (sym place)) (built_map (λ x. inside.Enclosed x opening.start) b.builds))))
      where
        After : Reading Inside → Type 0
        After = Agrees (factored.after_query empty) levels (λ read. built_inside (read ((opening, before), count))) (λ read. built_inside (read ((opening, before), count))) began now

  -- ---- inside of parentheses

  abbrev Inner : Cursor → Reading Inside → Type 0
  Inner c r = Agrees (ref further.inner) levels built_inside built_inside c c r

  inner_behind : (c : Cursor) → Residual (fork sorted_parentheses (factored.after_query empty) (factored.after_expression empty)) levels c (ref further.inner) levels c (λ v. v) → (group : Grouped) (mid : Cursor)
      → Agrees (grammar.in_parentheses (ref further.inner)) levels built_grouped built_grouped c c (Ok group, mid) → Inner c (after_group levels deeper (mark c) group mid)
  inner_behind c l (grouped.Query q at) mid u =
      let read = u.reads.answers in let i = query_of u.extends read.read read.takes read.builds in
      ends_in (after_query levels deeper (mark c) q at mid) (behind_first l refl i.takes u.extends) (λ v. refl) (after_query_agrees i.open_ i.built (mid.passed - c.passed) c mid (mark c) q at i.place (refl, refl) i.builds)
  inner_behind c l (grouped.Expr x) mid u =
      let read = u.reads.answers in let i = expr_of u.extends read.read read.takes read.builds in
      makes_alone (expr_tail levels deeper (mark c) x mid) (λ x. inside.Expr x) (mapped (behind_other l refl i.takes u.extends)) refl (λ v. refl) (λ v y end u. built_map (λ x. inside.Expr x) u)
      (expr_tail_agrees levels deeper d i.built (mid.passed - c.passed) c mid (mark c) x (refl, refl) i.builds)

  pub inner_agrees : (c : Cursor) → Agrees (ref further.inner) levels built_inside built_inside c c (inner levels deeper c)
  unfolding inner
  inner_agrees c =
      let l = production further.inner (whole {start = c}) in
      by_next (Inner c) (same kind.Select) c
      (λ n. let l = mapped (first_where (same kind.Select) l refl refl n) in
      then_rest (block levels deeper c) (block_agrees levels deeper d c)
      (λ first mid u. let read = u.reads.answers in
      makes (set_tail levels deeper first mid) (λ x. inside.Query x) (second l refl u) (λ v. refl) (λ v y end u. built_map (λ x. inside.Query x) u) (set_tail_agrees levels deeper d read.read c mid first read.builds))
      l refl fill_set_tail (λ v. refl))
      (λ n. by_next (Inner c) (same kind.Open) c
      (λ m. let l = other_where (same kind.Open) (other_unless (same kind.Select) l refl refl n) refl refl m in
      then_part (in_parentheses levels deeper c) (after_group levels deeper (mark c)) (in_parentheses_agrees levels deeper d c) (group_stops l refl fill_empty) (λ v. ap (λ z. c.copies + z) (closed_cost v)) (inner_behind c l))
      (λ m. makes_alone (expr levels deeper c) (λ x. inside.Expr x) (mapped (first_unless (same kind.Open) (other_unless (same kind.Select) l refl refl n) refl refl m)) refl
      (λ v. refl) (λ v y end u. built_map (λ x. inside.Expr x) u) (no_parenthesis_agrees levels deeper d c m)))

  -- ---- behind a query in the parentheses of IN

  module _ (word opening : Lexeme) (before : Built Expr) (found : Built Query) (count tokens_inside : ℕ) (began middle now : Cursor) (sought : Sought) (start : Mark) (q : Query) (at : ℕ) (in_at : word.start ≡ sought.in_at)
      (weight : sought.weight ≡ t.weight (before, count)) (value : Builds before began sought.value middle) (place : opening.start ≡ at) (marked : IsMark start middle) (b : IsBuilt found tokens_inside middle q now) where
    abbrev InAfter : Reading Expr → Type 0
    InAfter r = Agrees (factored.after_query commas) levels (λ read. tails.in_inside None word (read ((opening, found), tokens_inside)) (before, count))
        (λ read. tails.in_inside None word (read ((opening, found), tokens_inside)) (before, count)) began now r

    -- a list whose first member is the query
    listed_there : is_next (same kind.Comma) now.tokens ≡ true → Residual commas levels now (factored.after_query commas) levels now (λ m q. inr (inl (q.0, m))) → InAfter (members levels deeper sought (an_expr.Sub q at) now)
    listed_there n l =
        let u = members_agrees levels deeper d before (t.sub (opening, found)) count began middle now sought (an_expr.Sub q at) weight value (built_sub opening place b).builds in
        record {
          reads = handed_on l.left (more_listed n word (opening, found) (before, count) u.reads);
          copied = copied_in l.going (λ v. ap (λ z. began.copies + z) (listed_cost word (before, count) (opening, found) v)) u.copied;
          extends = u.extends;
        }

    pub in_after_query_agrees : InAfter (in_after_query levels deeper sought start q at now)
    unfolding in_after_query
    in_after_query_agrees = by_next InAfter (among set_kinds) now
        (λ n. makes (set_tail levels deeper q now) (λ x. an_expr.In sought.value x (t.place_of sought.value) sought.in_at) (mapped (first_next (among set_kinds) whole refl set_tail_begins n)) (λ v. omega (arith, value.copies))
        (λ v y end u. built_in_query word before (v found) count in_at value u) (set_tail_there opening found tokens_inside middle now start q at place marked b n))
        (λ no_set. let l = other_unless (among set_kinds) (whole {start = now}) refl refl no_set in
        by_next InAfter (among tail_kinds) now
        (λ n. let l = mapped (first_next (among tail_kinds) l refl (λ u i. inl (expr_tail_begins u i)) n) in
        then_tail (expr_tail levels deeper start (an_expr.Sub q at) now) (members levels deeper sought) (expr_tail_there opening found tokens_inside middle now start q at place marked b n) l refl (fill_none (Some most_separators) next_comma)
        (λ v. omega (arith, value.copies)) (λ read x mid b. members_agrees levels deeper d before (read (t.sub (opening, found), tokens_inside)) count began middle mid sought x weight value b))
        (λ n. let l = mapped (other_unless (among tail_kinds) l refl refl n) in
        by_next InAfter (same kind.Comma) now (λ m. listed_there m l) (λ m. built l [] (no_commas now m) extends_itself (built_in_query word before found count in_at value b.builds))))

  -- ---- inside of the parentheses of IN

  module _ (sought : Sought) (word : Lexeme) (before : Built Expr) (count : ℕ) (began c : Cursor) (in_at : word.start ≡ sought.in_at) (weight : sought.weight ≡ t.weight (before, count)) (value : Builds before began sought.value c) where
    abbrev In : Reading Expr → Type 0
    In r = Agrees (ref further.in_inner) levels (λ read. tails.in_inside None word read (before, count)) (λ read. tails.in_inside None word read (before, count)) began c r

    in_behind : Residual (fork sorted_parentheses (factored.after_query commas) (factored.after_expression commas)) levels c (ref further.in_inner) levels c (λ v. v) → (group : Grouped) (mid : Cursor)
        → Agrees (grammar.in_parentheses (ref further.inner)) levels built_grouped built_grouped c c (Ok group, mid) → In (in_after_group levels deeper sought (mark c) group mid)
    in_behind l (grouped.Query q at) mid u =
        let read = u.reads.answers in let i = query_of u.extends read.read read.takes read.builds in
        ends_in (in_after_query levels deeper sought (mark c) q at mid) (behind_first l refl i.takes u.extends) (λ v. refl)
        (in_after_query_agrees word i.open_ before i.built count (mid.passed - c.passed) began c mid sought (mark c) q at in_at weight value i.place (refl, refl) i.builds)
    in_behind l (grouped.Expr x) mid u =
        let read = u.reads.answers in let i = expr_of u.extends read.read read.takes read.builds in
        let l = mapped (behind_other l refl i.takes u.extends) in
        then_tail (expr_tail levels deeper (mark c) x mid) (members levels deeper sought) (expr_tail_agrees levels deeper d i.built (mid.passed - c.passed) c mid (mark c) x (refl, refl) i.builds) l refl (fill_none (Some most_separators) next_comma)
        (λ v. omega (arith, value.copies)) (λ read y end b. members_agrees levels deeper d before (read (i.built, mid.passed - c.passed)) count began c end sought y weight value b)

    pub in_inner_agrees : In (in_inner levels deeper sought c)
    unfolding in_inner
    in_inner_agrees =
        let l = production further.in_inner (whole {start = c}) in
        by_next In (same kind.Select) c
        (λ n. let l = mapped (first_where (same kind.Select) l refl refl n) in
        then_rest (block levels deeper c) (block_agrees levels deeper d c)
        (λ first mid u. let read = u.reads.answers in
        makes (set_tail levels deeper first mid) (λ x. an_expr.In sought.value x (t.place_of sought.value) sought.in_at) (second l refl u) (λ v. omega (arith, value.copies))
        (λ v y end u. built_in_query word before (v read.read) count in_at value u) (set_tail_agrees levels deeper d read.read c mid first read.builds))
        l refl fill_set_tail (λ v. omega (arith, value.copies)))
        (λ n. by_next In (same kind.Open) c
        (λ m. let l = other_where (same kind.Open) (other_unless (same kind.Select) l refl refl n) refl refl m in
        then_part (in_parentheses levels deeper c) (in_after_group levels deeper sought (mark c)) (in_parentheses_agrees levels deeper d c) (group_stops l refl (fill_none (Some most_separators) next_comma))
        (λ v. omega (arith, in_closed_cost word (before, count) v, value.copies)) (in_behind l))
        (λ m. let l = mapped (first_unless (same kind.Open) (other_unless (same kind.Select) l refl refl n) refl refl m) in
        then_tail (expr levels deeper c) (members levels deeper sought) (no_parenthesis_agrees levels deeper d c m) l refl (fill_none (Some most_separators) next_comma) (λ v. omega (arith, value.copies))
        (λ read x mid b. members_agrees levels deeper d before read count began c mid sought x weight value b)))
