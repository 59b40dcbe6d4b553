-- The readers of an entry of FROM agree with the left-factored grammar, where an entry is allowed behind so many.
use Rattle.std.proofs.Common.{◌≡◌, ℕ, true, false, ◌∷◌, codes, Option, Some, None, Result, Ok, Err, refl, sym, subst, arith, [], ap, Bool, ◌<◌, ◌∙◌}
use Rattle.grammar.specs.Form.{ref, seq}
use Rattle.grammar.specs.Productions.{optional, skip_then}
use Rattle.grammar.proofs.readers.Predictions.{ahead}
use Rattle.sql_lex.specs.Lexemes.{Lexeme}
use Rattle.sql_model.specs.declared.tree.Entry.{Entry}
use Rattle.sql_cursor.specs.declared.fault.ReadFault.{ReadFault}
use Rattle.sql_read.specs.Copied.{Copied}
use Rattle.sql_cursor.specs.Cursor.{Cursor}
use Rattle.sql_cursor.specs.Eating.{Extends, Passes, PassesWithin, is_next, Overflows}
use Rattle.sql_read.specs.Parts.{allowed_entry}
use Rattle.sql_read.specs.Reads.{Takes, entries_too, few_form, Builds, RefusesWithin}
use Rattle.sql_read.specs.Reading.{Deeper, entry, joined_entry, joined_on}
use Rattle.sql_cursor.specs.Readers.{Reader, Reading, ◌>>=◌, accepted, done, eaten_within, expected, on}
use Rattle.sql_read.specs.Reading as reading
use Rattle.sql_grammar.specs.declared.kinds.Kind.TheVariants as k
use Rattle.sql_grammar.specs.declared.listed.Listed.{Listed}
use Rattle.sql_grammar.specs.Kinds.{among, same, name_kinds}
use Rattle.sql_grammar.specs.Numbering.{Built, mapped as built_to, plain}
use Rattle.sql_grammar.specs.QueryGrammar as grammar
use Rattle.sql_grammar.specs.QueryGrammar.{parens}
use Rattle.sql_grammar.specs.QueryTrees as t
use Rattle.sql_grammar.specs.QueryTrees.{entry_of}
use Rattle.sql_grammar.proofs.copies.QueryFillings.{Filled, number_one, fill_entry, fill_expr, fill_query, fill_seq, fill_second, fill_token, symbol, word}
use Rattle.sql_grammar.proofs.queries.QueryTable.{left_factored}
use Rattle.sql_grammar.proofs.queries.QueryWords.{Below}
use Rattle.grammar.proofs.factorings.Alike.{below_seq, itself}
use Rattle.sql_grammar.specs.FactoredQueries.{of_factored}
use Rattle.grammar.proofs.readers.Begun.{nothing_began}
use Rattle.sql_cursor.specs.declared.fault.ReadFault.TheVariants.{TooDeep}
use Rattle.sql_read.proofs.steps.AgreeDeeper.{DeeperAgrees}
use Rattle.sql_read.proofs.steps.AgreeSteps.{by_eaten_alone, fill_group}
use Rattle.sql_read.proofs.steps.Agreeing.{Agrees, AgreesWithin, Residual, ResidualIn, StopsIn, all_left, behind, behind_taken, built, by_eaten, by_next, ends_in, first, first_of, first_to, inside, mapped, mapped_to, needs_at, nested, one_to, other, other_to, production, second, second_to, then_part, too_deep_here, whole, by_expected, missing, refused_here, whole_in}
use Rattle.sql_cursor.proofs.code.Extending.{◌⨟◌, extends_itself, extends_passes, extends_within}
use Rattle.sql_read.proofs.agree.AgreeItems.{fill_alias, alias_agrees, table_entry_agrees}
use Rattle.sql_read.proofs.steps.ReadCopies.{copied_before}
use Rattle.sql_read.proofs.code.Loops.{no_level, no_name}
use Rattle.sql_read.proofs.parts.ReadEntryLists.{condition, cross_below, cross_of, cross_words, entry_behind, entry_below, fits, join_kinds, joins, joins_behind, on_below, on_of, on_words}
use Rattle.sql_read.proofs.parts.ReadFewEntries.{not_allowed, too_many_entries, all_fits, begins_entry}
use Rattle.sql_read.proofs.steps.ReadPassing.{Alike, alike_passes, alike_within, ◌then◌, built_from, built_until, overflows, either_next, neither_next, or_next, misses_in}
use Rattle.sql_read.proofs.steps.ReadSteps.{absent_unless, absent_where, built_both, built_map, fewer_within, next_there, none_taken, some_left, starts, took_token}
use Rattle.sql_read.proofs.steps.ReadSteps as steps
use Rattle.sql_model.specs.declared.tree.Query.{Query}
use Rattle.sql_read.proofs.parts.ReadChains.{built_by}
use Rattle.sql_read.proofs.agree.AgreeExprs.{expr_agrees}

query_built : {a d e : Cursor} {x : Built Query} {v : Query} {read alias : Lexeme} → Builds x a v d → Builds (plain read) d alias e → Builds (t.query_entry x read) a (t.listed_query alias v) e
query_built {e = e} {x = x} {v = v} {read = read} {alias = alias} b u =
    built_by (ap (λ z. t.query_entry x z) (ap (λ p. p.0) u.numbers))
    (built_until (built_map (t.listed_query alias) b) (record { numbers = sym (ap (λ p. p.1) u.numbers); copies = omega (arith, u.copies) }))

module _ (levels : ℕ) (deeper : Deeper) (d : DeeperAgrees levels deeper) where
  -- an entry, where one is allowed
  abbrev one_entry : Reader Listed
  one_entry c = eaten_within (among (k.Open ∷ [])) levels c >>= on
      (λ open_ c. deeper.query c >>= λ q c. expected (same k.Close) c >>= λ close c. reading.alias c >>= λ name. done (t.listed_query name q))
      reading.table_entry

  abbrev EntryRead : Cursor → Reading Listed → Type 0
  EntryRead c r = Agrees (ref grammar.entry) levels (λ read. read) (λ read. read) c c r

  module _ (c : Cursor) (n : is_next (same k.Open) c.tokens ≡ true) where
    entry_left : Residual (seq (parens (ref grammar.query)) grammar.alias) levels c (ref grammar.entry) levels c (λ p. t.query_entry p.0 p.1)
    entry_left = mapped (other (production grammar.entry (whole {start = c})) refl (absent_where (same k.Open) (ahead left_factored (seq grammar.name (optional grammar.alias))) refl c.tokens n))

    -- the query in parentheses
    in_parens : StopsIn entries_too (parens (ref grammar.query)) (few_form (parens (ref grammar.query))) levels c (ref grammar.entry) (few_form (ref grammar.entry)) levels c (λ q. t.query_entry q (word (codes "a")))
    in_parens = first_of entry_left refl fill_alias

  -- a query in parentheses, and its alias
  query_entry_agrees : (c mid : Cursor) (open_ : Lexeme) → PassesWithin (same k.Open) levels c open_ mid
      → EntryRead c (deeper.query mid >>= λ q c. expected (same k.Close) c >>= λ close c. reading.alias c >>= λ name. done (t.listed_query name q))
  query_entry_agrees c mid open_ i =
      let n = next_there (same k.Open) c mid open_ i.passes in
      let paren_left = mapped (behind (nested (mapped (whole {told = entries_too} {N = parens (ref grammar.query)} {e = levels} {start = c})) i.room_left) refl i.passes) in
      then_part (deeper.query mid) _ ((d i.room_left).query mid) (inside (in_parens c n) (first_of paren_left refl (fill_token k.Close (symbol 41) refl refl))) (λ v. omega (arith, (alike_within i).copies))
      (λ q m u.
      let close_left = second paren_left refl u in
      needs_at _ (inside (in_parens c n) (all_left close_left)) (fill_token k.Close (symbol 41) refl refl) (omega (arith, u.reads.answers.builds.copies, (alike_within i).copies))
      (λ close m p.
      let alias_left = behind_taken (entry_left c n) refl (steps.takes close_left.left (took_token _ p)) (extends_within i ⨟ u.extends ⨟ extends_passes p) in
      then_part (reading.alias m) _ (alias_agrees levels m) (all_left alias_left) (λ w. omega (arith, u.reads.answers.builds.copies, (alike_within i).copies, (alike_passes p).copies))
      (λ name z v. let alias = v.reads.answers in
      built alias_left alias.read alias.takes v.extends
      (query_built (built_until (built_from (alike_within i) u.reads.answers.builds) (alike_passes p)) alias.builds))))

  -- as if one more fits
  one_entry_agrees : (c : Cursor) → EntryRead c (one_entry c)
  one_entry_agrees c =
      by_eaten_alone (EntryRead c) k.Open c levels _ (λ open_ mid i. query_entry_agrees c mid open_ i)
      (λ at full. too_deep_here (inside (in_parens c full.next) (all_left (mapped whole))) (fill_group fill_query) (omega arith) (overflows full))
      (λ n. ends_in (reading.table_entry c) (mapped (first (production grammar.entry whole) refl (absent_unless (same k.Open) (ahead left_factored (seq (parens (ref grammar.query)) grammar.alias)) refl c.tokens n)))
      (λ v. refl) (table_entry_agrees levels c))

  abbrev Behind : ℕ → Cursor → Reading Listed → Type 0
  Behind count c r = AgreesWithin entries_too (ref grammar.entry) (few_form (entry_behind count)) levels (λ read. read) (λ read. read) c c r

  module _ (count : ℕ) (c : Cursor) where
    nothing_here : StopsIn entries_too (ref grammar.entry) (few_form (entry_behind count)) levels c (ref grammar.entry) (few_form (entry_behind count)) levels c (λ v. v)
    nothing_here = all_left whole_in

    nested_too_deep : {at : ℕ} → Overflows (same k.Open) levels c (TooDeep at) c → RefusesWithin entries_too (ref grammar.entry) (few_form (entry_behind count)) levels c (TooDeep at) c
    nested_too_deep full =
        let x = steps.refuses {s = c} (inside (in_parens c full.next) (all_left (mapped whole))).blocks (overflows full) in
        record { says = record { exceeded = x.says.exceeded; few = λ n. nothing_began (few_form (entry_behind count)) (fewer_within (entry_below (fits count))).prefixes c.tokens; place = x.says.place } }

    -- none fits, and yet one is allowed, since none begins here
    none_fits : {done : Unit {0}} → fits count ≡ false → Ok done ≡ allowed_entry levels count c.tokens → Behind count c (one_entry c)
    unfolding reading.table_entry
    none_fits n e = by_eaten_alone (Behind count c) k.Open c levels _
        (λ open_ mid i. let none : levels ≡ 0 = no_level levels count c.tokens n e (next_there (same k.Open) c mid open_ i.passes) in let some : 0 < levels = i.room_left in absurd (omega (arith, none, some)))
        (λ at full. too_deep_here nothing_here fill_entry (omega arith) (nested_too_deep full))
        (λ o. by_expected (Behind count c) (among name_kinds) c _ (λ name mid i. let both : true ≡ false = sym (next_there (among name_kinds) c mid name i) ∙ no_name levels count c.tokens n e o in cc)
        (λ m. refused_here nothing_here fill_entry (omega arith) (misses_in {p = begins_entry} (few_form (entry_behind count)) (fewer_within (entry_below (fits count))) refl refl
        (missing (neither_next (same k.Open) (among name_kinds) c.tokens o (no_name levels count c.tokens n e o))))))

  pub entry_agrees : (count : ℕ) (c : Cursor) → Behind count c (entry levels deeper count c)
  unfolding entry
  entry_agrees count c = go (allowed_entry levels count c.tokens) refl
    where
      allowed : {u : Unit {0}} → Ok u ≡ allowed_entry levels count c.tokens → (b : Bool) → fits count ≡ b → Behind count c (one_entry c)
      allowed e true n = subst (λ B. AgreesWithin entries_too (ref grammar.entry) B levels (λ read. read) (λ read. read) c c (one_entry c)) (all_fits count n) (one_entry_agrees c)
      allowed e false n = none_fits count c n e

      go : (allows : Result (Unit {0}) ReadFault) → allows ≡ allowed_entry levels count c.tokens → Behind count c ((allows, c) >>= λ u. one_entry)
      go (Ok u) e = allowed e (fits count) refl
      go (Err fault) e = record {
        reads = record { answers = not_allowed levels count e };
        copied = subst (λ z. Copied {B = Listed} (ref grammar.entry) (λ read. read) c c (Err z) c) (sym (too_many_entries levels count c.tokens e))
            (record { answers = record { says = copied_before (nothing_here count c).going fill_entry (omega arith) } });
        extends = extends_itself;
      }

-- ---- behind a JOIN

abbrev pub found : Built Entry → Built (Option Entry)
found read = built_to (λ x. Some x) read

fill_join : Filled (grammar.a k.Join) (word (codes "join"))
fill_join = fill_token k.Join (word (codes "join")) refl refl

fill_condition : Filled condition number_one
fill_condition = fill_second (fill_token k.On (word (codes "on")) refl refl) fill_expr

module _ (levels count : ℕ) (c : Cursor) where
  cross_left : is_next (same k.Cross) c.tokens ≡ true
      → ResidualIn entries_too (seq cross_words (ref grammar.entry)) (few_form (seq cross_words (entry_behind count))) levels c joins (few_form (joins_behind count)) levels c (λ p. t.cross_joined p.1)
  cross_left n = mapped_to (seq cross_words (entry_behind count)) (mapped_to (skip_then cross_words (entry_behind count))
      (other_to (cross_of (entry_behind count)) whole_in (on_below (fits count)) refl (absent_where (same k.Cross) (ahead left_factored grammar.join_on) refl c.tokens n)))

  on_left : is_next (same k.Cross) c.tokens ≡ false
      → ResidualIn entries_too (seq on_words (seq (ref grammar.entry) condition)) (few_form (seq on_words (seq (entry_behind count) condition))) levels c joins (few_form (joins_behind count)) levels c
      (λ p. t.joined_on p.1.0 p.1.1)
  on_left n = mapped_to (seq on_words (seq (entry_behind count) condition)) (mapped_to (skip_then on_words (seq (entry_behind count) condition))
      (one_to (on_of (entry_behind count)) whole_in (cross_below (fits count)) refl (absent_unless (same k.Cross) (ahead left_factored grammar.cross_join) refl c.tokens n)))

module _ (levels : ℕ) (deeper : Deeper) (d : DeeperAgrees levels deeper) (count : ℕ) (c : Cursor) where
  abbrev pub Joins : Reading (Option Entry) → Type 0
  Joins r = AgreesWithin entries_too joins (few_form (joins_behind count)) levels found found c c r

  crossed_agrees : (cross : Lexeme) (mid : Cursor) → Passes (same k.Cross) c cross mid
      → Joins (expected (same k.Join) mid >>= λ join c. entry levels deeper count c >>= λ listed. done (Some (entry_of true None listed)))
  crossed_agrees cross mid i =
      let outer = cross_left levels count c (next_there (same k.Cross) c mid cross i) in
      let words = behind (whole {told = entries_too} {N = cross_words} {e = levels} {start = c}) refl i in
      needs_at _ (inside (first_to (itself cross_words) (entry_below (fits count)) outer refl fill_entry) (all_left words)) fill_join (omega (arith, (alike_passes i).copies))
      (λ join m p.
      let alike = alike_passes i then alike_passes p in
      let entry_left = second_to (itself cross_words) (entry_below (fits count)) outer refl (steps.takes words.left (took_token levels p)) (extends_passes i ⨟ extends_passes p) in
      then_part (entry levels deeper count m) _ (entry_agrees levels deeper d count m) (all_left entry_left) (λ v. omega (arith, alike.copies))
      (λ listed z u. let x = u.reads.answers in
      built entry_left x.read x.takes u.extends (built_map (λ e. Some e) (built_map (entry_of true None) (built_from alike x.builds)))))

  abbrev behind_join : Reader (Option Entry)
  behind_join c =
      expected (same k.Join) c >>= λ join c. entry levels deeper count c >>= λ listed c. expected (same k.On) c >>= λ word c. reading.expr levels deeper c >>= λ on. done (Some (entry_of true (Some on) listed))

  both_below : Below of_factored (seq (entry_behind count) condition) (seq (ref grammar.entry) condition)
  both_below = below_seq (entry_below (fits count)) (itself condition)

  -- behind INNER, if it stands there
  behind_inner : is_next (same k.Cross) c.tokens ≡ false → (inner : Option Lexeme) (mid : Cursor) → Takes (optional (grammar.a k.Inner)) levels c.tokens inner mid.tokens → Alike c mid → Extends c mid
      → Joins (behind_join mid)
  behind_inner n inner mid took alike x =
      let outer = on_left levels count c n in
      let words = behind_taken (whole {told = entries_too} {N = on_words} {e = levels} {start = c}) refl took x in
      needs_at _
      (inside (first_to (itself on_words) both_below outer refl (fill_seq fill_entry fill_condition)) (all_left words))
      fill_join (omega (arith, alike.copies))
      (λ join m p.
      let alike = alike then alike_passes p in
      let entry_left = second_to (itself on_words) both_below outer refl (steps.takes words.left (took_token levels p)) (x ⨟ extends_passes p) in
      then_part (entry levels deeper count m) _ (entry_agrees levels deeper d count m)
      (first_to (entry_below (fits count)) (itself condition) entry_left refl fill_condition) (λ v. omega (arith, alike.copies))
      (λ listed z u. let entry = u.reads.answers in
      let condition_left = mapped (second_to (entry_below (fits count)) (itself condition) entry_left refl entry.takes u.extends) in
      needs_at _ (first_of condition_left refl fill_expr) (fill_token k.On (word (codes "on")) refl refl) (omega (arith, alike.copies, entry.builds.copies))
      (λ word y q.
      let expr_left = behind_taken condition_left refl (took_token levels q) (extends_passes q) in
      then_part (reading.expr levels deeper y) _ (expr_agrees levels deeper d y) (all_left expr_left) (λ v. omega (arith, alike.copies, entry.builds.copies, (alike_passes q).copies))
      (λ on w v. let expr = v.reads.answers in
      built expr_left expr.read expr.takes v.extends
      (built_map (λ e. Some e) (built_map (λ p. entry_of true (Some p.1) p.0) (built_both (built_until (built_from alike entry.builds) (alike_passes q)) expr.builds)))))))

  -- an entry behind a JOIN, or none
  pub by_join : (P : Reading (Option Entry) → Type 0) → ((r : Reading (Option Entry)) → is_next join_kinds c.tokens ≡ true → Joins r → P r) → (is_next join_kinds c.tokens ≡ false → P (Ok None, c))
      → P (joined_entry levels deeper count c)
  unfolding accepted joined_entry joined_on
  by_join P there absent =
      by_eaten P (same k.Cross) c _ (λ cross mid i. there _ (either_next (same k.Cross) (among (k.Inner ∷ k.Join ∷ [])) c.tokens (next_there (same k.Cross) c mid cross i)) (crossed_agrees cross mid i))
      (λ n. by_next P (among (k.Inner ∷ k.Join ∷ [])) c
      (λ i. there _ (or_next (same k.Cross) (among (k.Inner ∷ k.Join ∷ [])) c.tokens i) (by_eaten (λ (r : Reading Bool). Joins (r >>= λ inner. behind_join)) (same k.Inner) c (λ found. done (t.is_given found))
      (λ inner mid q. behind_inner n (Some inner) mid (steps.takes (some_left steps.whole refl q (starts q)) (took_token levels q)) (alike_passes q) (extends_passes q))
      (λ m. behind_inner n None c (none_taken {p = same k.Inner} levels {a = c} {b = c} refl refl (record { still = refl; not_next = m })) (record { numbers = refl; copies = refl }) extends_itself)))
      (λ i. absent (neither_next (same k.Cross) (among (k.Inner ∷ k.Join ∷ [])) c.tokens n i)))
