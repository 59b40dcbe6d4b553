-- The readers of FROM agree with the left-factored grammar: an item of it, as part of the one list of all entries of a block, and all items.
use Rattle.std.proofs.Common.{◌≡◌, ℕ, zero, suc, ◌+◌, ◌-◌, ◌<◌, Bool, true, false, List, [], ◌∷◌, ◌++◌, length, length-append, Option, Some, None, Ok, Err, inl, inr, refl, sym, ◌∙◌, ap, subst, append_assoc, arith}
use Rattle.std.proofs.lemmas.Bool.{false_from_ne_true, ltb-true}
use Rattle.std.proofs.lemmas.List.{append-nil}
use Rattle.grammar.specs.Form.{ref, seq, star}
use Rattle.grammar.specs.Language.{Language}
use Rattle.grammar.specs.Productions.{skip_then}
use Rattle.grammar.proofs.readers.Predictions.{ahead}
use Rattle.sql_lex.specs.Lexemes.{Lexeme}
use Rattle.sql_model.specs.declared.tree.Entry.{Entry}
use Rattle.sql_cursor.specs.declared.fault.ReadFault.{ReadFault}
use Rattle.sql_cursor.specs.Cursor.{Cursor}
use Rattle.sql_cursor.specs.Eating.{PassesWithin, is_next}
use Rattle.sql_read.specs.Reads.{Builds, GivesWithin, TakesWithin, depth_alone, entries_too, few_form, Told, RefusesWithin}
use Rattle.sql_read.specs.Reading.{Deeper, comma, entries, entry, from, joined, next_from}
use Rattle.sql_cursor.specs.Readers.{Reading, ◌>>=◌, done, on}
use Rattle.sql_grammar.specs.declared.kinds.Kind.TheVariants as k
use Rattle.sql_grammar.specs.declared.listed.Listed.{Listed}
use Rattle.sql_grammar.specs.Kinds.{same}
use Rattle.sql_grammar.specs.Numbering.{Built, Numbers, both, each, mapped as built_mapped, plain}
use Rattle.sql_grammar.specs.QueryEntries.{few_froms, most_entries, most_further}
use Rattle.sql_grammar.specs.QueryGrammar as grammar
use Rattle.sql_grammar.specs.QueryGrammar.{The, listed, most_separators}
use Rattle.sql_grammar.specs.QueryTrees as t
use Rattle.sql_grammar.specs.QueryTrees.{all_entries, appended, concatenated, entry_of}
use Rattle.sql_grammar.proofs.copies.QueryFillings.{fill_none}
use Rattle.sql_grammar.proofs.queries.QueryTable.{left_factored}
use Rattle.sql_read.proofs.agree.AgreeEntries.{found, entry_agrees, by_join}
use Rattle.sql_read.proofs.steps.AgreeLoops.{IsSame, built_same, next_behind, next_of, repeats, skipped_word, so}
use Rattle.sql_read.proofs.steps.AgreeSteps.{by_eaten_alone}
use Rattle.sql_read.proofs.steps.Agreeing.{AgreesWithin, ResidualIn, behind_taken, built, by_read, first_of, mapped, production, second, stopped, whole}
use Rattle.sql_read.proofs.parts.ReadChains.{each_more, each_more_copies}
use Rattle.sql_read.proofs.parts.ReadEntryLists.{EntryAwaited, FurtherLeft, at_start, behind_comma, entry_behind, entry_halts, entry_read, fits, fitting, join_begins, join_kinds, joins, joins_behind, joins_of, list_begins, list_ended}
use Rattle.sql_read.proofs.parts.ReadFewEntries.{ListRead, ListRefused, ReadsList, joined_taken, joining_halts, list_given, list_refused, list_stopped, no_further}
use Rattle.sql_read.proofs.steps.ReadForks.{unmapped}
use Rattle.sql_read.proofs.steps.ReadLoops.{begins_skip, repeated_end}
use Rattle.sql_read.proofs.steps.ReadPassing.{alike_within, built_until}
use Rattle.grammar.proofs.readers.Residuals.{residual_whole}
use Rattle.sql_read.proofs.steps.ReadSteps.{built_both, built_map, halts_of, plain_here, absent_unless, refuses_less}
use Rattle.sql_read.proofs.steps.AgreeDeeper.{DeeperAgrees}
use Rattle.sql_grammar.specs.FactoredQueries.{in_factored}

module _ {A : Type 0} {f : The A} {B C : Language Lexeme A} {d : ℕ} where
  taken_alone : {told : Told} {here rest : List Lexeme} {v : A} → TakesWithin told f B d here v rest → TakesWithin depth_alone f C d here v rest
  taken_alone t = record { took = t.took; few = λ n. absurd n }

  refused_alone : (a b : Cursor) (fault : ReadFault) → RefusesWithin entries_too f B d a fault b → RefusesWithin depth_alone f C d a fault b
  refused_alone a b fault t =
      refuses_less entries_too {less = depth_alone} {f = f} {B = B} {d = d} {N = f} {NB = C} {e = d} (λ n. absurd n) (λ n. n) (λ n. n) a a b fault
      (record { halts = halts_of (residual_whole (in_factored None f) (in_factored (Some d) f) a.tokens); few = λ n. absurd n }) t

-- what is told of the limit on depth and length alone
alone : {V A : Type 0} {f : The V} {B C : Language Lexeme V} {d : ℕ} {k w : V → Built A} {began a : Cursor} {r : Reading A} → AgreesWithin entries_too f B d k w began a r → AgreesWithin depth_alone f C d k w began a r
alone {r = (Ok y, mid)} u = let g = u.reads.answers in record { reads = record { answers = record { read = g.read; takes = taken_alone g.takes; builds = g.builds } }; copied = record { answers = tt }; extends = u.extends }
alone {a = a} {r = (Err fault, mid)} u = record { reads = record { answers = refused_alone a mid fault u.reads.answers }; copied = u.copied; extends = u.extends }

-- What the reading of an item of FROM comes to: on its own, and as part of the list of all entries that began here.
pub record AgreesFrom (levels : ℕ) (built : Built (List Entry)) (start before : Cursor) (list : List Lexeme) (r : Reading (List Entry)) : Type 0 where
  pub agrees : AgreesWithin depth_alone (ref grammar.from) (few_form (ref grammar.from)) levels (λ read. appended built read) (λ read. appended built read) start before r
  pub few : ReadsList list r.0 r.1.tokens

no_joins : (ts : List Lexeme) (v : Built Entry) → (few_form (joins_of (fitting false))).spells ts v → ⊥
unfolding few_form
no_joins ts v (inl (u, (p, (x, y, i, c, (x1, y1, i1, s, q)), j), l)) = let none : false ≡ true = s.1.1 in cc
no_joins ts v (inr (u, (p, (x, y, i, c, s), j), l)) = let none : false ≡ true = s.1.1 in cc

-- behind as many as may be none is found
none_found : (count : ℕ) {levels : ℕ} {a b : Cursor} {value : Option Entry} → fits count ≡ false → GivesWithin entries_too joins (few_form (joins_behind count)) levels found a a value b → ⊥
none_found count n g =
    let s = (g.takes.few tt).spelled in no_joins _ g.read (subst (λ (b : Bool). (few_form (joins_of (fitting b))).spells (g.takes.few tt).taken g.read) n s)

full : (count : ℕ) → 0 ≡ most_entries - count → fits count ≡ false
full count e = false_from_ne_true (fits count) (λ n. let less : count < most_entries = ltb-true count most_entries n in omega (arith, less, e))

one_longer : (es : List Entry) (value : Entry) → length es + 1 ≡ length (es ++ value ∷ [])
one_longer es value = omega (arith, length-append es (value ∷ []))

-- ---- what is built

one_some : (x y : Entry) → Some x ≡ Some y → x ≡ y
one_some x y e = cc

-- of one more entry, and of one more item
joined_same : (built : Built (List Entry)) (first : Built Listed) (some : List (Built Entry)) (x : Built Entry)
    → IsSame (appended built (t.entries first (some ++ x ∷ []))) (built_mapped (λ p. p.0 ++ p.1 ∷ []) (both (appended built (t.entries first some)) x))
joined_same built first some x = record { numbers = numbers; copies = omega (arith, each_more_copies some x) }
  where
    numbers : (n : Numbers) → (appended built (t.entries first (some ++ x ∷ []))).build n ≡ (built_mapped (λ p. p.0 ++ p.1 ∷ []) (both (appended built (t.entries first some)) x)).build n
    numbers n =
        let p = built.build n in
        let q = first.build p.1 in
        let d = (each some).build q.1 in
        let s = x.build d.1 in
        ap (λ (z : List Entry × Numbers). (p.0 ++ (entry_of false None q.0 ∷ z.0), z.1)) (each_more some x q.1)
        ∙ ap (λ (z : List Entry). (z, s.1)) (sym (append_assoc p.0 (entry_of false None q.0 ∷ d.0) (s.0 ∷ [])))

concatenated_more : {X : Type 0} (xs : List (List X)) (y : List X) → concatenated (xs ++ y ∷ []) ≡ concatenated xs ++ y
concatenated_more [] y = append-nil y
concatenated_more (x ∷ xs) y = ap (λ z. x ++ z) (concatenated_more xs y) ∙ sym (append_assoc x (concatenated xs) y)

listed_same : (first : Built (List Entry)) (some : List (Built (List Entry))) (x : Built (List Entry)) → IsSame (all_entries (first, some ++ x ∷ [])) (appended (all_entries (first, some)) x)
listed_same first some x = record {
  numbers = λ n. let p = (each (first ∷ some)).build n in let w = x.build p.1 in
      ap (λ (z : List (List Entry) × Numbers). (concatenated z.0, z.1)) (each_more (first ∷ some) x n) ∙ ap (λ (z : List Entry). (z, w.1)) (concatenated_more p.0 w.0);
  copies = omega (arith, each_more_copies some x);
}

-- the first item
alone_same : (x : Built (List Entry)) → IsSame (all_entries (x, [])) (appended (plain []) x)
alone_same x = record { numbers = λ n. let q = x.build n in ap (λ (z : List Entry). (z, q.1)) (append-nil q.0); copies = omega arith }

module _ (levels : ℕ) (deeper : Deeper) (d : DeeperAgrees levels deeper) where
  -- ---- an item

  module _ (built_before : Built (List Entry)) (start begun : Cursor) (list : List Lexeme) where
    abbrev From : Reading (List Entry) → Type 0
    From r = AgreesFrom levels built_before start begun list r

    -- The first of its entries and some more were read.
    module _ (first : Built Listed) where
      record Joining (some : List (Built Entry)) (es : List Entry) (now : Cursor) : Type 0 where
        residual : ResidualIn depth_alone (star None joins) (few_form (star None joins)) levels now (ref grammar.from) (few_form (ref grammar.from)) levels begun (λ js. t.entries first (some ++ js))
        builds : Builds (appended built_before (t.entries first some)) start es now
        further : FurtherLeft (length es) list now.tokens

      module _ {some : List (Built Entry)} {es : List Entry} {now : Cursor} (l : Joining some es now) where
        join_stopped : (fault : ReadFault) (mid : Cursor) → is_next join_kinds now.tokens ≡ true
            → AgreesWithin entries_too joins (few_form (joins_behind (length es))) levels found found now now (Err fault, mid) → From (Err fault, mid)
        join_stopped fault mid n u = record {
          agrees = stopped (next_of None l.residual refl join_kinds join_begins n) (λ v. omega (arith, (joined_same built_before first some v).copies, l.builds.copies)) (alone u);
          few = record { answers = list_stopped list fault (joining_halts l.further n) u.reads.answers };
        }

        none_joined : is_next join_kinds now.tokens ≡ false → From (Ok es, now)
        none_joined n = record {
          agrees = built whole (t.entries first some)
              (subst (λ z. TakesWithin depth_alone (ref grammar.from) (few_form (ref grammar.from)) levels begun.tokens (t.entries first z) now.tokens) (append-nil some)
              (repeated_end l.residual.left refl (absent_unless join_kinds (ahead left_factored joins) refl now.tokens n)))
              l.residual.extends l.builds;
          few = record { answers = record { further = l.further; no_join = n } };
        }

        one_joined : {value : Entry} {mid : Cursor} (u : AgreesWithin entries_too joins (few_form (joins_behind (length es))) levels found found now now (Ok (Some value), mid))
            → Joining (some ++ u.reads.answers.read ∷ []) (es ++ value ∷ []) mid
        one_joined {value = value} {mid = mid} u = let read = u.reads.answers in record {
          residual = so (next_behind None l.residual refl (taken_alone read.takes) u.extends) (λ js. ap (λ z. t.entries first z) (sym (append_assoc some (read.read ∷ []) js)));
          builds = built_same (joined_same built_before first some read.read) (built_map (λ p. p.0 ++ p.1 ∷ []) (built_both l.builds (unmapped {built = read.read} (λ x. Some x) one_some read.builds)));
          further = subst (λ z. FurtherLeft z list mid.tokens) (one_longer es value) (joined_taken l.further read.takes);
        }

      joined_agrees : (more : ℕ) (some : List (Built Entry)) (es : List Entry) (now : Cursor) → more ≡ most_entries - length es → Joining some es now → From (joined levels deeper more es now)
      unfolding joined
      joined_agrees zero some es now m l = by_join levels deeper d (length es) now (λ r. From (r >>= λ next. done es)) (λ r n u. last r n u) (λ q. none_joined l q)
        where
          last : (r : Reading (Option Entry)) → is_next join_kinds now.tokens ≡ true → AgreesWithin entries_too joins (few_form (joins_behind (length es))) levels found found now now r → From (r >>= λ next. done es)
          last (Ok value, mid) n u = absurd (none_found (length es) (full (length es) m) u.reads.answers)
          last (Err fault, mid) n u = join_stopped l fault mid n u
      joined_agrees (suc more) some es now m l = by_join levels deeper d (length es) now (λ r. From (r >>= on (λ next. joined levels deeper more (es ++ next ∷ [])) (done es)))
          (λ r n u. next (joined_agrees more) r n u) (λ q. none_joined l q)
        where
          next : ((some : List (Built Entry)) (es : List Entry) (now : Cursor) → more ≡ most_entries - length es → Joining some es now → From (joined levels deeper more es now))
              → (r : Reading (Option Entry)) → is_next join_kinds now.tokens ≡ true → AgreesWithin entries_too joins (few_form (joins_behind (length es))) levels found found now now r
              → From (r >>= on (λ next. joined levels deeper more (es ++ next ∷ [])) (done es))
          next again (Ok (Some value), mid) n u = again _ (es ++ value ∷ []) mid (omega (arith, m, one_longer es value)) (one_joined l u)
          next again (Ok None, mid) n u = let e : Some (u.reads.answers.read.build now.numbers).0 ≡ None = ap (λ z. z.0) u.reads.answers.builds.numbers in cc
          next again (Err fault, mid) n u = join_stopped l fault mid n u

  pub from_agrees : (built_before : Built (List Entry)) (before : List Entry) (start c : Cursor) (list : List Lexeme) → Builds built_before start before c → EntryAwaited (length before) list c
      → AgreesFrom levels built_before start c list (from levels deeper before c)
  unfolding from
  from_agrees built_before before start c list b awaited =
      by_read (AgreesFrom levels built_before start c list) (AgreesWithin entries_too (ref grammar.entry) (few_form (entry_behind (length before))) levels (λ read. read) (λ read. read) c c)
      (entry levels deeper (length before) c) _ (entry_agrees levels deeper d (length before) c)
      (λ first mid u. let read = u.reads.answers in
      joined_agrees built_before start c list read.read _ [] (before ++ entry_of false None first ∷ []) mid refl (record {
        residual = behind_taken whole_from refl (taken_alone read.takes) u.extends;
        builds = record { numbers = (built_map (λ p. p.0 ++ entry_of false None p.1 ∷ []) (built_both b read.builds)).numbers; copies = omega (arith, b.copies, read.builds.copies) };
        further = subst (λ z. FurtherLeft z list mid.tokens) (one_longer before (entry_of false None first)) (entry_read awaited read.read mid.tokens read.takes);
      }))
      (λ fault mid u. record {
        agrees = stopped (first_of whole_from refl (fill_none None joins)) (λ v. omega (arith, b.copies)) (alone u);
        few = record { answers = list_stopped list fault (entry_halts awaited) u.reads.answers };
      })
    where
      whole_from : ResidualIn depth_alone (seq (ref grammar.entry) (star None joins)) (few_form (seq (ref grammar.entry) (star None joins))) levels c (ref grammar.from) (few_form (ref grammar.from)) levels c (λ p. t.entries p.0 p.1)
      whole_from = mapped (production grammar.from whole)

  -- ---- all items

  abbrev Entries : Cursor → Reading (List Entry) → Type 0
  Entries begun r = AgreesWithin entries_too (listed (ref grammar.from)) (few_form (few_froms most_further)) levels all_entries all_entries begun begun r

  -- the items on their own, and in the one list
  items_stopped : {begun end : Cursor} {fault : ReadFault} → AgreesWithin depth_alone (listed (ref grammar.from)) (few_form (listed (ref grammar.from))) levels all_entries all_entries begun begun (Err fault, end)
      → ListRefused begun.tokens fault end.tokens
      → Entries begun (Err fault, end)
  items_stopped {fault = fault} u few = record { reads = record { answers = list_refused fault u.reads.answers few }; copied = u.copied; extends = u.extends }

  -- so many items were read
  record Items (begun : Cursor) (first : Built (List Entry)) (some : List (Built (List Entry))) (es : List Entry) (now : Cursor) : Type 0 where
    builds : Builds (all_entries (first, some)) begun es now
    few : ListRead (length es) begun.tokens now.tokens

  pub entries_agrees : (c : Cursor) → Entries c (entries levels deeper c)
  unfolding entries
  entries_agrees c =
      by_read (Entries c) (AgreesFrom levels (plain []) c c c.tokens) (from levels deeper [] c) _ (from_agrees (plain []) [] c c c.tokens plain_here (at_start refl refl))
      (λ es mid u. let first = u.agrees.reads.answers in
      repeats mid (ref grammar.from) (λ word x. x) (same k.Comma) (λ others. (first.read, others)) (Entries c) comma (λ room now t mid. PassesWithin (same k.Comma) room now t mid) (λ room now t mid i. skipped_word refl i)
      (λ room now go. by_eaten_alone (Entries c) k.Comma now room go) refl (begins_skip (same k.Comma) (ref grammar.from)) refl (next_from levels deeper) (Items c first.read) (λ some es now i. i.builds.copies)
      (λ some es now i room at q v. items_stopped v (record { says = list_begins i.few.further }))
      (λ some es now i none n takes x.
      record {
        reads = record { answers = list_given _ (record { read = (first.read, some); takes = takes; builds = i.builds }) (list_ended i.few.further (no_further now.tokens n i.few.no_join)) };
        copied = record { answers = tt };
        extends = x;
      })
      (λ some es now i goes room word mid q s again go. by_read (Entries c) (AgreesFrom levels (all_entries (first.read, some)) c mid c.tokens) (from levels deeper es mid) again
      (from_agrees (all_entries (first.read, some)) es c mid c.tokens (built_until i.builds (alike_within q)) (behind_comma now word q.passes i.few.further))
      (λ found end v. let read = v.agrees.reads.answers in go read.read found end read.takes v.agrees.extends (record { builds = built_same (listed_same first.read some read.read) read.builds; few = v.few.answers }))
      (λ fault end v. items_stopped (stopped s (λ x. ap (λ z. c.copies + z) (listed_same first.read some x).copies) v.agrees) v.few.answers))
      most_separators [] es mid (record { builds = built_same (alone_same first.read) first.builds; few = u.few.answers }) (λ e. refl) (second whole refl u.agrees))
      (λ fault end u. items_stopped (stopped (first_of whole refl (fill_none (Some most_separators) (skip_then (grammar.a k.Comma) (ref grammar.from)))) (λ v. omega arith) u.agrees) u.few.answers)
