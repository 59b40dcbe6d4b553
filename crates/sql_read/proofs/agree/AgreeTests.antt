-- The readers of tests of values agree with the left-factored grammar.
use Rattle.std.proofs.Common.{Ok, ◌≡◌, ℕ, ◌+◌, false, ◌∷◌, codes, Option, Some, None, refl, ap, inl, arith, [], Bool, List, inr, sym, subst, ◌≤◌, ◌<◌, Err}
use Rattle.grammar.specs.Form.{ref}
use Rattle.grammar.specs.Productions.{optional}
use Rattle.sql_lex.specs.Lexemes.{Lexeme}
use Rattle.sql_model.specs.declared.tree.Expr.{Expr}
use Rattle.sql_model.specs.declared.tree.Expr.TheVariants as an_expr
use Rattle.sql_read.specs.declared.reading.test.Sought.{Sought}
use Rattle.sql_cursor.specs.declared.tokens.counting.Mark.{Mark}
use Rattle.sql_cursor.specs.Cursor.{Cursor}
use Rattle.sql_cursor.specs.Eating.{IsMark, Passes, is_next, Copies}
use Rattle.sql_read.specs.Reads.{Builds, IsBuilt, Takes}
use Rattle.sql_read.specs.Reading.{Deeper, bounds, by_word, closed, exists_of, opened, rest, tested_value, test_kinds, tested, value}
use Rattle.sql_cursor.specs.Readers.{◌>>=◌, Reading, done, expected, mark, weight_since}
use Rattle.sql_grammar.specs.declared.kinds.Kind.TheVariants as k
use Rattle.sql_grammar.specs.Kinds.{among, comparisons, kind_of, same}
use Rattle.sql_grammar.specs.Numbering.{Built, both, copying, mapped as mapped_built}
use Rattle.sql_grammar.specs.QueryGrammar as grammar
use Rattle.sql_grammar.specs.QueryGrammar.{The, parens}
use Rattle.sql_grammar.specs.FactoredQueries.{between_values, in_factored}
use Rattle.sql_grammar.specs.FactoredQueries as factored
use Rattle.sql_grammar.specs.QueryTrees as t
use Rattle.sql_grammar.specs.QueryTailTrees as tails
use Rattle.sql_grammar.proofs.copies.CopySteps.{fill_high, between_too_much}
use Rattle.sql_grammar.proofs.copies.QueryFillings.{fill_absent, fill_in_inner, fill_query, fill_seq, fill_token, fill_value, word as spelled}
use Rattle.sql_read.proofs.steps.AgreeDeeper.{DeeperAgrees}
use Rattle.sql_read.proofs.steps.AgreeSteps.{Paid, by_copied, closes, extends_copied, first_next, none_here, opens_parens, then_counted, there, tokens_copied, too_many_copies}
use Rattle.sql_read.proofs.agree.AgreePrimaries.{value_agrees}
use Rattle.sql_read.proofs.steps.Agreeing.{Agrees, Residual, all_left, behind, built, by_eaten, by_next, by_token, ends_in, makes, mapped, needs, other_unless, production, second, then_part, then_rest, whole}
use Rattle.sql_cursor.proofs.code.Extending.{extends_itself}
use Rattle.sql_read.proofs.steps.ReadPassing.{Alike, ◌then◌, alike_passes, alike_within, built_counted, built_from, built_until}
use Rattle.sql_read.proofs.steps.ReadSteps as steps
use Rattle.sql_read.proofs.steps.ReadSteps.{built_both, built_map, none_taken, starts, blocks, refuses}
use Rattle.sql_read.proofs.parts.ReadBegins.{rest_begins}
use Rattle.sql_grammar.specs.declared.kinds.Kind.{Kind}
use Rattle.sql_read.proofs.parts.ReadChains.{built_by}
use Rattle.grammar.specs.Completions.{Overspends}
use Rattle.sql_cursor.specs.declared.fault.ReadFault.{ReadFault}
use Rattle.sql_read.specs.Copied.{CopiesTooMuch}
use Rattle.sql_grammar.specs.QueryCopies.{copies_nothing, most_copies}

-- ---- what is built

built_copying : {A : Type 0} {built : Built A} {value : A} (weight : ℕ) {start a b : Cursor} → Builds built start value a → Paid weight a b
    → Builds (copying weight built) start value b
built_copying {built = built} {value = value} weight {start = start} {a = a} b q =
    subst (λ z. Builds (copying weight built) start value z) (sym q) (record { numbers = b.numbers; copies = omega (arith, b.copies) })

built_copied_first : {A B : Type 0} (one : Built A) (two : Built B) (weight : ℕ) {value : A × B} {a b : Cursor} → Builds (both (copying weight one) two) a value b
    → Builds (copying weight (both one two)) a value b
built_copied_first one two weight b = record { numbers = b.numbers; copies = omega (arith, b.copies) }

-- ---- BETWEEN

built_between : {before low high : Built Expr} {began a b c g h : Cursor} {x y z : Expr} {p : Kind → Bool} {sign : Lexeme} (count weight : ℕ) → weight ≡ t.weight (before, count)
    → Builds before began x a → Paid weight a b → Builds low b y c → Passes p c sign g → Builds high g z h
    → Builds (t.between None low high (before, count)) began (t.bounds x y z) h
built_between {before = before} {low = low} {high = high} count weight e b q u s v =
    built_by (ap (λ w. copying w (mapped_built (λ p. t.bounds p.0 p.1.0 p.1.1) (both before (both low high)))) (sym e))
    (built_map (λ p. t.bounds p.0 p.1.0 p.1.1) (built_copied_first before (both low high) weight (built_both (built_copying weight b q) (built_both u (steps.behind s v)))))

-- ---- NOT before a test

in_negates : (sign word : Lexeme) (inside : tails.Inside (List (Built Expr))) (left : t.Left)
    → tails.in_inside (Some sign) word inside left ≡ mapped_built (t.negated (Some sign)) (tails.in_inside None word inside left)
in_negates sign word (inl q) left = refl
in_negates sign word (inr (inl (p, []))) left = refl
in_negates sign word (inr (inl (p, next ∷ others))) left = refl
in_negates sign word (inr (inr p)) left = refl

abbrev Negates : (Option Lexeme → t.Left → Built Expr) → Lexeme → t.Left → Type 0
Negates f sign left = f (Some sign) left ≡ mapped_built (t.negated (Some sign)) (f None left)

negates : (room : Option ℕ) (ts : List Lexeme) (f : Option Lexeme → t.Left → Built Expr) (sign : Lexeme) (left : t.Left) → (in_factored room factored.by_word).spells ts f → Negates f sign left
negates room ts f sign left (inl (u, s, e)) = subst (λ z. Negates z sign left) (sym e) (in_negates sign u.0 u.1 left)
negates room ts f sign left (inr (inl (u, s, e))) = subst (λ z. Negates z sign left) (sym e) refl
negates room ts f sign left (inr (inr (u, s, e))) = subst (λ z. Negates z sign left) (sym e) refl

-- what NOT makes of a test
built_negated : {d : ℕ} {here rest : List Lexeme} {f : Option Lexeme → t.Left → Built Expr} {x : Expr} {began a : Cursor} (sign : Lexeme) (left : t.Left) → Takes factored.by_word d here f rest
    → Builds (f None left) began x a → Builds (f (Some sign) left) began (an_expr.Not x (t.place_of x)) a
built_negated {d = d} {f = f} sign left s b = built_by (negates (Some d) s.took.taken f sign left s.took.spelled) (built_map (t.negated (Some sign)) b)

-- ---- what is copied

-- a NOT copies nothing
in_cost : (not_word : Option Lexeme) (word : Lexeme) (inside : tails.Inside (List (Built Expr))) (left : t.Left) → (tails.in_inside not_word word inside left).copies ≡ (tails.in_inside None word inside left).copies
in_cost None word inside left = refl
in_cost (Some sign) word inside left = ap (λ z. z.copies) (in_negates sign word inside left)

-- ---- where the limit on copies is passed

abbrev Over : Option Lexeme → t.Left → Cursor → List Lexeme → List Lexeme → Type 0
Over not_word left began here rest = Overspends copies_nothing (in_factored None factored.by_word) (λ f. (f not_word left).copies) most_copies began.copies here rest

module _ {at now : Cursor} {sign : Lexeme} (q : Passes (same k.Between) at sign now) where
  between_over : (not_word : Option Lexeme) {before : Built Expr} {value : Expr} {began : Cursor} (count weight : ℕ) {after : Cursor} {fault : ReadFault} → weight ≡ t.weight (before, count)
      → Builds before began value now → Copies weight now (Err fault) after → CopiesTooMuch factored.by_word (λ read. read not_word (before, count)) began at after
  between_over not_word {before = before} {began = began} count weight {after = after} e b c = record {
    token = sign;
    overspends =
        subst (λ z. Over not_word (before, count) began z (sign ∷ after.tokens)) (sym q.stood)
        (subst (λ z. Over not_word (before, count) began (sign ∷ now.tokens) (sign ∷ z.tokens)) (sym c.0)
        (between_too_much not_word (before, count) most_copies began.copies (sign ∷ now.tokens) now.tokens sign refl q.of_kind within passed));
  }
    where
      within : began.copies + before.copies ≤ most_copies
      within = omega (arith, b.copies, c.3)

      passed : most_copies < (began.copies + before.copies) + t.weight (before, count)
      passed = omega (arith, b.copies, c.2, e)

module _ (levels : ℕ) (deeper : Deeper) (d : DeeperAgrees levels deeper) where
  -- ---- IN, BETWEEN and LIKE

  -- behind a NOT or none, a test of what was built from where it began
  module _ (negating : Option Lexeme) (before : Built Expr) (count weight : ℕ) (weighs : weight ≡ t.weight (before, count)) (began : Cursor) where
    abbrev ByWord : Cursor → Reading Expr → Type 0
    ByWord at r = Agrees factored.by_word levels (λ read. read None (before, count)) (λ read. read negating (before, count)) began at r

    module _ (now : Cursor) (left : Expr) (b : Builds before began left now) where
      abbrev sought : Lexeme → Sought
      sought word = record { value = left; weight = weight; in_at = word.start }

      -- behind IN
      in_agrees : (at : Cursor) (word : Lexeme) → Passes (same k.In) at word now → ByWord at (opened levels deeper now >>= λ open_. closed levels deeper (deeper.in_inner (sought word)) (λ x. x))
      in_agrees at word i =
          opens_parens (behind (mapped (by_token (whole {start = at}) refl i (inl (starts i)))) refl i) refl refl fill_in_inner (omega (arith, b.copies))
          (λ open_ mid j m. closes (deeper.in_inner (sought word) mid) (λ x. x) m refl (λ v. ap (λ z. began.copies + z) (in_cost negating word v (before, count))) (λ v x end c. c)
          ((d j.room_left).in_inner (sought word) word before count began mid refl weighs (built_until b (alike_within j))))

      -- the higher bound, behind AND
      high_agrees : (at low_at mid last : Cursor) (low : Expr) (paid : Paid weight now low_at) (u : Agrees (ref grammar.value) levels (λ read. read) (λ read. read) low_at low_at (Ok low, mid)) (and_ : Lexeme) → Passes
          (same k.And) mid and_ last
          → Residual (ref grammar.value) levels last factored.by_word levels at (λ v word left. t.between word u.reads.answers.read v left) → ByWord at (value levels deeper last >>= λ high. done (t.bounds left low high))
      high_agrees at low_at mid last low paid u and_ i l = makes (value levels deeper last) (λ high. t.bounds left low high) l
          (λ v. omega (arith, b.copies, weighs, ap (λ z. z.copies) paid, u.reads.answers.builds.copies, ap (λ z. z.copies) i.moved))
          (λ v high end c. built_between count weight weighs b paid u.reads.answers.builds i c) (value_agrees levels deeper d last)

      -- behind BETWEEN
      pub bounds_agrees : (at : Cursor) (word : Lexeme) → is_next (same k.In) at.tokens ≡ false → Passes (same k.Between) at word now → ByWord at (bounds levels deeper weight left now)
      unfolding bounds
      bounds_agrees at word n i = by_copied (ByWord at) now weight _ copied
          (λ over. record {
            reads = record { answers = steps.refuses (steps.blocks l.left) (too_many_copies weight now now over) };
            copied = record { answers = record { says = between_over i negating count weight weighs b over } };
            extends = l.extends;
          })
        where
          l : Residual between_values levels now factored.by_word levels at (λ v word left. t.between word v.0 v.1 left)
          l = behind (mapped (mapped (by_token (other_unless (same k.In) (whole {start = at}) refl refl n) refl i (inl (starts i))))) refl i

          copied : (mid : Cursor) → Paid weight now mid → ByWord at (value levels deeper mid >>= λ low c. expected (same k.And) c >>= λ and_ c. value levels deeper c >>= λ high. done (t.bounds left low high))
          copied mid paid =
              let m = there l (tokens_copied weight now mid paid) (extends_copied weight paid) in
              then_rest (value levels deeper mid) (value_agrees levels deeper d mid)
              (λ low next u. let o = mapped (second m refl u) in
              needs o refl (fill_seq (fill_token k.And (spelled (codes "and")) refl refl) fill_value) (omega (arith, b.copies, weighs, ap (λ z. z.copies) paid, u.reads.answers.builds.copies))
              (λ and_ last j. high_agrees at mid next last low paid u and_ j (behind o refl j)))
              m refl fill_high (λ v. omega (arith, b.copies, weighs, ap (λ z. z.copies) paid))

      -- LIKE stands here, or no test by a word
      like_agrees : is_next (same k.In) now.tokens ≡ false → is_next (same k.Between) now.tokens ≡ false
          → ByWord now (expected (same k.Like) now >>= λ word c. value levels deeper c >>= λ pattern_. done (an_expr.Pred 2 (left ∷ pattern_ ∷ []) (t.place_of left)))
      like_agrees n m =
          let l = mapped (mapped (other_unless (same k.Between) (other_unless (same k.In) (whole {start = now}) refl refl n) refl refl m)) in
          needs l refl (fill_seq (fill_token k.Like (spelled (codes "like")) refl refl) fill_value) (omega (arith, b.copies))
          (λ word mid i. makes (value levels deeper mid) (λ pattern_. an_expr.Pred 2 (left ∷ pattern_ ∷ []) (t.place_of left)) (behind l refl i) (λ v. omega (arith, b.copies, ap (λ z. z.copies) i.moved))
          (λ v x end c. built_map (λ p. an_expr.Pred 2 (p.0 ∷ p.1 ∷ []) (t.place_of p.0)) (built_both b (steps.behind i c))) (value_agrees levels deeper d mid))

    pub by_word_agrees : (now : Cursor) (left : Expr) → Builds before began left now → ByWord now (by_word levels deeper weight left now)
    unfolding by_word
    by_word_agrees now left b =
        by_eaten (ByWord now) (same k.In) now _ (λ word mid i. in_agrees mid left (built_until b (alike_passes i)) now word i)
        (λ n. by_eaten (ByWord now) (same k.Between) now _ (λ word mid i. bounds_agrees mid left (built_until b (alike_passes i)) now word n i) (λ m. like_agrees now left b n m))

  module _ (before : Built Expr) (count weight : ℕ) (weighs : weight ≡ t.weight (before, count)) (began now : Cursor) (left : Expr) (b : Builds before began left now) where
    abbrev Rest : Reading Expr → Type 0
    Rest r = Agrees (ref grammar.rest) levels (λ rest. rest (before, count)) (λ rest. rest (before, count)) began now r

    pub rest_agrees : Rest (rest levels deeper weight left now)
    unfolding rest
    rest_agrees =
        let l = production grammar.rest (whole {start = now}) in
        by_eaten Rest (among comparisons) now _
        (λ sign mid i. makes (value levels deeper mid) (λ right. t.compared (kind_of sign) left right) (behind (mapped (by_token l refl i (inl (starts i)))) refl i)
        (λ v. omega (arith, b.copies, ap (λ z. z.copies) i.moved)) (λ v x end c. built_map (λ p. t.compared (kind_of sign) p.0 p.1) (built_both b (steps.behind i c))) (value_agrees levels deeper d mid))
        (λ n. let l = other_unless (among comparisons) l refl refl n in by_eaten Rest (same k.Not) now _
        (λ word mid i. let l = behind (mapped (by_token l refl i (inl (starts i)))) refl i in
        then_part (by_word levels deeper weight left mid) _ (by_word_agrees (Some word) before count weight weighs began mid left (built_until b (alike_passes i))) (all_left l) (λ v. refl)
        (λ x end c. let read = c.reads.answers in built l read.read read.takes c.extends (built_negated word (before, count) read.takes read.builds)))
        (λ m. ends_in (by_word levels deeper weight left now) (mapped (other_unless (same k.Not) l refl refl m)) (λ v. refl) (by_word_agrees None before count weight weighs began now left b)))

  module _ (before : Built Expr) (count : ℕ) (began now : Cursor) (start : Mark) (left : Expr) (marked : IsMark start began) (b : IsBuilt before count began left now) where
    abbrev Tested : Reading Expr → Type 0
    Tested r = Agrees (optional (ref grammar.rest)) levels (λ rest. t.tested (before, count) rest) (λ rest. t.tested (before, count) rest) began now r

    weighs_so : weight_since start now ≡ t.weight (before, count)
    weighs_so = omega (arith, marked.0, marked.1, b.counted, b.builds.copies)

    pub tested_agrees : Tested (tested levels deeper start left now)
    unfolding tested
    tested_agrees = by_next Tested (among test_kinds) now
        (λ n. ends_in (rest levels deeper (weight_since start now) left now) (mapped (first_next (among test_kinds) (whole {start = now}) refl (λ u j. rest_begins u j) n)) (λ v. refl)
        (rest_agrees before count (weight_since start now) weighs_so began now left b.builds))
        (λ n. built (whole {start = now}) None (none_taken levels refl refl (none_here (among test_kinds) now n)) extends_itself b.builds)

  -- ( query ) behind EXISTS
  pub exists_agrees : {N : The (Built Expr)} {start now : Cursor} (word : Lexeme) → Residual (parens (ref grammar.query)) levels now N levels start (λ q. t.exists (word, q)) → Alike start now
      → Agrees N levels (λ read. read) (λ read. read) start start (exists_of levels deeper word now)
  exists_agrees word l alike =
      opens_parens l refl refl fill_query (omega arith)
      (λ open_ mid i m. closes (deeper.query mid) (λ q. an_expr.Exists q word.start) m refl (λ v. omega (arith, alike.copies, ap (λ z. z.copies) i.passes.moved))
      (λ v q end c. built_map (λ q. an_expr.Exists q word.start) (built_from (alike then alike_within i) c)) ((d i.room_left).query mid))

  pub test_agrees : (c : Cursor) → Agrees (ref grammar.test) levels (λ read. read) (λ read. read) c c (tested_value levels deeper c)
  unfolding tested_value
  test_agrees c =
      let l = production grammar.test (whole {start = c}) in
      by_eaten (λ r. Agrees (ref grammar.test) levels (λ read. read) (λ read. read) c c r) (same k.Exists) c _
      (λ word mid i. exists_agrees word (behind (mapped (by_token l refl i (inl (starts i)))) refl i) (alike_passes i))
      (λ n. then_counted (value levels deeper c) (λ v. v) (value_agrees levels deeper d c) (mapped (other_unless (same k.Exists) l refl refl n)) refl (fill_absent (ref grammar.rest)) (λ u count. refl) (λ v. refl)
      (λ left mid t l. ends_in (tested levels deeper (mark c) left mid) l (λ v. refl) (tested_agrees t.reads.answers.read _ c mid (mark c) left (refl, refl) (built_counted t.extends t.reads.answers.builds))))
