-- The readers of expressions agree with the left-factored grammar: NOT, AND and OR, what follows a first part, and arguments.
use Rattle.std.proofs.Common.{ℕ, ◌-◌, codes, Option, Some, None, refl, ap, subst, inl, arith, [], ◌+◌, ◌≡◌, ◌∙◌, ◌||◌, Bool, true, false, List, ◌∷◌, Ok, Err, sym}
use Rattle.std.proofs.lemmas.Bool.{false_from_ne_true, or_from}
use Rattle.grammar.specs.Form.{alt, ref, seq}
use Rattle.grammar.specs.Productions.{optional}
use Rattle.sql_lex.specs.Lexemes.{Lexeme}
use Rattle.sql_model.specs.declared.tree.Expr.{Expr}
use Rattle.sql_model.specs.declared.tree.Expr.TheVariants as an_expr
use Rattle.sql_cursor.specs.declared.tokens.counting.Mark.{Mark}
use Rattle.sql_cursor.specs.Cursor.{Cursor}
use Rattle.sql_cursor.specs.Eating.{Extends, IsMark, PassesWithin, is_next}
use Rattle.sql_read.specs.Reads.{Builds, IsBuilt, Takes}
use Rattle.sql_read.specs.Reading as reading
use Rattle.sql_read.specs.Reading.{Deeper, aggregated, ands, argument, conj, expr, expr_kinds, expr_tail, exprs, negated, neg, ors, products, sums, tested_value, tested, term, unary, value}
use Rattle.sql_cursor.specs.Readers.{Reader, Reading, ◌>>=◌, accepted, done, eaten, eaten_within, mark}
use Rattle.sql_grammar.specs.declared.kinds.Kind.TheVariants as k
use Rattle.sql_grammar.specs.Kinds.{among, kind_of, same, every_kind}
use Rattle.sql_grammar.specs.Numbering.{Built, each}
use Rattle.sql_grammar.specs.QueryGrammar as grammar
use Rattle.sql_grammar.specs.QueryTails as further
use Rattle.sql_grammar.specs.QueryGrammar.{The, a, exists, listed, next_and, next_or, next_sum, not_neg, most_operators, most_separators}
use Rattle.sql_grammar.specs.FactoredQueries.{one_argument}
use Rattle.sql_grammar.specs.QueryTrees.{aggregate, and_node, chained, is_given, listed_or_none, not_of, operated, or_node}
use Rattle.sql_grammar.proofs.copies.QueryFillings.{fill_absent, fill_none, fill_other, fill_seq, fill_test, fill_token, Filled, fill_map, fill_neg, fill_nest, fill_one, number_one, word}
use Rattle.sql_read.proofs.steps.AgreeChains.{parts_agree, listed_agrees}
use Rattle.sql_read.proofs.steps.AgreeDeeper.{DeeperAgrees}
use Rattle.sql_read.proofs.steps.AgreeSteps.{first_next, may_open, none_here, one_by_one, then_counted}
use Rattle.sql_read.proofs.agree.AgreeNames.{word_kinds}
use Rattle.sql_read.proofs.agree.AgreeTests.{exists_agrees, test_agrees, tested_agrees}
use Rattle.sql_read.proofs.agree.AgreePrimaries.{products_agrees, sums_agrees}
use Rattle.sql_read.proofs.steps.Agreeing.{Agrees, Residual, behind, behind_taken, built, by_eaten, by_next, makes, ends_in, mapped, production, second, then_rest, then_tail, whole}
use Rattle.sql_cursor.proofs.code.Extending.{extends_itself, extends_passes}
use Rattle.sql_read.proofs.steps.ReadPassing.{Alike, alike_passes, alike_within, built_from}
use Rattle.sql_read.proofs.steps.ReadSteps as steps
use Rattle.sql_read.proofs.steps.ReadSteps.{built_map, none_taken, plain_here, starts, took_token}
use Rattle.sql_read.proofs.parts.ReadBegins.{expr_begins}
use Rattle.sql_grammar.specs.QueryTrees as t
use Rattle.grammar.specs.Lookahead.{is_inside}
use Rattle.grammar.proofs.languages.Sets.{inside}
use Rattle.sql_grammar.specs.declared.kinds.Kind.{Kind}
use Rattle.sql_grammar.proofs.lists.EveryKind.{every_kind_is_there}

fill_chain : Filled (seq grammar.ands grammar.ors) ([], [])
fill_chain = fill_seq (fill_none (Some most_separators) next_and) (fill_none (Some most_separators) next_or)

fill_not : Filled (alt not_neg exists) (t.not_of (word (codes "not"), number_one))
fill_not = fill_one _ (fill_map t.not_of (fill_nest (fill_seq (fill_token k.Not (word (codes "not")) refl refl) fill_neg)))

counted_on : {X Y : Type 0} {built : Built X} {more : Built Y} {count : ℕ} {began a b : Cursor} {x : X} {y : Y} → IsBuilt built count began x a → Extends a b → Builds more began y b
    → IsBuilt more (count + (b.passed - a.passed)) began y b
counted_on {a = a} {b = b} t x u = record { builds = u; counted = omega (arith, t.counted, x.passed) }

-- ---- NOT and EXISTS, or neither

-- none of these kinds stands next where none of more kinds does
pub none_among : (p q : Kind → Bool) → is_inside every_kind p q ≡ true → (ts : List Lexeme) → is_next q ts ≡ false → is_next p ts ≡ false
none_among p q e [] n = refl
none_among p q e (t ∷ ts) n = false_from_ne_true (p (kind_of t)) (λ there. let both : true ≡ false = sym (inside every_kind every_kind_is_there p q e (kind_of t) there) ∙ n in cc)

neither : (ts : List Lexeme) → is_next (same k.Not) ts ≡ false → is_next (same k.Exists) ts ≡ false → is_next word_kinds ts ≡ true → ⊥
neither [] n m there = cc
neither (t ∷ ts) n m there =
    let none : is_next word_kinds (t ∷ ts) ≡ false = or_from (same k.Not (kind_of t)) (same k.Exists (kind_of t) || false) n (or_from (same k.Exists (kind_of t)) false m refl) in
    let both : true ≡ false = sym there ∙ none in cc

-- ---- five readers one by one

module _ {X : Type 0} where
  three_by_one : (r : Reading X) (f g h : X → Reader X) → (((r >>= f) >>= g) >>= h) ≡ (r >>= λ x c. f x c >>= λ x c. g x c >>= h)
  three_by_one (Ok x, c) f g h = one_by_one (f x c) g h
  three_by_one (Err fault, c) f g h = refl

  four_by_one : (r : Reading X) (f g h i : X → Reader X) → ((((r >>= f) >>= g) >>= h) >>= i) ≡ (r >>= λ x c. f x c >>= λ x c. g x c >>= λ x c. h x c >>= i)
  four_by_one (Ok x, c) f g h i = three_by_one (f x c) g h i
  four_by_one (Err fault, c) f g h i = refl

  five_by_one : (r : Reading X) (f g h i j : X → Reader X)
      → (((((r >>= f) >>= g) >>= h) >>= i) >>= j) ≡ (r >>= λ x c. f x c >>= λ x c. g x c >>= λ x c. h x c >>= λ x c. i x c >>= j)
  five_by_one (Ok x, c) f g h i j = four_by_one (f x c) g h i j
  five_by_one (Err fault, c) f g h i j = refl

module _ (levels : ℕ) (deeper : Deeper) (d : DeeperAgrees levels deeper) where
  -- ---- NOT

  -- behind NOT
  not_agrees : {N : The (Built Expr)} {c : Cursor} (word : Lexeme) (mid : Cursor) → PassesWithin (same k.Not) levels c word mid → Residual (ref grammar.neg) (levels - 1) mid N levels c (λ x. not_of (word, x))
      → Agrees N levels (λ read. read) (λ read. read) c c (negated levels deeper word mid)
  not_agrees word mid i l = makes (deeper.neg mid) (λ part. an_expr.Not part word.start) l (λ v. omega (arith, ap (λ z. z.copies) i.passes.moved))
      (λ v x end b. built_map (λ part. an_expr.Not part word.start) (built_from (alike_within i) b)) ((d i.room_left).neg mid)

  pub neg_agrees : (c : Cursor) → Agrees (ref grammar.neg) levels (λ read. read) (λ read. read) c c (neg levels deeper c)
  unfolding neg
  neg_agrees c = may_open k.Not _ (production grammar.neg (whole {start = c})) refl refl refl refl (fill_other not_neg fill_test) (omega arith) not_agrees
      (λ n l. ends_in (tested_value levels deeper c) l (λ v. refl) (test_agrees levels deeper d c))

  -- NOT or EXISTS stands here
  pub not_or_exists_agrees : (c : Cursor) → is_next word_kinds c.tokens ≡ true → Agrees (alt not_neg exists) levels (λ read. read) (λ read. read) c c (neg levels deeper c)
  unfolding neg tested_value
  not_or_exists_agrees c there = may_open k.Not _ (whole {start = c}) refl refl refl refl fill_not (omega arith) not_agrees
      (λ n l. by_eaten (λ r. Agrees (alt not_neg exists) levels (λ read. read) (λ read. read) c c r) (same k.Exists) c _
      (λ word mid i. exists_agrees levels deeper d word (behind (mapped l) refl i) (alike_passes i)) (λ m. absurd (neither c.tokens n m there)))

  -- ---- AND and OR

  pub ands_agrees : (before : Built Expr) (start now : Cursor) (first : Expr) → Builds before start first now
      → Agrees grammar.ands levels (λ more. chained and_node (before, more)) (λ more. chained and_node (before, more)) start now (ands levels deeper first now)
  unfolding ands
  ands_agrees = parts_agree k.And (ref grammar.neg) levels (neg levels deeper) neg_agrees and_node refl refl refl

  pub conj_agrees : (c : Cursor) → Agrees (ref grammar.conj) levels (λ read. read) (λ read. read) c c (conj levels deeper c)
  unfolding conj
  conj_agrees c =
      then_tail (neg levels deeper c) (ands levels deeper) (neg_agrees c) (mapped (production grammar.conj whole)) refl (fill_none (Some most_separators) next_and) (λ v. refl) (λ read first mid b. ands_agrees read c mid first b)

  pub ors_agrees : (before : Built Expr) (start now : Cursor) (first : Expr) → Builds before start first now
      → Agrees grammar.ors levels (λ more. chained or_node (before, more)) (λ more. chained or_node (before, more)) start now (ors levels deeper first now)
  unfolding ors
  ors_agrees = parts_agree k.Or (ref grammar.conj) levels (conj levels deeper) conj_agrees or_node refl refl refl

  pub expr_agrees : (c : Cursor) → Agrees (ref grammar.expr) levels (λ read. read) (λ read. read) c c (expr levels deeper c)
  unfolding expr
  expr_agrees c =
      then_tail (conj levels deeper c) (ors levels deeper) (conj_agrees c) (mapped (production grammar.expr whole)) refl (fill_none (Some most_separators) next_or) (λ v. refl) (λ read first mid b. ors_agrees read c mid first b)

  -- ---- what follows a first part

  abbrev pub and_tail : Expr → Reader Expr
  and_tail first c = ands levels deeper first c >>= ors levels deeper

  pub and_tail_agrees : (before : Built Expr) (start now : Cursor) (first : Expr) → Builds before start first now
      → Agrees (ref further.and_tail) levels (λ tail. tail before) (λ tail. tail before) start now (and_tail first now)
  and_tail_agrees before start now first b =
      then_tail (ands levels deeper first now) (ors levels deeper) (ands_agrees before start now first b) (mapped (production further.and_tail whole)) refl (fill_none (Some most_separators) next_or) (λ v. refl)
      (λ read left mid b. ors_agrees _ start mid left b)

  -- operators behind a first part
  operators_agree : (before : Built Expr) (start now : Cursor) (first : Expr) → Builds before start first now
      → Agrees (seq grammar.products grammar.sums) levels (λ v. operated (operated before v.0) v.1) (λ v. operated (operated before v.0) v.1) start now (products levels deeper first now >>= sums levels deeper)
  operators_agree before start now first b =
      then_tail (products levels deeper first now) (sums levels deeper) (products_agrees levels deeper d b) whole refl (fill_none (Some most_operators) next_sum) (λ v. refl) (λ read left mid b. sums_agrees levels deeper d b)

  module _ (before : Built Expr) (count : ℕ) (began now : Cursor) (start : Mark) (first : Expr) (marked : IsMark start began) (b : IsBuilt before count began first now) where
    abbrev Tail : Reading Expr → Type 0
    Tail r = Agrees (ref further.expr_tail) levels (λ tail. tail (before, count)) (λ tail. tail (before, count)) began now r

    -- a test, AND and OR
    abbrev behind_operators : Expr → Reader Expr
    behind_operators left c = tested levels deeper start left c >>= λ left c. ands levels deeper left c >>= ors levels deeper

    together : Tail ((products levels deeper first now >>= sums levels deeper) >>= behind_operators)
    together = then_counted (products levels deeper first now >>= sums levels deeper) (λ v left. operated (operated left.0 v.0) v.1) (operators_agree before began now first b.builds)
        (mapped (production further.expr_tail (whole {start = now}))) refl (fill_seq (fill_absent (ref grammar.rest)) fill_chain) (λ u count. refl) (λ v. refl)
        (λ left mid t l. then_rest (tested levels deeper start left mid) (tested_agrees levels deeper d _ _ began mid start left marked (counted_on b t.extends t.reads.answers.builds))
        (λ left next u. then_tail (ands levels deeper left next) (ors levels deeper) (ands_agrees _ began next left u.reads.answers.builds) (second l refl u) refl (fill_none (Some most_separators) next_or) (λ v. refl)
        (λ read left last b. ors_agrees _ began last left b))
        l refl fill_chain (λ v. refl))

    pub expr_tail_agrees : Tail (expr_tail levels deeper start first now)
    unfolding expr_tail
    expr_tail_agrees = subst Tail (one_by_one (products levels deeper first now) (sums levels deeper) behind_operators) together

  -- ---- expressions by their first parts

  pub expr_by_neg : (c : Cursor) → (neg levels deeper c >>= and_tail) ≡ expr levels deeper c
  unfolding expr conj
  expr_by_neg c = sym (one_by_one (neg levels deeper c) (ands levels deeper) (ors levels deeper))

  neg_by_unary : (c : Cursor) → is_next word_kinds c.tokens ≡ false → neg levels deeper c ≡ (((unary levels deeper c >>= products levels deeper) >>= sums levels deeper) >>= tested levels deeper (mark c))
  unfolding neg tested_value value term eaten eaten_within
  neg_by_unary c n = rw (none_among (among (k.Not ∷ [])) word_kinds refl c.tokens n, none_among (same k.Exists) word_kinds refl c.tokens n) refl

  pub expr_by_unary : (c : Cursor) → is_next word_kinds c.tokens ≡ false → (unary levels deeper c >>= expr_tail levels deeper (mark c)) ≡ expr levels deeper c
  unfolding expr conj expr_tail
  expr_by_unary c n =
      sym (ap (λ r. (r >>= ands levels deeper) >>= ors levels deeper) (neg_by_unary c n)
      ∙ five_by_one (unary levels deeper c) (products levels deeper) (sums levels deeper) (tested levels deeper (mark c)) (ands levels deeper) (ors levels deeper))

  -- ---- lists and arguments

  pub exprs_agrees : (c : Cursor)
      → Agrees (optional (listed (ref grammar.expr))) levels (λ exprs. each (listed_or_none exprs)) (λ exprs. each (listed_or_none exprs)) c c (exprs levels deeper c)
  unfolding exprs
  exprs_agrees c = by_next (λ r. Agrees (optional (listed (ref grammar.expr))) levels (λ exprs. each (listed_or_none exprs)) (λ exprs. each (listed_or_none exprs)) c c r) (among expr_kinds) c
      (λ n. ends_in (reading.listed (expr levels deeper) c) (mapped (first_next (among expr_kinds) (whole {start = c}) refl (λ t i. inl (expr_begins t i)) n)) (λ v. refl)
      (listed_agrees (ref grammar.expr) levels (expr levels deeper) expr_agrees refl refl refl refl c))
      (λ n. built (whole {start = c}) None (none_taken levels refl refl (none_here (among expr_kinds) c n)) extends_itself plain_here)

  pub argument_agrees : (word : Lexeme) (c : Cursor) → Agrees one_argument levels (λ read. read word) (λ read. read word) c c (argument levels deeper word c)
  unfolding accepted argument
  argument_agrees word c =
      by_eaten (λ (r : Reading Bool). Agrees one_argument levels (λ read. read word) (λ read. read word) c c (r >>= aggregated levels deeper word)) (same k.Distinct) c (λ found. done (is_given found))
      (λ distinct mid i. behind_distinct (Some distinct) mid (alike_passes i) (steps.takes (steps.some_left steps.whole refl i (starts i)) (took_token levels i)) (extends_passes i))
      (λ n. behind_distinct None c (record { numbers = refl; copies = refl }) (none_taken levels refl refl (none_here (same k.Distinct) c n)) extends_itself)
    where
      behind_distinct : (distinct : Option Lexeme) (mid : Cursor) → Alike c mid → Takes (optional (a k.Distinct)) levels c.tokens distinct mid.tokens → Extends c mid
          → Agrees one_argument levels (λ read. read word) (λ read. read word) c c (aggregated levels deeper word (is_given distinct) mid)
      behind_distinct distinct mid alike t x =
          makes (expr levels deeper mid) (λ y. an_expr.Agg (aggregate (kind_of word)) (is_given distinct) (Some y) word.start) (behind_taken (mapped (whole {start = c})) refl t x) (λ v. omega (arith, alike.copies))
          (λ v y end b. built_map (λ y. an_expr.Agg (aggregate (kind_of word)) (is_given distinct) (Some y) word.start) (built_from alike b)) (expr_agrees mid)
