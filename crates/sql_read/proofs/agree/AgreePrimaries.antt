-- The readers of first parts of expressions, and of values, agree with the left-factored grammar.
use Rattle.std.proofs.Common.{◌≡◌, ◌⊎◌, ℕ, ◌+◌, true, ◌∷◌, codes, None, Ok, Err, refl, ap, inl, inr, arith, [], Some, subst}
use Rattle.grammar.specs.Form.{alt, map, ref, seq}
use Rattle.grammar.specs.Productions.{skip_then}
use Rattle.grammar.proofs.readers.Predictions.{ok, ahead}
use Rattle.sql_lex.specs.Lexemes.{Lexeme}
use Rattle.sql_model.specs.declared.tree.Expr.{Expr}
use Rattle.sql_model.specs.declared.tree.Expr.TheVariants as an_expr
use Rattle.sql_cursor.specs.Cursor.{Cursor}
use Rattle.sql_read.specs.Parts.{built_grouped, grouped_of}
use Rattle.sql_read.specs.Reading.{Deeper, aggregate, arguments, call_behind, call_or_word, column, count_arguments, enclosed, enclosed_of, in_parentheses, named_first, negative, primary, unary, products, sums, term, value, with_named}
use Rattle.sql_cursor.specs.Readers.{Reader, Reading, ◌>>=◌, done, expected}
use Rattle.sql_grammar.specs.declared.kinds.Kind.TheVariants as k
use Rattle.sql_grammar.specs.Kinds.{among, called_kinds, other_aggregates, same}
use Rattle.sql_grammar.specs.Numbering.{Built, symbol_number}
use Rattle.sql_grammar.specs.QueryGrammar as grammar
use Rattle.sql_grammar.specs.QueryTails as further
use Rattle.sql_grammar.specs.QueryGrammar.{The, a, listed, parens, next_product, next_sum, most_operators}
use Rattle.sql_grammar.specs.FactoredQueries.{column_of, dot_name, enclosed_first, one_argument}
use Rattle.sql_grammar.specs.FactoredQueries as factored
use Rattle.sql_grammar.specs.QueryTrees as t
use Rattle.sql_grammar.specs.TokenValues.{name_of}
use Rattle.sql_grammar.proofs.copies.QueryFillings.{Filled, fill_absent, fill_inner, fill_map, fill_nest, fill_one, fill_seq, fill_token, fill_token_of, fill_unary, symbol, word as spelled, fill_expr, number_one, word, fill_none}
use Rattle.sql_grammar.proofs.queries.QueryTable.{left_factored}
use Rattle.sql_read.proofs.steps.AgreeDeeper.{DeeperAgrees}
use Rattle.sql_read.proofs.agree.AgreeNames.{by_literal, column_agrees, literal_kinds}
use Rattle.sql_read.proofs.steps.AgreeSteps.{by_numbered, closes, ends_alike, extends_symbol, fill_group, first_unless, first_where, opens_alone, opens_parens, other_next, other_where, there}
use Rattle.sql_read.proofs.steps.Agreeing.{Agrees, behind, behind_taken, built, by_eaten, by_next, by_token, ends_in, makes, mapped, needs, needs_last, other_unless, production, Residual, whole, then_tail}
use Rattle.sql_cursor.proofs.code.Extending.{extends_passes}
use Rattle.sql_read.proofs.steps.ReadPassing.{numbered as number_built, Alike, ◌then◌, alike_passes, alike_within, built_from}
use Rattle.sql_read.proofs.parts.ReadInsides.{built_enclosed, enclosed_cost}
use Rattle.sql_read.proofs.steps.ReadLoops.{Begins, takes}
use Rattle.sql_read.proofs.steps.ReadSteps as steps
use Rattle.sql_read.proofs.steps.ReadSteps.{built_both, begins_with, built_map, plain_here, starts, took_token}
use Rattle.sql_cursor.specs.Eating.{Passes}
use Rattle.sql_grammar.specs.QueryTrees.{count_rows, operated}
use Rattle.sql_read.specs.Reads.{Takes, Builds}
use Rattle.sql_read.proofs.steps.AgreeChains.{operators_agree}

fill_one_argument : Filled one_argument (λ word. t.aggregated word None number_one)
fill_one_argument = fill_map (λ p word. t.aggregated word p.0 p.1) (fill_seq (fill_absent (a k.Distinct)) fill_expr)

-- the star of COUNT(*)
star_taken : {d : ℕ} {m n : Cursor} {star : Lexeme} → Passes (same k.Star) m star n
    → Takes (alt (map (λ sign word. t.count_rows word) (a k.Star)) one_argument) d m.tokens (λ word. t.count_rows word) n.tokens
star_taken {d = d} q = steps.takes (steps.mapped (steps.by_token steps.whole refl q (starts q))) (took_token d q)

-- one bind after another is one
bind_bind : {A B C : Type 0} (r : Reading A) (f : A → Reader B) (g : B → Reader C) → (r >>= λ x mid. f x mid >>= g) ≡ ((r >>= f) >>= g)
bind_bind (Ok x, mid) f g = refl
bind_bind (Err fault, mid) f g = refl

module _ (levels : ℕ) (deeper : Deeper) (d : DeeperAgrees levels deeper) where
  -- ---- calls

  pub arguments_agrees : (word : Lexeme) (c : Cursor) → Agrees factored.arguments levels (λ read. read word) (λ read. read word) c c (arguments levels deeper word c)
  unfolding arguments
  arguments_agrees word c =
      opens_parens (mapped (whole {start = c})) refl refl (fill_absent (listed (ref grammar.expr))) (omega arith)
      (λ open_ mid i m. by_numbered (λ r. Agrees factored.arguments levels (λ read. read word) (λ read. read word) c c r) mid (symbol_number (name_of word)) _
      (λ sym end u. closes (deeper.exprs end) (λ args. an_expr.Call sym args word.start) (there m (ap (λ z. z.tokens) u.moved) (extends_symbol u)) refl
      (λ v. omega (arith, ap (λ z. z.copies) i.passes.moved, ap (λ z. z.copies) u.moved))
      (λ v args after b. built_from (alike_within i) (built_map (λ p. an_expr.Call p.0 p.1 word.start) (built_both (number_built refl u) b))) ((d i.room_left).exprs end)))

  pub aggregate_agrees : (word : Lexeme) (c : Cursor) → Agrees (parens one_argument) levels (λ read. read word) (λ read. read word) c c (aggregate levels deeper word c)
  unfolding aggregate
  aggregate_agrees word c =
      opens_parens (whole {start = c}) refl refl fill_one_argument (omega arith)
      (λ open_ mid i m. closes (deeper.argument word mid) (λ x. x) m refl (λ v. omega (arith, ap (λ z. z.copies) i.passes.moved)) (λ v x end b. built_from (alike_within i) b) ((d i.room_left).argument word mid))

  pub count_arguments_agrees : (word : Lexeme) (c : Cursor) → Agrees factored.count_arguments levels (λ read. read word) (λ read. read word) c c (count_arguments levels deeper word c)
  unfolding count_arguments
  count_arguments_agrees word c =
      opens_parens (whole {start = c}) refl refl (fill_one one_argument (fill_map (λ sign word. t.count_rows word) (fill_token k.Star (symbol 42) refl refl))) (omega arith)
      (λ open_ mid i m. by_eaten (λ r. Agrees factored.count_arguments levels (λ read. read word) (λ read. read word) c c r) (same k.Star) mid _
      (λ star next j. let left = behind_taken (mapped m) refl (star_taken j) (extends_passes j) in
      needs_last left (fill_token k.Close (symbol 41) refl refl) (omega (arith, ap (λ z. z.copies) i.passes.moved, ap (λ z. z.copies) j.moved))
      (λ close end q. built left close (took_token _ q) (extends_passes q) (built_from (alike_within i then alike_passes j then alike_passes q) plain_here)))
      (λ n. closes (deeper.argument word mid) (λ x. x) m refl (λ v. omega (arith, ap (λ z. z.copies) i.passes.moved)) (λ v x end b. built_from (alike_within i) b)
      (ends_in (deeper.argument word mid) (other_unless (same k.Star) whole refl refl n) (λ v. refl) ((d i.room_left).argument word mid))))

  -- ---- what begins with a name

  -- what is read behind a word, or made of a call
  module _ {D X Y : Type 0} (dot : The D) (named : Lexeme → D → X) (called : Built Expr → X) (made : X → Built Y) (dotted : Lexeme → Reader Y) (of_call : Expr → Y) (c : Cursor)
      (dotted_agrees : (word : Lexeme) (mid : Cursor) → Agrees dot levels (λ v. made (named word v)) (λ v. made (named word v)) mid mid (dotted word mid)) where
    abbrev Words : Reading Y → Type 0
    Words r = Agrees (factored.words dot named called) levels made made c c r

    abbrev AsNamed : Reading (Lexeme ⊎ Expr) → Type 0
    AsNamed r = Words (r >>= with_named dotted of_call)

    call_named : (r : Reading Expr) → Words (r >>= λ x. done (of_call x)) → AsNamed (r >>= λ x. done (inr x))
    call_named (Ok x, mid) w = w
    call_named (Err fault, mid) w = w

    abbrev after_word : The (Lexeme → Built Expr) → The (Lexeme → X)
    after_word args = alt (map (λ d w. named w d) dot) (map (λ f w. called (f w)) args)

    abbrev exchanged : The (Lexeme → Built Expr) → The (Lexeme → X)
    exchanged args = alt (map (λ f w. called (f w)) args) (map (λ d w. named w d) dot)

    module _ (calls : (args : The (Lexeme → Built Expr)) (r : Reading Expr) (word : Lexeme) (mid : Cursor) → Alike c mid → Residual args levels mid (factored.words dot named called) levels c (λ f. called (f word))
        → Agrees args levels (λ read. read word) (λ read. read word) mid mid r → Words (r >>= λ x. done (of_call x))) where
      word_agrees : (args : The (Lexeme → Built Expr)) (reader : Lexeme → Reader Expr)
          → ((word : Lexeme) (mid : Cursor) → Agrees args levels (λ read. read word) (λ read. read word) mid mid (reader word mid)) → ok left_factored args ≡ true
          → ok left_factored (exchanged args) ≡ true → begins_with (same k.Open) (ahead left_factored args) ≡ true → Begins (same k.Open) args → (word : Lexeme) (mid : Cursor) → Alike c mid
          → Residual (after_word args) levels mid (factored.words dot named called) levels c (λ f. f word) → AsNamed (call_behind reader word mid)
      word_agrees args reader agrees o both w begins word mid alike l = by_next AsNamed (same k.Open) mid
          (λ n. call_named (reader word mid) (calls args (reader word mid) word mid alike (mapped (other_next (same k.Open) l both begins n)) (agrees word mid)))
          (λ n. ends_alike (dotted word mid) (mapped (first_unless (same k.Open) l o w n)) alike (dotted_agrees word mid))

      pub words_agree : {none : D} → Filled dot none → (made (named (spelled (codes "sum")) none)).copies ≡ 0 → ok left_factored (factored.words dot named called) ≡ true → ok left_factored (seq (a k.Quoted) dot) ≡ true
          → ok left_factored (alt (factored.word_with grammar.called_word factored.arguments dot named called)
          (alt (factored.word_with (a k.Count) factored.count_arguments dot named called) (factored.word_with factored.other_aggregate (parens one_argument) dot named called))) ≡ true
          → ok left_factored (alt (factored.word_with (a k.Count) factored.count_arguments dot named called) (factored.word_with factored.other_aggregate (parens one_argument) dot named called)) ≡ true
          → ok left_factored (seq grammar.called_word (after_word factored.arguments)) ≡ true → ok left_factored (seq (a k.Count) (after_word factored.count_arguments)) ≡ true
          → ok left_factored (seq factored.other_aggregate (after_word (parens one_argument))) ≡ true
          → ok left_factored (exchanged factored.arguments) ≡ true → ok left_factored (exchanged factored.count_arguments) ≡ true → ok left_factored (exchanged (parens one_argument)) ≡ true → AsNamed (call_or_word levels deeper c)
      unfolding call_or_word
      words_agree filled free all_ok quoted_ok words_ok two_ok called_ok count_ok other_ok by_arguments by_count by_one =
          by_eaten AsNamed (same k.Quoted) c _
          (λ word mid i. ends_alike (dotted word mid) (behind (mapped (by_token (whole {start = c}) all_ok i (inl (starts i)))) quoted_ok i) (alike_passes i) (dotted_agrees word mid))
          (λ n. let l = other_unless (same k.Quoted) (whole {start = c}) quoted_ok refl n in by_eaten AsNamed (among called_kinds) c _
          (λ word mid i. word_agrees factored.arguments (arguments levels deeper) arguments_agrees refl by_arguments refl (λ t j. inl (inr (t, refl, j))) word mid (alike_passes i)
          (behind (mapped (by_token l words_ok i (inl (starts i)))) called_ok i))
          (λ n. let l = other_unless (among called_kinds) l called_ok refl n in by_eaten AsNamed (same k.Count) c _
          (λ word mid i. word_agrees factored.count_arguments (count_arguments levels deeper) count_arguments_agrees refl by_count refl (λ t j. inl (inr (t, refl, j))) word mid (alike_passes i)
          (behind (mapped (by_token l two_ok i (inl (starts i)))) count_ok i))
          (λ n. let l = mapped (other_unless (same k.Count) l count_ok refl n) in
          subst Words (bind_bind (expected (among other_aggregates) c) (call_behind (aggregate levels deeper)) (with_named dotted of_call))
          (needs l other_ok (fill_seq (fill_token_of other_aggregates (spelled (codes "sum")) refl refl) (fill_one _ (fill_map (λ d w. named w d) filled))) (omega (arith, free))
          (λ word mid i. word_agrees (parens one_argument) (aggregate levels deeper) aggregate_agrees refl by_one refl (λ t j. inl (inr (t, refl, j))) word mid (alike_passes i) (behind l other_ok i))))))

  pub named_first_agrees : (c : Cursor) → Agrees factored.named_first levels (λ read. read) (λ read. read) c c (named_first levels deeper c)
  unfolding named_first
  named_first_agrees c = words_agree dot_name column_of (λ x. x) (λ read. read) column (λ x. x) c (column_agrees levels)
      (λ args r word mid alike l t. makes r (λ x. x) l (λ v. omega (arith, alike.copies)) (λ v y end b. built_from alike b) t) (fill_absent (skip_then (a k.Dot) grammar.name))
      refl refl refl refl refl refl refl refl refl refl refl

  -- ---- what stands in parentheses

  pub in_parentheses_agrees : (c : Cursor) → Agrees (grammar.in_parentheses (ref further.inner)) levels built_grouped built_grouped c c (in_parentheses levels deeper c)
  unfolding in_parentheses
  in_parentheses_agrees c =
      opens_alone k.Open (whole {start = c}) refl refl (fill_group fill_inner) (omega arith)
      (λ open_ mid i m. closes (deeper.inner mid) (λ inside. grouped_of inside open_.start) m refl (λ v. omega (arith, ap (λ z. z.copies) i.passes.moved))
      (λ v inside end b. built_map (λ x. grouped_of x open_.start) (built_from (alike_within i) b)) ((d i.room_left).inner mid))

  pub enclosed_agrees : (c : Cursor) → Agrees enclosed_first levels (λ read. read) (λ read. read) c c (enclosed levels deeper c)
  unfolding enclosed
  enclosed_agrees c =
      makes (in_parentheses levels deeper c) enclosed_of (mapped (whole {start = c})) (λ v. ap (λ z. c.copies + z) (enclosed_cost v)) (λ v g end b. built_enclosed v b) (in_parentheses_agrees c)

  -- ---- operands

  pub primary_agrees : (c : Cursor) → Agrees (ref grammar.primary) levels (λ read. read) (λ read. read) c c (primary levels deeper c)
  unfolding primary
  primary_agrees c =
      let l = production grammar.primary (whole {start = c}) in
      by_literal P _ c (λ x mid n agrees. ends_in (Ok x, mid) (first_where literal_kinds l refl refl n) (λ v. refl) (agrees levels))
      (λ n. by_next P (same k.Open) c
      (λ o. ends_in (enclosed levels deeper c) (other_where (same k.Open) (other_unless literal_kinds l refl refl n) refl refl o) (λ v. refl) (enclosed_agrees c))
      (λ o. ends_in (named_first levels deeper c) (first_unless (same k.Open) (other_unless literal_kinds l refl refl n) refl refl o) (λ v. refl) (named_first_agrees c)))
    where
      P : Reading Expr → Type 0
      P r = Agrees (ref grammar.primary) levels (λ read. read) (λ read. read) c c r

  pub negative_agrees : (c : Cursor) → Agrees grammar.minus levels (λ read. read) (λ read. read) c c (negative levels deeper c)
  unfolding negative
  negative_agrees c =
      opens_alone k.Minus (mapped (whole {start = c})) refl refl (fill_nest (fill_seq (fill_token k.Minus (symbol 45) refl refl) fill_unary)) (omega arith)
      (λ sign mid i m. makes (deeper.unary mid) (λ part. an_expr.Fun 4 (part ∷ []) sign.start) m (λ v. omega (arith, ap (λ z. z.copies) i.passes.moved))
      (λ v x end b. built_map (λ part. an_expr.Fun 4 (part ∷ []) sign.start) (built_from (alike_within i) b)) ((d i.room_left).unary mid))

  pub unary_agrees : (c : Cursor) → Agrees (ref grammar.unary) levels (λ read. read) (λ read. read) c c (unary levels deeper c)
  unfolding unary
  unary_agrees c =
      let l = production grammar.unary (whole {start = c}) in
      by_next (λ r. Agrees (ref grammar.unary) levels (λ read. read) (λ read. read) c c r) (same k.Minus) c
      (λ n. ends_in (negative levels deeper c) (first_where (same k.Minus) l refl refl n) (λ v. refl) (negative_agrees c))
      (λ n. ends_in (primary levels deeper c) (other_unless (same k.Minus) l refl refl n) (λ v. refl) (primary_agrees c))

  -- ---- values

  pub products_agrees : {before : Built Expr} {start now : Cursor} {left : Expr} → Builds before start left now
      → Agrees grammar.products levels (λ more. operated before more) (λ more. operated before more) start now
      (products levels deeper left now)
  unfolding products
  products_agrees b = operators_agree _ (ref grammar.unary) levels (unary levels deeper) unary_agrees refl refl refl _ _ _ _ b

  pub term_agrees : (c : Cursor) → Agrees (ref grammar.term) levels (λ read. read) (λ read. read) c c (term levels deeper c)
  unfolding term
  term_agrees c =
      then_tail (unary levels deeper c) (products levels deeper) (unary_agrees c) (mapped (production grammar.term whole)) refl (fill_none (Some most_operators) next_product) (λ v. refl) (λ read first mid b. products_agrees b)

  pub sums_agrees : {before : Built Expr} {start now : Cursor} {left : Expr} → Builds before start left now
      → Agrees grammar.sums levels (λ more. operated before more) (λ more. operated before more) start now (sums levels deeper left now)
  unfolding sums
  sums_agrees b = operators_agree _ (ref grammar.term) levels (term levels deeper) term_agrees refl refl refl _ _ _ _ b

  pub value_agrees : (c : Cursor) → Agrees (ref grammar.value) levels (λ read. read) (λ read. read) c c (value levels deeper c)
  unfolding value
  value_agrees c =
      then_tail (term levels deeper c) (sums levels deeper) (term_agrees c) (mapped (production grammar.value whole)) refl (fill_none (Some most_operators) next_sum) (λ v. refl) (λ read first mid b. sums_agrees b)
