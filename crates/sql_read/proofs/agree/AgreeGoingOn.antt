-- The readers of expressions by their first parts, and of whole items, agree with the left-factored grammar.
use Rattle.std.proofs.Common.{◌≡◌, ℕ, ◌-◌, true, Option, None, Ok, ◌+◌, inl, inr, refl, ◌∙◌, ap, arith, false, [], ◌∷◌, Bool, subst}
use Rattle.grammar.specs.Form.{alt, counted, ref, seq}
use Rattle.grammar.proofs.readers.Predictions.{ok, ahead}
use Rattle.sql_model.specs.declared.tree.Expr.{Expr}
use Rattle.sql_model.specs.declared.tree.Item.{Item}
use Rattle.sql_model.specs.declared.tree.Item.TheVariants as an_item
use Rattle.sql_read.specs.declared.reading.item.Starred.{Starred}
use Rattle.sql_read.specs.declared.reading.item.Starred.TheVariants as starred
use Rattle.sql_cursor.specs.Cursor.{Cursor}
use Rattle.sql_read.specs.Parts.{built_starred}
use Rattle.sql_read.specs.Reads.{Builds, entries_too, few_form}
use Rattle.sql_read.specs.Reading.{Deeper, enclosed, expr_tail, item, item_name, call_or_word, name_or_star, named_first, named_item, negative, starred_item, expr, in_parentheses, neg, primary, unary}
use Rattle.sql_cursor.specs.Readers.{Reading, ◌>>=◌, mark, seen, eaten, eaten_within, expected, expected_within}
use Rattle.sql_grammar.specs.declared.kinds.Kind.TheVariants as kind
use Rattle.sql_grammar.specs.Kinds.{among, called_kinds, name_kinds, other_aggregates, same}
use Rattle.sql_grammar.specs.Numbering.{Built, plain}
use Rattle.sql_grammar.specs.QueryGrammar as grammar
use Rattle.sql_grammar.specs.QueryTails as further
use Rattle.sql_grammar.specs.QueryGrammar.{The, minus}
use Rattle.sql_grammar.specs.FactoredQueries as factored
use Rattle.sql_grammar.specs.QueryTrees as t
use Rattle.sql_grammar.specs.QueryCopies.{copies_nothing}
use Rattle.sql_model.specs.Syntax.{Name}
use Rattle.sql_lex.specs.Lexemes.{Lexeme}
use Rattle.grammar.proofs.readers.Completing.{either_of}
use Rattle.sql_grammar.proofs.copies.QueryFillings.{fill_empty, fill_map, fill_seq, fill_absent, fill_and_tail, fill_expr_tail}
use Rattle.sql_read.proofs.steps.ReadForks.{first_of, star_of, takes_mapped}
use Rattle.sql_read.proofs.parts.ReadInsides.{takes_nothing}
use Rattle.sql_read.proofs.steps.AgreeSteps.{behind_first, counted_of, fork_of, behind_other, first_unless, first_where, other_where, then_counted}
use Rattle.sql_read.proofs.steps.Agreeing.{StopsIn, Agrees, Residual, all_left, built, by_eaten, by_next, by_token, ends_in, inside, makes, mapped, other_unless, production, second, then_part, then_rest, then_tail, whole}
use Rattle.sql_cursor.proofs.code.Extending.{extends_itself, extends_passes}
use Rattle.sql_grammar.specs.FactoredQueries.{enclosed_first, going_on, going_on_by_and, star_or_left, in_factored}
use Rattle.sql_grammar.proofs.queries.QueryTable.{left_factored}
use Rattle.sql_read.proofs.agree.AgreeItems.{item_name_agrees, name_or_star_agrees}
use Rattle.sql_read.proofs.steps.ReadPassing.{alike_passes, built_counted, took_counted}
use Rattle.sql_read.proofs.steps.ReadSteps.{begins_otherwise, built_plain, starts, took_token}
use Rattle.sql_read.proofs.agree.AgreeNames.{literal_kinds, word_kinds, by_literal}
use Rattle.sql_read.proofs.steps.AgreeDeeper.{DeeperAgrees}
use Rattle.sql_read.proofs.agree.AgreeExprs.{and_tail_agrees, expr_tail_agrees, not_or_exists_agrees, and_tail, expr_by_neg, expr_by_unary, none_among}
use Rattle.sql_read.proofs.agree.AgreePrimaries.{enclosed_agrees, named_first_agrees, negative_agrees}
use Rattle.sql_cursor.specs.Eating.{is_next}

-- ---- items with their names

built_value : {built : Built Expr} (read : Option Lexeme) {m n o : Cursor} {x : Expr} {called : Option Name} → Builds built m x n → Builds (plain (t.name_of_alias read)) n called o
    → Builds (t.value_item built read) m (an_item.Value x called) o
built_value read {x = x} u v = record {
  numbers = ap (λ z. (an_item.Value z.0 (t.name_of_alias read), z.1)) u.numbers ∙ ap (λ z. (an_item.Value x z.0, z.1)) v.numbers;
  copies = omega (arith, u.copies, v.copies);
}

module _ (levels : ℕ) (deeper : Deeper) (d : DeeperAgrees levels deeper) where
  -- ---- expressions by their first parts

  module _ (form : The (Built Expr)) where
    abbrev first_part : The (Built Expr)
    first_part = alt minus (alt factored.literal form)

    abbrev goes_on : The (Built Expr)
    goes_on = alt (going_on first_part) going_on_by_and

    abbrev Went : Cursor → Reading Expr → Type 0
    Went c r = Agrees goes_on levels (λ read. read) (λ read. read) c c r

    -- the first part is read
    begun : (c : Cursor) → ok left_factored (seq (counted first_part) (ref further.expr_tail)) ≡ true → Residual (seq (counted first_part) (ref further.expr_tail)) levels c goes_on levels c (λ p. p.1 p.0) → (r : Reading Expr)
        → Agrees first_part levels (λ read. read) (λ read. read) c c r → Went c (r >>= expr_tail levels deeper (mark c))
    begun c o l r u = then_counted r (λ v. v) u l o fill_expr_tail (λ v count. refl) (λ v. refl)
        (λ x mid t l. ends_in (expr_tail levels deeper (mark c) x mid) l (λ v. refl) (expr_tail_agrees levels deeper d t.reads.answers.read _ c mid (mark c) x (refl, refl) (built_counted t.extends t.reads.answers.builds)))

  -- where a part of the form begins an expression that begins with no sign, literal, NOT or EXISTS
  module _ (form : The (Built Expr)) (c : Cursor) (form_agrees : Agrees form levels (λ read. read) (λ read. read) c c (seen (same kind.Open) (enclosed levels deeper) (named_first levels deeper) c))
      (o : ok left_factored (seq (counted (first_part form)) (ref further.expr_tail)) ≡ true)
      (going : ok left_factored (going_on (first_part form)) ≡ true) (no_word : begins_otherwise word_kinds (ahead left_factored (going_on (first_part form))) ≡ true)
      (others : ok left_factored (alt factored.literal form) ≡ true) (no_minus : begins_otherwise (same kind.Minus) (ahead left_factored (alt factored.literal form)) ≡ true)
      (last : ok left_factored form ≡ true) (no_literal : begins_otherwise literal_kinds (ahead left_factored form) ≡ true) where
    abbrev First : Reading Expr → Type 0
    First r = Agrees (first_part form) levels (λ read. read) (λ read. read) c c r

    first_agrees : First (unary levels deeper c)
    unfolding unary primary
    first_agrees = by_next First (same kind.Minus) c
        (λ n. ends_in (negative levels deeper c) (first_where (same kind.Minus) whole others no_minus n) (λ v. refl) (negative_agrees levels deeper d c))
        (λ n. let l = other_unless (same kind.Minus) (whole {start = c}) refl refl n in by_literal First _ c
        (λ x mid m u. ends_in (Ok x, mid) (first_where literal_kinds l last no_literal m) (λ v. refl) (u levels))
        (λ m. ends_in (seen (same kind.Open) (enclosed levels deeper) (named_first levels deeper) c) (other_unless literal_kinds l refl refl m) (λ v. refl) form_agrees))

    by_words : (b : Bool) → is_next word_kinds c.tokens ≡ b → Went form c (expr levels deeper c)
    by_words true n =
        let l = mapped (other_where word_kinds (whole {start = c}) going no_word n) in
        subst (Went form c) (expr_by_neg levels deeper d c)
        (then_tail (neg levels deeper c) (and_tail levels deeper d) (not_or_exists_agrees levels deeper d c n) l refl fill_and_tail (λ v. refl) (λ read x mid b. and_tail_agrees levels deeper d read c mid x b))
    by_words false n =
        let l = mapped (first_unless word_kinds (whole {start = c}) refl refl n) in
        subst (Went form c) (expr_by_unary levels deeper d c n) (begun form c o l (unary levels deeper c) first_agrees)

  pub no_parenthesis_agrees : (c : Cursor) → is_next (same kind.Open) c.tokens ≡ false → Agrees factored.no_parenthesis levels (λ read. read) (λ read. read) c c (expr levels deeper c)
  no_parenthesis_agrees c n = by_words factored.named_first c
      (by_next (λ r. Agrees factored.named_first levels (λ read. read) (λ read. read) c c r) (same kind.Open) c (λ m. cc) (λ m. named_first_agrees levels deeper d c))
      refl refl refl refl refl refl refl (is_next word_kinds c.tokens) refl

  -- what begins with no name and no parenthesis is refused in either way
  none_begins : (c : Cursor) → is_next (same kind.Open) c.tokens ≡ false → is_next (among name_kinds) c.tokens ≡ false → enclosed levels deeper c ≡ named_first levels deeper c
  unfolding enclosed in_parentheses call_or_word named_first expected expected_within eaten eaten_within
  none_begins c n m = rw (
    none_among (among (kind.Open ∷ [])) (same kind.Open) refl c.tokens n,
    none_among (same kind.Quoted) (among name_kinds) refl c.tokens m,
    none_among (among called_kinds) (among name_kinds) refl c.tokens m,
    none_among (same kind.Count) (among name_kinds) refl c.tokens m,
    none_among (among other_aggregates) (among name_kinds) refl c.tokens m,
  ) refl

  pub item_value_agrees : (c : Cursor) → is_next (among name_kinds) c.tokens ≡ false → Agrees factored.item_value levels (λ read. read) (λ read. read) c c (expr levels deeper c)
  item_value_agrees c n = by_words enclosed_first c
      (by_next (λ r. Agrees enclosed_first levels (λ read. read) (λ read. read) c c r) (same kind.Open) c (λ m. enclosed_agrees levels deeper d c)
      (λ m. subst (λ r. Agrees enclosed_first levels (λ read. read) (λ read. read) c c r) (none_begins c m n) (enclosed_agrees levels deeper d c)))
      refl refl refl refl refl refl refl (is_next word_kinds c.tokens) refl

  -- ---- items

  abbrev Named : Cursor → Reading Item → Type 0
  Named c r = Agrees factored.named_item levels (λ read. read) (λ read. read) c c r

  -- the item of a first part alone
  abbrev item_of : factored.Starred → Built Item
  item_of (inl qual) = t.alias_star_item qual
  item_of (inr x) = t.value_item x None

  abbrev item_alone : t.Left → Built Item
  item_alone left = t.value_item left.0 None

  star_stops : (c : Cursor) → StopsIn entries_too factored.starred (few_form factored.starred) levels c factored.named_item (few_form factored.named_item) levels c item_of
  star_stops c = counted_of (inside (fork_of whole refl (fill_map (λ nothing qual. t.alias_star_item qual) fill_empty)
      (fill_map (λ p left. t.value_item (p.0 left) p.1) (fill_seq fill_expr_tail (fill_absent grammar.alias)))) (all_left (mapped whole))) same_item
    where
      same_item : (v : factored.Starred) (count : ℕ) → either_of left_factored 0 copies_nothing (in_factored None factored.named_item) c.tokens t.alias_star_item item_alone (star_or_left (v, count)) ≡ item_of v
      same_item (inl qual) count = refl
      same_item (inr x) count = refl

  same_cost : (c : Cursor) (v : factored.Starred) → c.copies + (item_of v).copies ≡ c.copies + (built_starred v).copies
  same_cost c (inl qual) = refl
  same_cost c (inr x) = refl

  behind_star : (c : Cursor) (found : Starred) (mid : Cursor) → Agrees factored.starred levels built_starred built_starred c c (Ok found, mid) → Named c (starred_item levels deeper (mark c) found mid)
  behind_star c (starred.All item) mid u =
      let read = u.reads.answers in let star = star_of {before = c} {after = mid} read.read read.takes read.builds in built
      (mapped (behind_first (whole {start = c}) refl (takes_mapped star_or_left (took_counted u.extends star.takes)) u.extends)) tt takes_nothing extends_itself star.builds
  behind_star c (starred.First first) mid u =
      let read = u.reads.answers in
      let begun = first_of {before = c} {after = mid} read.read read.takes read.builds in
      let l = mapped (behind_other (whole {start = c}) refl (takes_mapped star_or_left (took_counted u.extends begun.takes)) u.extends) in
      then_rest (expr_tail levels deeper (mark c) first mid) (expr_tail_agrees levels deeper d begun.built (mid.passed - c.passed) c mid (mark c) first (refl, refl) (built_counted u.extends begun.builds))
      (λ value end v. let tail = v.reads.answers in
      makes (item_name end) (λ name. an_item.Value value name) (second l refl v) (λ w. omega (arith, tail.builds.copies)) (λ v name z b. built_value v tail.builds b) (item_name_agrees levels end))
      l refl (fill_absent grammar.alias) (λ v. refl)

  pub named_item_agrees : (c : Cursor) → Named c (named_item levels deeper c)
  unfolding named_item
  named_item_agrees c = then_part (name_or_star levels deeper c) (starred_item levels deeper (mark c)) (name_or_star_agrees levels deeper d c) (star_stops c) (same_cost c) (behind_star c)

  pub item_agrees : (c : Cursor) → Agrees (ref grammar.item) levels (λ read. read) (λ read. read) c c (item levels deeper c)
  unfolding item
  item_agrees c =
      let l = production grammar.item (whole {start = c}) in
      by_eaten (Agrees (ref grammar.item) levels (λ read. read) (λ read. read) c c) (same kind.Star) c _
      (λ star mid q. built (mapped (by_token l refl q (starts q))) star (took_token levels q) (extends_passes q) (built_plain _ (alike_passes q).numbers (alike_passes q).copies))
      (λ n. let l = other_unless (same kind.Star) l refl refl n in
      by_next (Agrees (ref grammar.item) levels (λ read. read) (λ read. read) c c) (among name_kinds) c
      (λ n. ends_in (named_item levels deeper c) (first_where (among name_kinds) l refl refl n) (λ v. refl) (named_item_agrees c))
      (λ n. let l = mapped (other_unless (among name_kinds) l refl refl n) in
      then_rest (expr levels deeper c) (item_value_agrees c n)
      (λ x end v. let value = v.reads.answers in
      makes (item_name end) (λ name. an_item.Value x name) (second l refl v) (λ w. omega (arith, value.builds.copies)) (λ v name z b. built_value v value.builds b) (item_name_agrees levels end))
      l refl (fill_absent grammar.alias) (λ v. refl)))
