-- Of two texts of the left-factored grammar that begin with the same tokens, one that goes on with tokens that copy nothing copies no more.
use Rattle.std.proofs.Common.{◌≡◌, ℕ, ◌+◌, ◌*◌, ◌≤◌, List, [], ◌∷◌, ◌⊎◌, inl, inr, refl, ◌∙◌, ap, Option, Some, None, arith}
use Rattle.grammar.specs.Form.{seq, alt, map, ref}
use Rattle.grammar.specs.Productions.{skip_then}
use Rattle.grammar.proofs.completed.Costs.{summed, optional_cost, free_map, free_seq, free_optional, costed_skip_then, costed_optional}
use Rattle.grammar.proofs.completed.SamePrefixes.{SameOf, StillOf}
use Rattle.grammar.proofs.completed.SameCosts.{adds_alt, adds_at, adds_behind, adds_map, adds_nonempty, adds_seq, applied, even_counted, forked}
use Rattle.sql_lex.specs.Lexemes.{Lexeme}
use Rattle.sql_model.specs.declared.tree.Expr.{Expr}
use Rattle.sql_grammar.specs.Kinds as k
use Rattle.sql_grammar.specs.Numbering.{Built}
use Rattle.sql_grammar.specs.QueryTrees as t
use Rattle.sql_grammar.specs.QueryTailTrees as tails
use Rattle.sql_grammar.specs.QueryTrees.{Left, weight}
use Rattle.sql_grammar.specs.QueryTailTrees.{Enclosed, Inside}
use Rattle.sql_grammar.specs.QueryGrammar.{The, a, name, name_kinds, called_word, parens, minus, comparison, block, item, expr, test, rest, value, primary, agg}
use Rattle.sql_grammar.specs.QueryTails.{in_inner}
use Rattle.sql_grammar.specs.Queries.{rules}
use Rattle.sql_grammar.specs.FactoredQueries.{factored, literal, dot_name, dot_star_or_name, arguments, one_argument, other_aggregate, count_arguments, word_with, words, column_of, named_first, enclosed_first, going_on, going_on_by_and, no_parenthesis, sort, after_query, after_expression, factored_of_insides, Starred, star_or_column, star_or_left, by_word}
use Rattle.sql_grammar.specs.QueryCopies.{copies_nothing}
use Rattle.sql_grammar.proofs.copies.TestCopies.{between_copies, compared_adds, bounds_add, list_adds}
use Rattle.sql_grammar.proofs.copies.CopyCosts.{a_token, around_zero, bounds_cost, call_copies, exists_cost, free_alias, from_zero, in_parens, minus_cost, not_neg_cost, costed_listed, costed_parens, some_token, to_zero, twice_zero}
use Rattle.sql_grammar.proofs.copies.FactoredCosts.{any, SameRead, StillRead, LooseRead, EvenIn, AddsIn, evenly, inside_copies, no_cost, members_cost, set_tail_adds, and_tail_adds, expr_tail_adds, maybe_rest, inner_even, in_inner_even}
use Rattle.sql_grammar.proofs.queries.QueryTable.{left_factored}

abbrev copies_of : {A : Type 0} → Built A → ℕ
copies_of b = b.copies

-- ---- ways to write a production

-- ( f )
adds_parens : {B X : Type 0} {f : The B} {m : B → X → ℕ} {b : X → ℕ} → AddsIn f m b → AddsIn (parens f) m b
adds_parens {m = m} {b = b} l =
    let inside = adds_at (adds_seq l (a_token evenly k.Close)) (λ p. p.0) m b (λ x. x) (λ p x. to_zero (m p.0 x)) (λ x. refl) in
    let r = adds_behind (a_token evenly k.Open) inside (λ p. p.1) m b (λ w x. x) (λ u x. refl) (λ u x. to_zero (b x)) in
    record { same = r.same; still = r.still; loose = r.loose }

-- ---- tests

pub test_rule : EvenIn (rules test) (λ x. x.copies)
test_rule = evenly.of_alt (exists_cost evenly) (applied (even_counted (evenly.of_ref value)) maybe_rest (λ p. t.tested p.0 p.1) (λ x. x.copies) (λ u. refl) (λ left. refl))

-- in what stands behind IN as much is copied, besides the value before it, as the cost says
in_inside_copies : (word : Option Lexeme) (in_word : Lexeme) (v : Inside (List (Built Expr))) (left : Left)
    → (tails.in_inside word in_word v left).copies ≡ left.0.copies + inside_copies (members_cost left) v
in_inside_copies word in_word (inl q) left = refl
in_inside_copies word in_word (inr (inl (p, []))) left = none left.0.copies p.1.copies (weight left)
  where
    none : (a b w : ℕ) → a + b ≡ a + (b + (0 * w + 0))
    none a b w = omega arith
in_inside_copies word in_word (inr (inl (p, next ∷ others))) left = list_adds word (t.sub p, next ∷ others) left
in_inside_copies word in_word (inr (inr p)) left = list_adds word p left

abbrev Word : Type 0
Word = Option Lexeme × Left

abbrev word_copies : (Option Lexeme → Left → Built Expr) → Word → ℕ
word_copies f x = (f x.0 x.1).copies

abbrev left_copies : Word → ℕ
left_copies x = x.1.0.copies

in_adds : AddsIn (map (λ p word left. tails.in_inside word p.0 p.1 left) (seq (a k.In) (parens (ref in_inner)))) word_copies left_copies
in_adds =
    adds_map (λ x p. 0 + inside_copies (members_cost x.1) p.1) (λ x. evenly.of_seq (a_token evenly k.In) (costed_parens evenly (in_inner_even x.1))) (λ p word left. tails.in_inside word p.0 p.1 left) word_copies left_copies
    (λ u x. in_inside_copies x.0 u.0 u.1 x.1 ∙ ap (λ z. x.1.0.copies + z) (from_zero (inside_copies (members_cost x.1) u.1)))

abbrev bounds_words : The (Built Expr × Built Expr)
bounds_words = skip_then (a k.Between) (seq (ref value) (skip_then (a k.And) (ref value)))

-- the word BETWEEN is none of the chosen tokens
between_adds : AddsIn (map (λ p word left. t.between word p.0 p.1 left) bounds_words) word_copies left_copies
between_adds = record { same = same; still = λ f r x. absurd (loud r.0 r.1); loose = loose }
  where
    loud : (v : Built Expr × Built Expr) → StillOf left_factored copies_nothing StillRead bounds_words v → ⊥
    loud v (u, (c, r), i) = between_copies u.0 c.0 c.1

    bounds_even : EvenIn bounds_words (λ v. v.0.copies + v.1.copies)
    bounds_even = costed_skip_then evenly (a_token evenly k.Between) (bounds_cost evenly)

    through : (f g : Option Lexeme → Left → Built Expr) (u v : Built Expr × Built Expr) (x : Word) → f ≡ (λ word left. t.between word u.0 u.1 left) → g ≡ (λ word left. t.between word v.0 v.1 left)
        → u.0.copies + u.1.copies ≤ v.0.copies + v.1.copies → word_copies f x ≤ word_copies g x
    through f g u v x i j l =
        omega (arith, l, ap (λ z. word_copies z x) i, ap (λ z. word_copies z x) j, bounds_add x.0 u x.1, bounds_add x.0 v x.1)

    same : (f g : Option Lexeme → Left → Built Expr)
        → SameOf left_factored copies_nothing any SameRead StillRead LooseRead (map (λ p word left. t.between word p.0 p.1 left) bounds_words) f g → (x : Word) → word_copies f x ≤ word_copies g x
    same f g (u, v, r, i, j) x = through f g u v x i j (bounds_even.same u v r)

    loose : (f : Option Lexeme → Left → Built Expr) → StillOf left_factored any LooseRead (map (λ p word left. t.between word p.0 p.1 left) bounds_words) f → (x : Word) → left_copies x ≤ word_copies f x
    loose f (u, r, i) x = omega (arith, ap (λ z. word_copies z x) i, bounds_add x.0 u x.1)

by_word_adds : AddsIn by_word word_copies left_copies
by_word_adds =
    adds_alt in_adds (adds_alt between_adds
    (adds_map (λ x v. v.copies) (λ x. costed_skip_then evenly (a_token evenly k.Like) (evenly.of_ref value)) (λ x word left. t.like word x left) word_copies left_copies (λ u x. refl)))

comparison_adds : AddsIn comparison (λ f (left : Left). (f left).copies) (λ left. left.0.copies)
comparison_adds =
    adds_map (λ left p. 0 + p.1.copies) (λ left. evenly.of_seq (some_token evenly k.comparisons) (evenly.of_ref value)) (λ p left. t.comparison p.0 p.1 left)
    (λ f left. (f left).copies) (λ left. left.0.copies) (λ u left. compared_adds u left)

pub rest_rule : AddsIn (factored rest) (λ f (left : Left). (f left).copies) (λ left. left.0.copies)
rest_rule =
    adds_alt comparison_adds
    (adds_alt (adds_behind (a_token evenly k.Not) by_word_adds (λ p. p.1 (Some p.0)) (λ f left. (f left).copies) (λ left. left.0.copies) (λ word left. (Some word, left)) (λ u left. refl) (λ u left. to_zero left.0.copies))
    (adds_at by_word_adds (λ f. f None) (λ f left. (f left).copies) (λ left. left.0.copies) (λ left. (None, left)) (λ f left. refl) (λ left. refl)))

-- ---- what begins with a name

abbrev call_cost : (Lexeme → Built Expr) → Lexeme → ℕ
call_cost f word = (f word).copies

arguments_add : AddsIn arguments call_cost (λ word. 0)
arguments_add =
    adds_map (λ word args. optional_cost (λ p. p.0.copies + summed copies_of p.1) args) (λ word. costed_parens evenly (costed_optional evenly (costed_listed evenly (evenly.of_ref expr)))) (λ args word. t.call word args) call_cost (λ word. 0)
    (λ u word. call_copies word u)

one_argument_adds : AddsIn one_argument call_cost (λ word. 0)
one_argument_adds =
    adds_map (λ word p. 0 + p.1.copies) (λ word. evenly.of_seq (free_optional evenly (a_token evenly k.Distinct)) (evenly.of_ref expr)) (λ p word. t.aggregated word p.0 p.1) call_cost (λ word. 0)
    (λ u word. twice_zero u.1.copies)

count_arguments_add : AddsIn count_arguments call_cost (λ word. 0)
count_arguments_add = adds_parens (adds_alt (adds_map (λ word sign. 0) (λ word. a_token evenly k.Star) (λ sign word. t.count_rows word) call_cost (λ word. 0) (λ u word. refl)) one_argument_adds)

module _ {D X : Type 0} (dot : The D) (dot_free : EvenIn dot (λ v. 0)) (named : Lexeme → D → X) (called : Built Expr → X) (cost : X → ℕ) (named_free : (word : Lexeme) (d : D) → cost (named word d) ≡ 0)
    (called_cost : (x : Built Expr) → cost (called x) ≡ x.copies) where
  word_with_even : (kinds : The Lexeme) → EvenIn kinds (λ v. 0) → (args : The (Lexeme → Built Expr)) → AddsIn args call_cost (λ word. 0)
      → EvenIn (word_with kinds args dot named called) cost
  word_with_even kinds l args m =
      applied l
      (adds_alt (adds_map (λ word d. 0) (λ word. dot_free) (λ d w. named w d) (λ f word. cost (f word)) (λ word. 0) (λ d word. named_free word d))
      (adds_at m (λ f w. called (f w)) (λ f word. cost (f word)) (λ word. 0) (λ word. word) (λ f word. called_cost (f word)) (λ word. refl)))
      (λ p. p.1 p.0) cost (λ u. refl) (λ u. refl)

  words_even : EvenIn (words dot named called) cost
  words_even =
      evenly.of_alt (evenly.of_map (λ p. named p.0 p.1) cost (free_seq evenly (a_token evenly k.Quoted) dot_free) (λ p. named_free p.0 p.1))
      (evenly.of_alt (word_with_even called_word (some_token evenly k.called_kinds) arguments arguments_add)
      (evenly.of_alt (word_with_even (a k.Count) (a_token evenly k.Count) count_arguments count_arguments_add)
      (word_with_even other_aggregate (some_token evenly k.other_aggregates) (parens one_argument) (adds_parens one_argument_adds))))

free_name : EvenIn name (λ v. 0)
free_name = some_token evenly name_kinds

free_dot_name : EvenIn dot_name (λ v. 0)
free_dot_name = free_optional evenly (costed_skip_then evenly (a_token evenly k.Dot) free_name)

free_dot_star : EvenIn dot_star_or_name (λ v. 0)
free_dot_star = free_optional evenly (costed_skip_then evenly (a_token evenly k.Dot) (evenly.of_alt (free_map evenly (λ sign. inl sign) (a_token evenly k.Star)) (free_map evenly (λ name. inr name) free_name)))

column_free : (word : Lexeme) (d : Option Lexeme) → (column_of word d).copies ≡ 0
column_free word None = refl
column_free word (Some n) = refl

named_first_even : EvenIn named_first (λ x. x.copies)
named_first_even = words_even dot_name free_dot_name column_of (λ x. x) (λ x. x.copies) column_free (λ x. refl)

literal_even : EvenIn literal (λ x. x.copies)
literal_even =
    evenly.of_alt (evenly.of_map t.number_literal (λ x. x.copies) (a_token evenly k.Number) (λ v. refl)) (evenly.of_map t.text_literal (λ x. x.copies) (a_token evenly k.Text) (λ v. refl))

enclosed_copies : (p : Lexeme × Inside (Unit {0})) → (tails.enclosed p).copies ≡ 0 + inside_copies no_cost p.1
enclosed_copies (word, inl q) = from_zero q.copies
enclosed_copies (word, inr (inl (p, u))) = around_zero p.1.copies
enclosed_copies (word, inr (inr (x, u))) = around_zero x.copies

enclosed_first_even : EvenIn enclosed_first (λ x. x.copies)
enclosed_first_even = evenly.of_map tails.enclosed (λ x. x.copies) (in_parens evenly inner_even) enclosed_copies

pub primary_rule : EvenIn (factored primary) (λ x. x.copies)
primary_rule = evenly.of_alt literal_even (evenly.of_alt named_first_even enclosed_first_even)

pub agg_rule : EvenIn (factored agg) (λ x. x.copies)
agg_rule =
    evenly.of_alt (applied (a_token evenly k.Count) count_arguments_add (λ p. p.1 p.0) (λ x. x.copies) (λ u. refl) (λ u. refl))
    (applied (some_token evenly k.other_aggregates) (adds_parens one_argument_adds) (λ p. p.1 p.0) (λ x. x.copies) (λ u. refl) (λ u. refl))

-- ---- expressions by their first parts

going_on_even : (first : The (Built Expr)) → EvenIn first (λ x. x.copies) → EvenIn (going_on first) (λ x. x.copies)
going_on_even first l = applied (even_counted l) expr_tail_adds (λ p. p.1 p.0) (λ x. x.copies) (λ u. refl) (λ left. refl)

by_and_even : EvenIn going_on_by_and (λ x. x.copies)
by_and_even = applied (evenly.of_alt (not_neg_cost evenly) (exists_cost evenly)) and_tail_adds (λ p. p.1 p.0) (λ x. x.copies) (λ u. refl) (λ x. refl)

no_parenthesis_even : EvenIn no_parenthesis (λ x. x.copies)
no_parenthesis_even = evenly.of_alt (going_on_even (alt minus (alt literal named_first)) (evenly.of_alt (minus_cost evenly) (evenly.of_alt literal_even named_first_even))) by_and_even

-- ---- what stands in parentheses

abbrev sorted_copies : (Enclosed × ℕ) ⊎ Left → ℕ
sorted_copies (inl q) = q.0.1.copies
sorted_copies (inr left) = left.0.copies

sort_copies : (p : (Lexeme × Inside (Unit {0})) × ℕ) → sorted_copies (sort p) ≡ 0 + inside_copies no_cost p.0.1
sort_copies ((word, inl q), n) = from_zero q.copies
sort_copies ((word, inr (inl (p, u))), n) = around_zero p.1.copies
sort_copies ((word, inr (inr (x, u))), n) = around_zero x.copies

module _ {M : Type 0} (more : The M) (cost : M → ℕ) (l : EvenIn more cost) where
  after_query_adds : AddsIn (after_query more) (λ f q. inside_copies cost (f q)) (λ q. q.0.1.copies)
  after_query_adds =
      adds_alt (adds_at (adds_nonempty set_tail_adds) (λ f q. inl (f q.0.1)) (λ f q. inside_copies cost (f q)) (λ q. q.0.1.copies) (λ q. q.0.1) (λ f q. refl) (λ q. refl))
      (adds_alt
      (adds_at (adds_seq (adds_nonempty expr_tail_adds) l) (λ p q. inr (inr (p.0 (t.sub q.0, q.1), p.1))) (λ f q. inside_copies cost (f q)) (λ q. q.0.1.copies) (λ q. (t.sub q.0, q.1)) (λ p q. refl) (λ q. refl))
      (adds_map (λ q m. cost m) (λ q. l) (λ m q. inr (inl (q.0, m))) (λ f q. inside_copies cost (f q)) (λ q. q.0.1.copies) (λ m q. refl)))

  after_expression_adds : AddsIn (after_expression more) (λ f (left : Left). inside_copies cost (f left)) (λ left. left.0.copies)
  after_expression_adds =
      adds_at (adds_seq expr_tail_adds l) (λ p left. inr (inr (p.0 left, p.1))) (λ f left. inside_copies cost (f left)) (λ left. left.0.copies) (λ left. left) (λ p left. refl) (λ left. refl)

  pub insides_even : EvenIn (factored_of_insides more) (inside_copies cost)
  insides_even =
      evenly.of_alt (applied (evenly.of_ref block) set_tail_adds (λ p. inl (p.1 p.0)) (inside_copies cost) (λ u. refl) (λ q. refl))
      (evenly.of_alt (evenly.of_map (λ p. inr (inr p)) (inside_copies cost) (evenly.of_seq no_parenthesis_even l) (λ p. refl))
      (forked (evenly.of_map sort sorted_copies (even_counted (in_parens evenly inner_even)) sort_copies) (inside_copies cost) after_query_adds after_expression_adds))

-- ---- items

abbrev starred_copies : Starred → ℕ
starred_copies (inl word) = 0
starred_copies (inr x) = x.copies

star_free : (word : Lexeme) (d : Option (Lexeme ⊎ Lexeme)) → starred_copies (star_or_column word d) ≡ 0
star_free word None = refl
star_free word (Some (inl sign)) = refl
star_free word (Some (inr n)) = refl

abbrev first_copies : Lexeme ⊎ Left → ℕ
first_copies (inl word) = 0
first_copies (inr left) = left.0.copies

first_is : (v : Starred × ℕ) → first_copies (star_or_left v) ≡ starred_copies v.0
first_is (inl word, n) = refl
first_is (inr x, n) = refl

pub item_rule : EvenIn (factored item) (λ x. x.copies)
item_rule =
    evenly.of_alt (evenly.of_map t.star_item (λ x. x.copies) (a_token evenly k.Star) (λ v. refl))
    (evenly.of_alt
    (forked
    (evenly.of_map star_or_left first_copies (even_counted (words_even dot_star_or_name free_dot_star star_or_column (λ x. inr x) starred_copies star_free (λ x. refl))) first_is)
    (λ x. x.copies)
    (adds_map (λ word u. 0) (λ word. evenly.of_empty) (λ nothing qual. t.alias_star_item qual) (λ f word. (f word).copies) (λ word. 0) (λ u word. refl))
    (adds_at (adds_seq expr_tail_adds (free_optional evenly (free_alias evenly))) (λ p left. t.value_item (p.0 left) p.1) (λ f left. (f left).copies) (λ left. left.0.copies) (λ left. left) (λ p left. to_zero (p.0 left).copies) (λ left. refl)))
    (evenly.of_map (λ p. t.value_item p.0 p.1) (λ x. x.copies)
    (evenly.of_seq (evenly.of_alt (going_on_even (alt minus (alt literal enclosed_first)) (evenly.of_alt (minus_cost evenly) (evenly.of_alt literal_even enclosed_first_even))) by_and_even) (free_optional evenly (free_alias evenly)))
    (λ p. to_zero p.0.copies)))
