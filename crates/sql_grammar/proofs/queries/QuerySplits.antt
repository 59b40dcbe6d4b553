-- Queries and expressions by their first parts, in any languages that have these productions.
use Rattle.std.proofs.Common.{◌≡◌, Bool, true, false, List, refl, Option, ℕ, ◌+◌}
use Rattle.grammar.specs.Language.{Language}
use Rattle.grammar.specs.Form.{Room, seq, alt, map, counted, ref}
use Rattle.grammar.specs.Productions.{optional}
use Rattle.grammar.proofs.factorings.Alike.{Alike, chain, flip, flattened, applied, alike_itself, alike_map, alike_first, alike_second, alike_alt, alike_counted, map_map, map_alt, seq_with_map, seq_seq, alt_seq, counted_seq, counted_map, counted_alt, alt_alt, regrouped, counted_both}
use Rattle.sql_lex.specs.Lexemes.{Lexeme}
use Rattle.sql_model.specs.declared.tree.Expr.{Expr}
use Rattle.sql_grammar.specs.Kinds.{kind_of}
use Rattle.sql_grammar.specs.Numbering.{Built}
use Rattle.sql_grammar.specs.QueryTrees as t
use Rattle.sql_grammar.specs.QueryTailTrees as tails
use Rattle.sql_grammar.specs.QueryTrees.{Left}
use Rattle.sql_grammar.specs.QueryGrammar.{Production, Read, The, Froms, rules_with, intersects, unions, products, sums, ands, ors, not_neg, exists, query, part, operand, item, reference, expr, conj, neg, test, rest, value, term, unary, primary, agg}
use Rattle.sql_grammar.specs.QueryTails.{tail_rules, set_tail, and_tail, expr_tail, inner, in_inner}
use Rattle.sql_grammar.specs.FactoredQueries.{going_on, going_on_by_and}

-- whether the left-factored grammar has the grammar's own production of a name
abbrev pub is_kept : Production → Bool
is_kept item = false
is_kept reference = false
is_kept rest = false
is_kept primary = false
is_kept agg = false
is_kept inner = false
is_kept in_inner = false
is_kept other = true

module _ (froms : The Froms) (E : Room → (p : Production) → Language Lexeme (Read p)) (kept : (p : Production) → is_kept p ≡ true → Alike kind_of E (ref p) (rules_with tail_rules froms p)) where
  abbrev pub Same : {A : Type 0} → The A → The A → Type 0
  Same f g = Alike kind_of E f g

  -- ---- queries

  -- a query is an operand and what follows it
  pub query_split : Same (ref query) (map (λ p. p.1 p.0) (seq (ref operand) (ref set_tail)))
  query_split =
      chain (kept query refl)
      (chain (alike_map (λ p. t.sets p.0 p.1) (alike_first unions (kept part refl)))
      (chain (flattened (λ p. t.sets p.0 p.1) (λ p. t.sets p.0 p.1) (ref operand) intersects unions)
      (chain (flip (applied (λ p. tails.combined p.0 p.1) (ref operand) (seq intersects unions)))
      (flip (alike_map (λ p. p.1 p.0) (alike_second (ref operand) (kept set_tail refl)))))))

  -- ---- expressions

  abbrev apply : Built Expr × (Built Expr → Built Expr) → Built Expr
  apply p = p.1 p.0

  expr_by_neg : Same (ref expr) (map apply (seq (ref neg) (ref and_tail)))
  expr_by_neg =
      chain (kept expr refl)
      (chain (alike_map (t.chained t.or_node) (alike_first ors (kept conj refl)))
      (chain (flattened (t.chained t.or_node) (t.chained t.and_node) (ref neg) ands ors)
      (chain (flip (applied (λ p. tails.joined p.0 p.1) (ref neg) (seq ands ors)))
      (flip (alike_map apply (alike_second (ref neg) (kept and_tail refl)))))))

  abbrev operators : The (List (Lexeme × Built Expr) × List (Lexeme × Built Expr))
  operators = seq products sums

  abbrev operate : Built Expr × List (Lexeme × Built Expr) → Built Expr
  operate p = t.operated p.0 p.1

  abbrev all_operated : Built Expr × (List (Lexeme × Built Expr) × List (Lexeme × Built Expr)) → Built Expr
  all_operated p = t.operated (t.operated p.0 p.1.0) p.1.1

  value_split : Same (ref value) (map all_operated (seq (ref unary) operators))
  value_split =
      chain (kept value refl)
      (chain (alike_map operate (alike_first sums (kept term refl)))
      (flattened operate operate (ref unary) products sums))

  abbrev counted_operated : Left × ((List (Lexeme × Built Expr) × List (Lexeme × Built Expr)) × ℕ) → Left
  counted_operated p = (all_operated (p.0.0, p.1.0), p.0.1 + p.1.1)

  abbrev with_count : (Built Expr × (List (Lexeme × Built Expr) × List (Lexeme × Built Expr))) × ℕ → Left
  with_count p = (all_operated p.0, p.1)

  counted_value : Same (counted (ref value)) (map counted_operated (seq (counted (ref unary)) (counted operators)))
  counted_value =
      chain (alike_counted value_split)
      (chain (counted_map all_operated (seq (ref unary) operators))
      (chain (alike_map with_count (counted_seq (ref unary) operators))
      (map_map with_count counted_both (seq (counted (ref unary)) (counted operators)))))

  abbrev maybe_rest : The (Option (Left → Built Expr))
  maybe_rest = optional (ref rest)

  abbrev test_of : Left × Option (Left → Built Expr) → Built Expr
  test_of p = t.tested p.0 p.1

  -- a value with what may follow it
  abbrev tests : The (Built Expr)
  tests = map test_of (seq (counted (ref value)) maybe_rest)

  abbrev first : The Left
  first = counted (ref unary)

  tests_split : Same tests (map (λ p. test_of (counted_operated (p.0, p.1.0), p.1.1)) (seq first (seq (counted operators) maybe_rest)))
  tests_split =
      chain (alike_map test_of (alike_first maybe_rest counted_value))
      (flattened test_of counted_operated first (counted operators) maybe_rest)

  abbrev join : Built Expr × (List (Built Expr) × List (Built Expr)) → Built Expr
  join p = tails.joined p.1.0 p.1.1 p.0

  abbrev chains : The (List (Built Expr) × List (Built Expr))
  chains = seq ands ors

  abbrev go_on : Left × (Left → Built Expr) → Built Expr
  go_on p = p.1 p.0

  tests_go_on : Same (map apply (seq tests (ref and_tail))) (map go_on (seq first (ref expr_tail)))
  tests_go_on =
      chain (alike_map apply (alike_second tests (kept and_tail refl)))
      (chain (applied (λ p. tails.joined p.0 p.1) tests chains)
      (chain (alike_map join (alike_first chains tests_split))
      (chain (flattened join (λ p. test_of (counted_operated (p.0, p.1.0), p.1.1)) first (seq (counted operators) maybe_rest) chains)
      (chain (alike_map _ (alike_second first (seq_seq (counted operators) maybe_rest chains)))
      (chain (alike_map _ (seq_with_map regrouped (seq (counted operators) (seq maybe_rest chains)) first))
      (chain (map_map _ _ (seq first (seq (counted operators) (seq maybe_rest chains))))
      (chain (flip (applied (λ p. tails.continued p.0 p.1.0 p.1.1.0 p.1.1.1) first (seq (counted operators) (seq maybe_rest chains))))
      (flip (alike_map go_on (alike_second first (kept expr_tail refl)))))))))))

  neg_split : Same (ref neg) (alt (alt not_neg exists) tests)
  neg_split = chain (kept neg refl) (chain (alike_alt (alike_itself not_neg) (kept test refl)) (alt_alt not_neg exists tests))

  -- an expression begins with NOT or EXISTS, or with a part of an operator's chain
  pub expr_split : Same (ref expr) (alt going_on_by_and (going_on (ref unary)))
  expr_split =
      chain expr_by_neg
      (chain (alike_map apply (alike_first (ref and_tail) neg_split))
      (chain (alike_map apply (alt_seq (alt not_neg exists) tests (ref and_tail)))
      (chain (map_alt apply (seq (alt not_neg exists) (ref and_tail)) (seq tests (ref and_tail)))
      (alike_alt (alike_itself going_on_by_and) tests_go_on))))

  pub going_on_in : {f g : The (Built Expr)} → Same f g → Same (going_on f) (going_on g)
  going_on_in {f = f} {g = g} a = alike_map go_on (alike_first (ref expr_tail) (alike_counted a))

  pub going_on_alt : (f g : The (Built Expr)) → Same (going_on (alt f g)) (alt (going_on f) (going_on g))
  going_on_alt f g =
      chain (alike_map go_on (alike_first (ref expr_tail) (counted_alt f g)))
      (chain (alike_map go_on (alt_seq (counted f) (counted g) (ref expr_tail)))
      (map_alt go_on (seq (counted f) (ref expr_tail)) (seq (counted g) (ref expr_tail))))
