-- The kinds of tokens that begin an expression, a test of a value, and what may follow the first part of a query or of an expression.
use Rattle.std.proofs.Common.{◌≡◌, ℕ, Bool, true, false, not, ◌||◌, List, [], ◌∷◌, inl, inr, Option, Some, None, refl}
use Rattle.std.specs.List.{list_all}
use Rattle.std.proofs.lemmas.Bool.{or_cases}
use Rattle.grammar.specs.Form.{seq, star, counted, ref}
use Rattle.grammar.specs.Productions.{optional}
use Rattle.grammar.proofs.readers.Predictions.{produced}
use Rattle.grammar.proofs.languages.Sets.{implied}
use Rattle.sql_lex.specs.Lexemes.{Lexeme}
use Rattle.sql_model.specs.declared.tree.Expr.{Expr}
use Rattle.sql_read.specs.Reading.{expr_kinds, set_kinds, tail_kinds, test_kinds}
use Rattle.sql_grammar.specs.declared.kinds.Kind.TheVariants as k
use Rattle.sql_grammar.specs.declared.kinds.Kind.{Kind}
use Rattle.sql_grammar.specs.Kinds.{among, called_kinds, comparisons, every_kind, kind_of, other_aggregates, same}
use Rattle.sql_grammar.specs.QueryGrammar.{Production, The, ands, conj, expr, intersect, intersects, neg, next_and, next_intersect, next_or, next_product, next_sum, next_union, operand, ors, part, primary, products, rest, sums, term, test, unary, union_or_except, unions, value, most_operators, most_separators}
use Rattle.sql_grammar.specs.QueryTails.{expr_tail, set_tail}
use Rattle.sql_grammar.specs.FactoredQueries.{factored, factored_of_rest, in_factored}
use Rattle.sql_grammar.specs.Numbering.{Built}
use Rattle.sql_grammar.specs.QueryTrees.{Left}
use Rattle.sql_grammar.proofs.lists.EveryKind.{every_kind_is_there}
use Rattle.sql_grammar.proofs.queries.QueryTable.{left_factored}
use Rattle.sql_read.proofs.steps.ReadLoops.{Begins}

-- ---- of forms

module _ {A : Type 0} (f : The A) where
  -- kinds that are among others
  pub begins_among : (p q : Kind → Bool) → list_all (λ x. not (p x) || q x) every_kind ≡ true → Begins q f → Begins p f
  begins_among p q e b t i = b t (implied (p (kind_of t)) (q (kind_of t)) (every_kind_is_there (λ x. not (p x) || q x) e (kind_of t)) i)

  pub begins_both : (p q : Kind → Bool) → Begins p f → Begins q f → Begins (λ x. p x || q x) f
  begins_both p q b c t i = elim (or_cases (p (kind_of t)) (q (kind_of t)) i) [ inl j ↦ b t j | inr j ↦ c t j ]

  -- sets of kinds of which each begins f
  abbrev Sets : Type 0
  Sets = List ((p : Kind → Bool) × Begins p f)

  abbrev in_one : Sets → Kind → Bool
  in_one [] x = false
  in_one (set ∷ sets) x = set.0 x || in_one sets x

  begins_one : (sets : Sets) → Begins (in_one sets) f
  begins_one [] = λ t i. cc
  begins_one (set ∷ sets) = begins_both set.0 (in_one sets) set.1 (begins_one sets)

  -- kinds of which each is in one of them
  pub begins_each : (kinds : List Kind) (sets : Sets) → list_all (λ x. not (among kinds x) || in_one sets x) every_kind ≡ true → Begins (among kinds) f
  begins_each kinds sets e = begins_among (among kinds) (in_one sets) e (begins_one sets)

module _ (p : Kind → Bool) where
  begins_first : {A B : Type 0} (f : The A) (g : The B) → Begins p f → Begins p (seq f g)
  begins_first f g b t i = inl (b t i)

  -- behind what may be nothing
  begins_second : {A B : Type 0} (f : The A) (g : The B) (v : A) → (in_factored None f).spells [] v → Begins p g → Begins p (seq f g)
  begins_second f g v s b t i = inr ([], t ∷ [], v, refl, s, b t i)

  begins_star : {A : Type 0} (most : Option ℕ) (f : The A) → Begins p f → Begins p (star most f)
  begins_star most f b t i = inr ([], t ∷ [], [], refl, refl, b t i)

  begins_name : (n : Production) → Begins p (factored n) → Begins p (ref n)
  begins_name n b t i = (produced left_factored None n).there.prefix (t ∷ []) (b t i)

-- ---- expressions

module _ (p : Kind → Bool) where
  by_neg : Begins p (factored neg) → Begins p (ref expr)
  by_neg b = begins_name p expr (begins_first p (ref conj) ors (begins_name p conj (begins_first p (ref neg) ands (begins_name p neg b))))

  by_test : Begins p (factored test) → Begins p (ref expr)
  by_test b = by_neg (λ t i. inr (begins_name p test b t i))

  by_unary : Begins p (factored unary) → Begins p (ref expr)
  by_unary b =
      by_test (λ t i. inr (inl (begins_name p value (begins_first p (ref term) sums (begins_name p term (begins_first p (ref unary) products (begins_name p unary b)))) t i)))

  by_primary : Begins p (factored primary) → Begins p (ref expr)
  by_primary b = by_unary (λ t i. inr (begins_name p primary b t i))

pub expr_begins : Begins (among expr_kinds) (ref expr)
expr_begins = begins_each (ref expr) expr_kinds
    ((same k.Not, by_neg (same k.Not) (λ t i. inl (inl (inr (t, refl, i)))))
    ∷ (same k.Exists, by_test (same k.Exists) (λ t i. inl (inl (inr (t, refl, i)))))
    ∷ (same k.Minus, by_unary (same k.Minus) (λ t i. inl (inl (inr (t, refl, i)))))
    ∷ (same k.Number, by_primary (same k.Number) (λ t i. inl (inl (inr (t, refl, i)))))
    ∷ (same k.Text, by_primary (same k.Text) (λ t i. inl (inr (inr (t, refl, i)))))
    ∷ (same k.Quoted, by_primary (same k.Quoted) (λ t i. inr (inl (inl (inl (inr (t, refl, i)))))))
    ∷ (among called_kinds, by_primary (among called_kinds) (λ t i. inr (inl (inr (inl (inl (inr (t, refl, i))))))))
    ∷ (same k.Count, by_primary (same k.Count) (λ t i. inr (inl (inr (inr (inl (inl (inr (t, refl, i)))))))))
    ∷ (among other_aggregates, by_primary (among other_aggregates) (λ t i. inr (inl (inr (inr (inr (inl (inr (t, refl, i)))))))))
    ∷ (same k.Open, by_primary (same k.Open) (λ t i. inr (inr (inl (inr (t, refl, i))))))
    ∷ []) refl

-- ---- tests

factored_begins : Begins (among test_kinds) factored_of_rest
factored_begins = begins_each factored_of_rest test_kinds
    ((among comparisons, λ t i. inl (inl (inr (t, refl, i))))
    ∷ (same k.Not, λ t i. inr (inl (inl (inr (t, refl, i)))))
    ∷ (same k.In, λ t i. inr (inr (inl (inl (inr (t, refl, i))))))
    ∷ (same k.Between, λ t i. inr (inr (inr (inl (inl (inr (t, refl, i)))))))
    ∷ (same k.Like, λ t i. inr (inr (inr (inr (inl (inr (t, refl, i)))))))
    ∷ []) refl

pub rest_begins : Begins (among test_kinds) (ref rest)
rest_begins = begins_name (among test_kinds) rest factored_begins

-- ---- what follows the first part of a query

by_next_union : (p : Kind → Bool) → Begins p union_or_except → Begins p (ref set_tail)
by_next_union p b = begins_name p set_tail (begins_second p intersects unions [] refl (begins_star p (Some most_operators) next_union (begins_first p union_or_except (ref part) b)))

pub set_tail_begins : Begins (among set_kinds) (ref set_tail)
set_tail_begins =
    let p = same k.Intersect in
    begins_each (ref set_tail) set_kinds
    ((p, begins_name p set_tail (begins_first p intersects unions (begins_star p (Some most_operators) next_intersect (begins_first p intersect (ref operand) (λ t i. inr (t, refl, i))))))
    ∷ (same k.Union, by_next_union (same k.Union) (λ t i. inl (inl (inr (t, refl, i)))))
    ∷ (same k.Except, by_next_union (same k.Except) (λ t i. inr (inr (t, refl, i))))
    ∷ []) refl

-- ---- what follows the first part of an expression

abbrev operators : The ((List (Lexeme × Built Expr) × List (Lexeme × Built Expr)) × ℕ)
operators = counted (seq products sums)

abbrev test_and_chains : The (Option (Left → Built Expr) × (List (Built Expr) × List (Built Expr)))
test_and_chains = seq (optional (ref rest)) (seq ands ors)

module _ (p : Kind → Bool) where
  by_operators : Begins p (seq products sums) → Begins p (ref expr_tail)
  by_operators b = begins_name p expr_tail (begins_first p operators test_and_chains b)

  by_others : Begins p test_and_chains → Begins p (ref expr_tail)
  by_others b = begins_name p expr_tail (begins_second p operators test_and_chains (([], []), 0) (([], [], refl, refl, refl), refl) b)

  by_chains : Begins p (seq ands ors) → Begins p (ref expr_tail)
  by_chains b = by_others (begins_second p (optional (ref rest)) (seq ands ors) None (inr (tt, refl, refl)) b)

abbrev product_kinds : Kind → Bool
product_kinds = among (k.Star ∷ k.Slash ∷ [])

abbrev sum_kinds : Kind → Bool
sum_kinds = among (k.Plus ∷ k.Minus ∷ k.Concat ∷ [])

pub expr_tail_begins : Begins (among tail_kinds) (ref expr_tail)
expr_tail_begins = begins_each (ref expr_tail) tail_kinds
    ((product_kinds, by_operators product_kinds (begins_first product_kinds products sums (begins_star product_kinds (Some most_operators) next_product (λ t i. inl (inr (t, refl, i))))))
    ∷ (sum_kinds, by_operators sum_kinds (begins_second sum_kinds products sums [] refl (begins_star sum_kinds (Some most_operators) next_sum (λ t i. inl (inr (t, refl, i))))))
    ∷ (among test_kinds, by_others (among test_kinds) (begins_first (among test_kinds) (optional (ref rest)) (seq ands ors) (λ t i. inl (rest_begins t i))))
    ∷ (same k.And, by_chains (same k.And) (begins_first (same k.And) ands ors (begins_star (same k.And) (Some most_separators) next_and (λ t i. inl (inr (t, refl, i))))))
    ∷ (same k.Or, by_chains (same k.Or) (begins_second (same k.Or) ands ors [] refl (begins_star (same k.Or) (Some most_separators) next_or (λ t i. inl (inr (t, refl, i))))))
    ∷ []) refl
