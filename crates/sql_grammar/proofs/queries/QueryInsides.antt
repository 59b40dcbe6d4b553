-- What may stand in parentheses by the grammar, the left-factored grammar reads.
use Rattle.std.proofs.Common.{◌≡◌, ℕ, true, false, List, [], ◌∷◌, ◌++◌, length, inl, inr, refl, sym, ◌∙◌, ap, subst, append_assoc}
use Rattle.grammar.specs.Language.{Includes}
use Rattle.grammar.specs.Form.{Room, alt, fork, ref}
use Rattle.grammar.proofs.factorings.Alike.{Alike, alike_alt, alike_itself, alt_alt, chain}
use Rattle.sql_lex.specs.Lexemes.{Lexeme}
use Rattle.sql_model.specs.declared.tree.Expr.{Expr}
use Rattle.sql_model.specs.Compute.{everything}
use Rattle.sql_grammar.specs.Kinds.{kind_of}
use Rattle.sql_grammar.specs.Numbering.{Built}
use Rattle.sql_grammar.specs.QueryTrees as t
use Rattle.sql_grammar.specs.QueryTailTrees as tails
use Rattle.sql_grammar.specs.QueryTrees.{Left, not_sub}
use Rattle.sql_grammar.specs.QueryTailTrees.{Enclosed, Inside}
use Rattle.sql_grammar.specs.QueryGrammar.{Production, The, in_parentheses, minus, rules_with, query, item, reference, expr, rest, unary, primary, agg}
use Rattle.sql_grammar.specs.QueryTails.{insides, tail_rules, expr_tail, inner, in_inner}
use Rattle.sql_grammar.specs.FactoredQueries.{factored_with, sort, after_query, after_expression, factored_of_insides, no_parenthesis, going_on, going_on_by_and, enclosed_first, literal, named_first}
use Rattle.sql_grammar.proofs.queries.QuerySplits.{is_kept}
use Rattle.sql_grammar.proofs.queries.QuerySplits as split
use Rattle.sql_grammar.proofs.queries.QueryInside.{P, fl, opens, closes, deeper_there, sorted, sorted_query, sorted_prefix, query_inside, query_prefix_inside, tail_identity}
use Rattle.sql_grammar.proofs.queries.Variants.{Variant}

module _ (variant : Variant) where
  own : (p : Production) → factored_with variant.froms p ≡ rules_with tail_rules variant.froms p → Alike kind_of (P variant) (ref p) (rules_with tail_rules variant.froms p)
  own p e = record {
    there = λ room. subst (λ f. Includes (fl variant room f) (P variant room p)) e (opens variant room p);
    back = λ room. subst (λ f. Includes (P variant room p) (fl variant room f)) e (closes variant room p);
  }

  -- the productions that the left-factored grammar keeps
  pub kept : (p : Production) → is_kept p ≡ true → Alike kind_of (P variant) (ref p) (rules_with tail_rules variant.froms p)
  kept item e = cc
  kept reference e = cc
  kept rest e = cc
  kept primary e = cc
  kept agg e = cc
  kept inner e = cc
  kept in_inner e = cc
  kept other e = own other refl

  abbrev pub Same : {A : Type 0} → The A → The A → Type 0
  Same f g = Alike kind_of (P variant) f g

  factored_primary : Same (ref primary) (alt literal (alt named_first enclosed_first))
  factored_primary = record { there = λ room. opens variant room primary; back = λ room. closes variant room primary }

  -- first parts that begin with no parenthesis
  abbrev pub bare_first : The (Built Expr)
  bare_first = alt minus (alt literal named_first)

  first_parts : Same (ref unary) (alt bare_first enclosed_first)
  first_parts =
      chain (kept unary refl)
      (chain (alike_alt (alike_itself minus) factored_primary)
      (chain (alike_alt (alike_itself minus) (alt_alt literal named_first enclosed_first))
      (alt_alt minus (alt literal named_first) enclosed_first)))

  -- an expression of the left-factored grammar
  pub expr_parts : Same (ref expr) (alt going_on_by_and (alt (going_on bare_first) (going_on enclosed_first)))
  expr_parts =
      chain (split.expr_split variant.froms (P variant) kept)
      (alike_alt (alike_itself going_on_by_and)
      (chain (split.going_on_in variant.froms (P variant) kept first_parts) (split.going_on_alt variant.froms (P variant) kept bare_first enclosed_first)))

  -- ---- an expression in parentheses that begins with a parenthesis

  pub counted_as : (l : Left) (x : Built Expr) (count : ℕ) → l.0 ≡ x → l.1 ≡ count → l ≡ (x, count)
  counted_as l x count e f = let g : Built Expr → Left = λ z. (z, l.1) in let h : ℕ → Left = λ z. (x, z) in ap g e ∙ ap h f

  sub_is_sub : (p : Enclosed) → not_sub (t.sub p) ≡ false
  unfolding everything
  sub_is_sub p = refl

  module _ {M : Type 0} (more : The M) (room : Room) where
    abbrev forked : The (Inside M)
    forked = fork sorted (after_query more) (after_expression more)

    -- with nothing behind it ( query ) stays a subquery
    stays_sub : (a : List Lexeme) (p : Enclosed) (f : Left → Built Expr) → (P variant room expr_tail).spells [] f → not_sub (f (t.sub p, length a)) ≡ true → ⊥
    stays_sub a p f r n =
        let e : f (t.sub p, length a) ≡ t.sub p = ap (λ g. g (t.sub p, length a)) (tail_identity variant room f r) in
        let i : not_sub (t.sub p) ≡ true = subst (λ z. not_sub z ≡ true) e n in
        let j : false ≡ true = sym (sub_is_sub p) ∙ i in cc

    -- ( query ) with a tail that makes no subquery of it
    tail_of_query : (a b y : List Lexeme) (p : Enclosed) (f : Left → Built _) (m : M) → (fl variant room sorted).spells a (inl (p, length a)) → (P variant room expr_tail).spells b f
        → not_sub (f (t.sub p, length a)) ≡ true → (fl variant room more).spells y m → (fl variant room forked).spells (a ++ (b ++ y)) (inr (inr (f (t.sub p, length a), m)))
    tail_of_query a [] y p f m s r n q = absurd (stays_sub a p f r n)
    tail_of_query a (c ∷ b) y p f m s r n q =
        (a, (c ∷ b) ++ y, inl (p, length a), refl, s, ((λ u. inr (inr (f (t.sub u.0, u.1), m))), inr (inl ((f, m), (c ∷ b, y, refl, (r, λ e. cc), q), refl)), refl))

    pub tail_of_expression : (a b y : List Lexeme) (left : Left) (f : Left → Built _) (m : M) → (fl variant room sorted).spells a (inr left) → (P variant room expr_tail).spells b f
        → (fl variant room more).spells y m → (fl variant room forked).spells (a ++ (b ++ y)) (inr (inr (f left, m)))
    tail_of_expression a b y left f m s r q =
        (a, b ++ y, inr left, refl, s, ((λ u. inr (inr (f u, m))), ((f, m), (b, y, refl, r, q), refl), refl))

    -- where more goes on behind them
    more_of_query : (a b y : List Lexeme) (p : Enclosed) (f : Left → Built _) → (fl variant room sorted).spells a (inl (p, length a)) → (P variant room expr_tail).spells b f
        → not_sub (f (t.sub p, length a)) ≡ true → (fl variant room more).prefix y → (fl variant room forked).prefix (a ++ (b ++ y))
    more_of_query a [] y p f s r n q = absurd (stays_sub a p f r n)
    more_of_query a (c ∷ b) y p f s r n q = inr (a, (c ∷ b) ++ y, inl (p, length a), refl, s, inr (inl (inr (c ∷ b, y, f, refl, (r, λ e. cc), q))))

    pub more_of_expression : (a b y : List Lexeme) (left : Left) (f : Left → Built _) → (fl variant room sorted).spells a (inr left) → (P variant room expr_tail).spells b f
        → (fl variant room more).prefix y → (fl variant room forked).prefix (a ++ (b ++ y))
    more_of_expression a b y left f s r q = inr (a, b ++ y, inr left, refl, s, inr (b, y, f, refl, r, q))

    -- a first part in parentheses, sorted, and its value
    pub sorted_of : (a : List Lexeme) (w : Lexeme × Inside (Unit {0})) → (fl variant room (in_parentheses (ref inner))).spells a w → (fl variant room sorted).spells a (sort (w, length a))
    sorted_of a w s = ((w, length a), (s, refl), refl)

    enclosed_spells : (a b y : List Lexeme) (w : Lexeme × Inside (Unit {0})) (f : Left → Built _) (m : M) → (fl variant room (in_parentheses (ref inner))).spells a w → (P variant room expr_tail).spells b f
        → not_sub (f (tails.enclosed w, length a)) ≡ true → (fl variant room more).spells y m → (fl variant room forked).spells (a ++ (b ++ y)) (inr (inr (f (tails.enclosed w, length a), m)))
    enclosed_spells a b y (o, inl q) f m s r n u = tail_of_query a b y (o, q) f m (sorted_of a (o, inl q) s) r n u
    enclosed_spells a b y (o, inr (inl p)) f m s r n u = tail_of_query a b y (o, p.0.1) f m (sorted_of a (o, inr (inl p)) s) r n u
    enclosed_spells a b y (o, inr (inr p)) f m s r n u = tail_of_expression a b y (p.0, length a) f m (sorted_of a (o, inr (inr p)) s) r u

    enclosed_more : (a b y : List Lexeme) (w : Lexeme × Inside (Unit {0})) (f : Left → Built _) → (fl variant room (in_parentheses (ref inner))).spells a w → (P variant room expr_tail).spells b f
        → not_sub (f (tails.enclosed w, length a)) ≡ true → (fl variant room more).prefix y → (fl variant room forked).prefix (a ++ (b ++ y))
    enclosed_more a b y (o, inl q) f s r n u = more_of_query a b y (o, q) f (sorted_of a (o, inl q) s) r n u
    enclosed_more a b y (o, inr (inl p)) f s r n u = more_of_query a b y (o, p.0.1) f (sorted_of a (o, inr (inl p)) s) r n u
    enclosed_more a b y (o, inr (inr p)) f s r n u = more_of_expression a b y (p.0, length a) f (sorted_of a (o, inr (inr p)) s) r u

    -- where the tail itself goes on
    pub enclosed_tail : (a b : List Lexeme) (w : Lexeme × Inside (Unit {0})) → (fl variant room (in_parentheses (ref inner))).spells a w → (P variant room expr_tail).prefix b → (fl variant room forked).prefix (a ++ b)
    enclosed_tail a b (o, inl q) s r = inr (a, b, inl ((o, q), length a), refl, sorted_of a (o, inl q) s, inr (inl (inl r)))
    enclosed_tail a b (o, inr (inl p)) s r = inr (a, b, inl ((o, p.0.1), length a), refl, sorted_of a (o, inr (inl p)) s, inr (inl (inl r)))
    enclosed_tail a b (o, inr (inr p)) s r = inr (a, b, inr (p.0, length a), refl, sorted_of a (o, inr (inr p)) s, inl r)

    -- ---- each of the three

    abbrev left_factored_insides : The (Inside M)
    left_factored_insides = factored_of_insides more

    -- an expression that is no subquery
    pub expr_spells : (x y : List Lexeme) (v : Built Expr) (m : M) → (P variant room expr).spells x v → not_sub v ≡ true → (fl variant room more).spells y m → (fl variant room left_factored_insides).spells (x ++ y) (inr (inr (v, m)))
    expr_spells x y v m s n r = go ((expr_parts.there room).spells x v s)
      where
        plainly_read : (fl variant room no_parenthesis).spells x v → (fl variant room left_factored_insides).spells (x ++ y) (inr (inr (v, m)))
        plainly_read b = inr (inl ((v, m), (x, y, refl, b, r), refl))

        go : (fl variant room (alt going_on_by_and (alt (going_on bare_first) (going_on enclosed_first)))).spells x v → (fl variant room left_factored_insides).spells (x ++ y) (inr (inr (v, m)))
        go (inl b) = plainly_read (inr b)
        go (inr (inl b)) = plainly_read (inl b)
        go (inr (inr (u, (a, b, e, ((w, o, i), c), q), j))) =
            let left : u.0 ≡ (tails.enclosed w, length a) = counted_as u.0 (tails.enclosed w) (length a) i c in
            let value : v ≡ u.1 (tails.enclosed w, length a) = j ∙ ap u.1 left in
            subst (λ z. (fl variant room left_factored_insides).spells (z ++ y) (inr (inr (v, m)))) (sym e)
            (subst (λ z. (fl variant room left_factored_insides).spells z (inr (inr (v, m)))) (sym (append_assoc a b y))
            (subst (λ z. (fl variant room left_factored_insides).spells (a ++ (b ++ y)) (inr (inr (z, m)))) (sym value)
            (inr (inr (enclosed_spells a b y w u.1 m o q (subst (λ z. not_sub z ≡ true) value n) r)))))

    -- its prefixes
    pub expr_prefix : (x : List Lexeme) → (P variant room expr).prefix x → (fl variant room left_factored_insides).prefix x
    expr_prefix x f = go ((expr_parts.there room).prefix x f)
      where
        go : (fl variant room (alt going_on_by_and (alt (going_on bare_first) (going_on enclosed_first)))).prefix x → (fl variant room left_factored_insides).prefix x
        go (inl b) = inr (inl (inl (inr b)))
        go (inr (inl b)) = inr (inl (inl (inl b)))
        go (inr (inr (inl b))) = inr (inr (inl b))
        go (inr (inr (inr (a, b, u, e, ((w, o, i), c), q)))) = inr (inr (subst (fl variant room forked).prefix (sym e) (enclosed_tail a b w o q)))

    -- and those of what follows it
    expr_more : (x y : List Lexeme) (v : Built Expr) → (P variant room expr).spells x v → not_sub v ≡ true → (fl variant room more).prefix y → (fl variant room left_factored_insides).prefix (x ++ y)
    expr_more x y v s n r = go ((expr_parts.there room).spells x v s)
      where
        go : (fl variant room (alt going_on_by_and (alt (going_on bare_first) (going_on enclosed_first)))).spells x v → (fl variant room left_factored_insides).prefix (x ++ y)
        go (inl b) = inr (inl (inr (x, y, v, refl, inr b, r)))
        go (inr (inl b)) = inr (inl (inr (x, y, v, refl, inl b, r)))
        go (inr (inr (u, (a, b, e, ((w, o, i), c), q), j))) =
            let left : u.0 ≡ (tails.enclosed w, length a) = counted_as u.0 (tails.enclosed w) (length a) i c in
            let value : v ≡ u.1 (tails.enclosed w, length a) = j ∙ ap u.1 left in
            subst (λ z. (fl variant room left_factored_insides).prefix (z ++ y)) (sym e)
            (subst (fl variant room left_factored_insides).prefix (sym (append_assoc a b y))
            (inr (inr (enclosed_more a b y w u.1 o q (subst (λ z. not_sub z ≡ true) value n) r))))

    pub query_sorted : (x : List Lexeme) (p : Enclosed) → (fl variant room (in_parentheses (ref query))).spells x p → (fl variant room sorted).spells x (inl (p, length x))
    query_sorted x p s = sorted_query variant room (λ r. P variant r query) (query_inside variant) x p ((deeper_there (P variant) (ref query) room).spells x p s)

    pub query_prefix : (x : List Lexeme) → (fl variant room (in_parentheses (ref query))).prefix x → (fl variant room sorted).prefix x
    query_prefix x s = sorted_prefix variant room (λ r. P variant r query) (query_inside variant) (query_prefix_inside variant) x ((deeper_there (P variant) (ref query) room).prefix x s)

    insides_spells : (ts : List Lexeme) (v : Inside M) → (fl variant room (insides more)).spells ts v → (fl variant room left_factored_insides).spells ts v
    insides_spells ts v (inl (q, inl (u, s, i), j)) = inl (u, s, j ∙ ap (λ z. inl z) i)
    insides_spells ts v (inl (q, inr (u, (x, y, e, (p, s, l), r), i), j)) =
        inr (inr (x, y, inl (p, length x), e, query_sorted x p s, ((λ z. inl (u.1 z.0.1)), inl (u.1, r, refl), j ∙ ap (λ z. inl z) (i ∙ ap u.1 l))))
    insides_spells ts v (inr (inl (u, (x, y, e, s, r), j))) =
        inr (inr (x, y, inl (u.0, length x), e, query_sorted x u.0 s, ((λ z. inr (inl (z.0, u.1))), inr (inr (u.1, r, refl)), j)))
    insides_spells ts v (inr (inr (u, (x, y, e, (s, n), r), j))) =
        subst (λ z. (fl variant room left_factored_insides).spells ts z) (sym j) (subst (λ z. (fl variant room left_factored_insides).spells z (inr (inr u))) (sym e) (expr_spells x y u.0 u.1 s n r))

    insides_prefix : (ts : List Lexeme) → (fl variant room (insides more)).prefix ts → (fl variant room left_factored_insides).prefix ts
    insides_prefix ts (inl (inl s)) = inl s
    insides_prefix ts (inl (inr (inl s))) = inr (inr (inl (query_prefix ts s)))
    insides_prefix ts (inl (inr (inr (x, y, q, e, (p, s, l), r)))) = inr (inr (inr (x, y, inl (p, length x), e, query_sorted x p s, inl r)))
    insides_prefix ts (inr (inl (inl s))) = inr (inr (inl (query_prefix ts s)))
    insides_prefix ts (inr (inl (inr (x, y, p, e, s, r)))) = inr (inr (inr (x, y, inl (p, length x), e, query_sorted x p s, inr (inr r))))
    insides_prefix ts (inr (inr (inl s))) = expr_prefix ts s
    insides_prefix ts (inr (inr (inr (x, y, v, e, (s, n), r)))) = subst (fl variant room left_factored_insides).prefix (sym e) (expr_more x y v s n r)

    pub insides_included : Includes (fl variant room (factored_of_insides more)) (fl variant room (insides more))
    insides_included = record { spells = insides_spells; prefix = insides_prefix }
