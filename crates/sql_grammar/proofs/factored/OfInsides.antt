-- What the left-factored grammar reads behind a parenthesis may stand there by the grammar.
use Rattle.std.proofs.Common.{◌≡◌, ℕ, zero, suc, true, List, ◌++◌, inl, inr, refl, sym, ◌∙◌, ap, subst, Option, Some, None}
use Rattle.grammar.specs.Form.{Room, alt, map, ref}
use Rattle.sql_lex.specs.Lexemes.{Lexeme}
use Rattle.sql_model.specs.declared.tree.Expr.{Expr}
use Rattle.sql_model.specs.Compute.{everything}
use Rattle.sql_grammar.specs.Kinds as k
use Rattle.sql_grammar.specs.Numbering.{Built}
use Rattle.sql_grammar.specs.QueryTrees as t
use Rattle.sql_grammar.specs.QueryTrees.{Left, not_sub}
use Rattle.sql_grammar.specs.QueryTailTrees.{Enclosed, Inside}
use Rattle.sql_grammar.specs.QueryGrammar as grammar
use Rattle.sql_grammar.specs.QueryGrammar.{The, parens, minus, not_neg, exists, unary, primary, expr}
use Rattle.sql_grammar.specs.QueryTails.{insides, and_tail}
use Rattle.sql_grammar.specs.Queries.{rules}
use Rattle.sql_grammar.specs.FactoredQueries.{column_of, literal, named_first, arguments, one_argument, count_arguments, going_on, going_on_by_and, no_parenthesis, after_query, after_expression, factored_of_insides}
use Rattle.sql_grammar.proofs.queries.QuerySplits as split
use Rattle.sql_grammar.proofs.queries.QueryInside.{sorted}
use Rattle.grammar.proofs.factorings.Alike.{at_first, at_second, either, itself, through, to_alike}
use Rattle.sql_grammar.proofs.queries.QueryWords.{Below, go_on_below}
use Rattle.sql_grammar.proofs.queries.NoSubqueries.{joined_is}
use Rattle.sql_grammar.proofs.factored.Insides.{G, gl, opens, own, tail_keeps, tail_makes, joined_at, tailed, first_and_prefix}
use Rattle.sql_grammar.proofs.factored.Words.{closed, named_first_left_factored}
use Rattle.sql_grammar.proofs.factored.Parens.{literal_left_factored, first_prefix, subquery_first, sorted_as_query, sorted_as_expr, sorted_prefix_first}
use Rattle.sql_grammar.proofs.queries.Variants.{Variant}

module _ (variant : Variant) where
  -- ---- expressions that begin with no parenthesis

  pub primary_unary : Below (G variant) (rules primary) (ref unary)
  primary_unary = through (closed variant primary) (through (at_second minus (itself (ref primary))) (closed variant unary))

  pub minus_unary : Below (G variant) minus (ref unary)
  minus_unary = through (at_first (ref primary) (itself minus)) (closed variant unary)

  abbrev bare_first : The (Built Expr)
  bare_first = alt minus (alt literal named_first)

  -- expressions by their first parts
  pub by_first : {f : The (Built Expr)} → Below (G variant) f (ref unary) → Below (G variant) (alt (going_on f) going_on_by_and) (ref expr)
  by_first l =
      through (either (at_second going_on_by_and (go_on_below l)) (at_first (going_on (ref unary)) (itself going_on_by_and)))
      (to_alike (split.expr_split variant.froms (G variant) (own variant)))

  bare_below : Below (G variant) no_parenthesis (ref expr)
  bare_below = by_first (either minus_unary (either (through (literal_left_factored variant) primary_unary) (through (named_first_left_factored variant) primary_unary)))

  -- ---- they are no subqueries

  as_made : (x y : Built Expr) → x ≡ y → not_sub y ≡ true → not_sub x ≡ true
  as_made x y i n = subst (λ z. not_sub z ≡ true) (sym i) n

  column_is_none : (w : Lexeme) (o : Option Lexeme) → not_sub (column_of w o) ≡ true
  unfolding everything
  column_is_none w None = refl
  column_is_none w (Some n) = refl

  -- what is made of a word by its arguments
  abbrev MakesNoSub : The (Lexeme → Built Expr) → Type 0
  MakesNoSub f = (room : Room) (ts : List Lexeme) (g : Lexeme → Built Expr) → (gl variant room f).spells ts g → (w : Lexeme) → not_sub (g w) ≡ true

  in_parens : (f : The (Lexeme → Built Expr)) → MakesNoSub f → MakesNoSub (parens f)
  in_parens f m None ts g (p, (x, y, e, o, (n, (z, c, e1, s, q), j)), i) w = as_made _ _ (ap (λ k. k w) (i ∙ j)) (m None z n.0 s w)
  in_parens f m (Some zero) ts g (p, s, i) w = absurd s
  in_parens f m (Some (suc levels)) ts g (p, (x, y, e, o, (n, (z, c, e1, s, q), j)), i) w = as_made _ _ (ap (λ k. k w) (i ∙ j)) (m (Some levels) z n.0 s w)

  call_makes : MakesNoSub arguments
  unfolding everything
  call_makes room ts g (args, s, i) w = as_made _ _ (ap (λ k. k w) i) refl

  argument_makes : MakesNoSub one_argument
  unfolding everything
  argument_makes room ts g (p, s, i) w = as_made _ _ (ap (λ k. k w) i) refl

  count_or_argument : MakesNoSub (alt (map (λ sign word. t.count_rows word) (grammar.a k.Star)) one_argument)
  unfolding everything
  count_or_argument room ts g (inl (sign, s, i)) w = as_made _ _ (ap (λ k. k w) i) refl
  count_or_argument room ts g (inr s) w = argument_makes room ts g s w

  count_makes : MakesNoSub count_arguments
  count_makes = in_parens (alt (map (λ sign word. t.count_rows word) (grammar.a k.Star)) one_argument) count_or_argument

  named_is : (room : Room) (ts : List Lexeme) (v : Built Expr) → (gl variant room named_first).spells ts v → not_sub v ≡ true
  named_is room ts v (inl (u, s, i)) = as_made _ _ i (column_is_none u.0 u.1)
  named_is room ts v (inr (inl (u, (x, y, e, w, inl (o, d, l)), i))) = as_made _ _ (i ∙ ap (λ k. k u.0) l) (column_is_none u.0 o)
  named_is room ts v (inr (inl (u, (x, y, e, w, inr (g, r, l)), i))) = as_made _ _ (i ∙ ap (λ k. k u.0) l) (call_makes room y g r u.0)
  named_is room ts v (inr (inr (inl (u, (x, y, e, w, inl (o, d, l)), i)))) = as_made _ _ (i ∙ ap (λ k. k u.0) l) (column_is_none u.0 o)
  named_is room ts v (inr (inr (inl (u, (x, y, e, w, inr (g, r, l)), i)))) = as_made _ _ (i ∙ ap (λ k. k u.0) l) (count_makes room y g r u.0)
  named_is room ts v (inr (inr (inr (u, (x, y, e, w, inl (o, d, l)), i)))) = as_made _ _ (i ∙ ap (λ k. k u.0) l) (column_is_none u.0 o)
  named_is room ts v (inr (inr (inr (u, (x, y, e, w, inr (g, r, l)), i)))) = as_made _ _ (i ∙ ap (λ k. k u.0) l) (in_parens one_argument argument_makes room y g r u.0)

  bare_is : (room : Room) (ts : List Lexeme) (v : Built Expr) → (gl variant room bare_first).spells ts v → not_sub v ≡ true
  unfolding everything
  bare_is room ts v (inl (p, s, i)) = as_made _ _ i refl
  bare_is room ts v (inr (inl (inl (w, s, i)))) = as_made _ _ i refl
  bare_is room ts v (inr (inl (inr (w, s, i)))) = as_made _ _ i refl
  bare_is room ts v (inr (inr s)) = named_is room ts v s

  not_or_exists_is : (room : Room) (ts : List Lexeme) (v : Built Expr) → (gl variant room (alt not_neg exists)).spells ts v → not_sub v ≡ true
  unfolding everything
  not_or_exists_is room ts v (inl (p, q, j)) = as_made _ _ j refl
  not_or_exists_is room ts v (inr (p, q, j)) = as_made _ _ j refl

  by_and_is : (room : Room) (ts : List Lexeme) (v : Built Expr) → (gl variant room going_on_by_and).spells ts v → not_sub v ≡ true
  by_and_is room ts v (u, (x, y, e, s, r), i) = go ((opens variant room and_tail).spells y u.1 r)
    where
      go : (gl variant room (rules and_tail)).spells y u.1 → not_sub v ≡ true
      go (w, c, j) = as_made _ _ (i ∙ ap (λ f. f u.0) j) (joined_is w.0 w.1 u.0 (not_or_exists_is room x u.0 s))

  no_parenthesis_is : (room : Room) (ts : List Lexeme) (v : Built Expr) → (gl variant room no_parenthesis).spells ts v → not_sub v ≡ true
  no_parenthesis_is room ts v (inl (u, (x, y, e, (s, c), r), i)) = as_made _ _ i (tail_keeps variant room y u.1 r u.0 (bare_is room x u.0.0 s))
  no_parenthesis_is room ts v (inr s) = by_and_is room ts v s

  -- ---- behind a parenthesis

  module _ {M : Type 0} (more : The M) (room : Room) where
    -- an expression, and more
    plain_more : (ts x y : List Lexeme) (v : Built Expr) (m : M) (i : Inside M) → ts ≡ x ++ y → (G variant room expr).spells x v → not_sub v ≡ true → (gl variant room more).spells y m → i ≡ inr (inr (v, m)) → (gl variant room (insides more)).spells ts i
    plain_more ts x y v m i e s n r j = inr (inr ((v, m), (x, y, e, (s, n), r), j))

    plain_more_prefix : (ts x y : List Lexeme) (v : Built Expr) → ts ≡ x ++ y → (G variant room expr).spells x v → not_sub v ≡ true → (gl variant room more).prefix y → (gl variant room (insides more)).prefix ts
    plain_more_prefix ts x y v e s n r = inr (inr (inr (x, y, v, e, (s, n), r)))

    query_spells : (ts x y : List Lexeme) (p : Enclosed) (n : ℕ) (g : Enclosed × ℕ → Inside M) (v : Inside M) → ts ≡ x ++ y → (gl variant room sorted).spells x (inl (p, n)) → (gl variant room (after_query more)).spells y g
        → v ≡ g (p, n) → (gl variant room (insides more)).spells ts v
    query_spells ts x y p n g v e s (inl (f, r, i)) j =
        let q = sorted_as_query variant room x p n s in
        inl (f p.1, inr ((p.1, f), (x, y, e, (p, q.0, refl), r), refl), j ∙ ap (λ h. h (p, n)) i)
    query_spells ts x y p n g v e s (inr (inl (u, (a, b, e1, (r, c), m), i))) j =
        let q = sorted_as_query variant room x p n s in
        plain_more ts (x ++ a) b (u.0 (t.sub p, n)) u.1 v (joined_at ts x y a b e e1) (tailed variant room x a (t.sub p) n u.0 q.1 (subquery_first variant room x p q.0) r)
        (tail_makes variant room a u.0 r c (t.sub p, n)) m (j ∙ ap (λ h. h (p, n)) i)
    query_spells ts x y p n g v e s (inr (inr (m, r, i))) j =
        let q = sorted_as_query variant room x p n s in
        inr (inl ((p, m), (x, y, e, q.0, r), j ∙ ap (λ h. h (p, n)) i))

    expr_spells : (ts x y : List Lexeme) (left : Left) (g : Left → Inside M) (v : Inside M) → ts ≡ x ++ y → (gl variant room sorted).spells x (inr left) → (gl variant room (after_expression more)).spells y g
        → v ≡ g left → (gl variant room (insides more)).spells ts v
    expr_spells ts x y left g v e s (u, (a, b, e1, r, m), i) j =
        let q = sorted_as_expr variant room x left s in
        plain_more ts (x ++ a) b (u.0 left) u.1 v (joined_at ts x y a b e e1) (tailed variant room x a left.0 left.1 u.0 q.1.0 q.0 r)
        (tail_keeps variant room a u.0 r left q.1.1) m (j ∙ ap (λ h. h left) i)

    insides_spells : (ts : List Lexeme) (v : Inside M) → (gl variant room (factored_of_insides more)).spells ts v → (gl variant room (insides more)).spells ts v
    insides_spells ts v (inl (u, s, i)) = inl (u.1 u.0, inl (u, s, refl), i)
    insides_spells ts v (inr (inl (u, (x, y, e, b, m), i))) =
        plain_more ts x y u.0 u.1 v e ((bare_below.holds room).spells x u.0 b) (no_parenthesis_is room x u.0 b) m i
    insides_spells ts v (inr (inr (x, y, inl c, e, s, (g, r, i)))) = query_spells ts x y c.0 c.1 g v e s r i
    insides_spells ts v (inr (inr (x, y, inr left, e, s, (g, r, i)))) = expr_spells ts x y left g v e s r i

    -- ---- its prefixes

    query_prefixes : (ts x y : List Lexeme) (p : Enclosed) (n : ℕ) → ts ≡ x ++ y → (gl variant room sorted).spells x (inl (p, n)) → (gl variant room (after_query more)).prefix y → (gl variant room (insides more)).prefix ts
    query_prefixes ts x y p n e s (inl r) = inl (inr (inr (x, y, p.1, e, (p, (sorted_as_query variant room x p n s).0, refl), r)))
    query_prefixes ts x y p n e s (inr (inl (inl r))) =
        let q = sorted_as_query variant room x p n s in
        inr (inr (inl (subst (G variant room expr).prefix (sym e) (first_and_prefix variant room x y (t.sub p) (subquery_first variant room x p q.0) r))))
    query_prefixes ts x y p n e s (inr (inl (inr (a, b, f, e1, (r, c), m)))) =
        let q = sorted_as_query variant room x p n s in
        plain_more_prefix ts (x ++ a) b (f (t.sub p, n)) (joined_at ts x y a b e e1) (tailed variant room x a (t.sub p) n f q.1 (subquery_first variant room x p q.0) r) (tail_makes variant room a f r c (t.sub p, n)) m
    query_prefixes ts x y p n e s (inr (inr m)) = inr (inl (inr (x, y, p, e, (sorted_as_query variant room x p n s).0, m)))

    expr_prefixes : (ts x y : List Lexeme) (left : Left) → ts ≡ x ++ y → (gl variant room sorted).spells x (inr left) → (gl variant room (after_expression more)).prefix y → (gl variant room (insides more)).prefix ts
    expr_prefixes ts x y left e s (inl r) =
        inr (inr (inl (subst (G variant room expr).prefix (sym e) (first_and_prefix variant room x y left.0 (sorted_as_expr variant room x left s).0 r))))
    expr_prefixes ts x y left e s (inr (a, b, f, e1, r, m)) =
        let q = sorted_as_expr variant room x left s in
        plain_more_prefix ts (x ++ a) b (f left) (joined_at ts x y a b e e1) (tailed variant room x a left.0 left.1 f q.1.0 q.0 r) (tail_keeps variant room a f r left q.1.1) m

    insides_prefix : (ts : List Lexeme) → (gl variant room (factored_of_insides more)).prefix ts → (gl variant room (insides more)).prefix ts
    insides_prefix ts (inl s) = inl (inl s)
    insides_prefix ts (inr (inl (inl b))) = inr (inr (inl ((bare_below.holds room).prefix ts b)))
    insides_prefix ts (inr (inl (inr (x, y, v, e, b, m)))) = plain_more_prefix ts x y v e ((bare_below.holds room).spells x v b) (no_parenthesis_is room x v b) m
    insides_prefix ts (inr (inr (inl s))) = inr (inr (inl (first_prefix variant room ts (sorted_prefix_first variant room ts s))))
    insides_prefix ts (inr (inr (inr (x, y, inl c, e, s, r)))) = query_prefixes ts x y c.0 c.1 e s r
    insides_prefix ts (inr (inr (inr (x, y, inr left, e, s, r)))) = expr_prefixes ts x y left e s r

  pub insides_left_factored : {M : Type 0} (more : The M) → Below (G variant) (factored_of_insides more) (insides more)
  insides_left_factored more = record { holds = λ room. record { spells = insides_spells more room; prefix = insides_prefix more room } }
