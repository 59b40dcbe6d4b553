-- What the left-factored grammar reads in parentheses, by the grammar.
use Rattle.std.proofs.Common.{◌≡◌, ℕ, zero, suc, true, List, [], ◌++◌, length, ◌⊎◌, inl, inr, refl, sym, ◌∙◌, ap, subst, Some, None}
use Rattle.std.proofs.lemmas.List.{append-nil}
use Rattle.grammar.specs.Form.{Room, empty, seq, alt, map, only, ref}
use Rattle.grammar.proofs.languages.Heights.{name_prefixes}
use Rattle.sql_lex.specs.Lexemes.{Lexeme}
use Rattle.sql_model.specs.declared.tree.Expr.{Expr}
use Rattle.sql_model.specs.declared.tree.Query.{Query}
use Rattle.sql_grammar.specs.Kinds.{kind_of}
use Rattle.sql_grammar.specs.Numbering.{Built}
use Rattle.sql_grammar.specs.QueryTrees as t
use Rattle.sql_grammar.specs.QueryTrees.{Left, not_sub}
use Rattle.sql_grammar.specs.QueryTailTrees.{Enclosed, Inside}
use Rattle.sql_grammar.specs.QueryGrammar.{The, in_parentheses, parens, rules_with, query, operand, block, unary, primary, expr}
use Rattle.sql_grammar.specs.QueryTails.{insides, longer_query, tail_rules, set_tail, expr_tail, inner}
use Rattle.sql_grammar.specs.Queries.{rules}
use Rattle.sql_grammar.specs.FactoredQueries.{enclosed_first, literal, factored}
use Rattle.sql_grammar.proofs.queries.QuerySplits as split
use Rattle.sql_grammar.proofs.queries.QueryInside.{no_operators, sorted, deeper_there, deeper_back, deeper_spells, deeper_prefix}
use Rattle.grammar.proofs.factorings.Alike.{either}
use Rattle.sql_grammar.proofs.queries.QueryWords.{Below, parens_alt, parens_map}
use Rattle.sql_grammar.proofs.factored.Insides.{G, gl, opens, closes, own, no_sets, first_and_tail}
use Rattle.sql_grammar.proofs.factored.Words.{named_first_left_factored}
use Rattle.sql_grammar.proofs.queries.Variants.{Variant}

module _ (variant : Variant) where
  -- ---- queries and expressions

  -- a query in parentheses is an operand, and so a query
  pub wrapped_query : (room : Room) (ts x y : List Lexeme) (p : Enclosed) → ts ≡ x ++ y → (gl variant room (in_parentheses (ref query))).spells x p → y ≡ [] → (G variant room query).spells ts p.1
  wrapped_query room ts x y p e s n =
      ((split.query_split variant.froms (G variant) (own variant)).back room).spells ts p.1
      ((p.1, λ q. q), (x, y, e, (closes variant room operand).spells x p.1 (inr (p, s, refl)), subst (λ z. (G variant room set_tail).spells z (λ q. q)) (sym n) (no_sets variant room)), refl)

  pub operand_prefix : (room : Room) (ts : List Lexeme) → (gl variant room (in_parentheses (ref query))).prefix ts → (G variant room query).prefix ts
  operand_prefix room ts s = ((split.query_split variant.froms (G variant) (own variant)).back room).prefix ts (inl ((closes variant room operand).prefix ts (inr s)))

  -- a first part alone is an expression
  pub first_alone : (room : Room) (ts : List Lexeme) (v : Built Expr) → (G variant room primary).spells ts v → (G variant room expr).spells ts v
  first_alone room ts v s =
      subst (λ z. (G variant room expr).spells z v) (append-nil ts)
      (first_and_tail variant room ts [] v (λ left. left.0) s ((closes variant room expr_tail).spells [] (λ left. left.0) (no_operators (G variant) room)))

  pub first_prefix : (room : Room) (ts : List Lexeme) → (G variant room primary).prefix ts → (G variant room expr).prefix ts
  first_prefix room ts s = ((split.expr_split variant.froms (G variant) (own variant)).back room).prefix ts (inr (inl ((closes variant room unary).prefix ts (inr s))))

  -- a subquery is a first part
  pub subquery_first : (room : Room) (ts : List Lexeme) (p : Enclosed) → (gl variant room (in_parentheses (ref query))).spells ts p → (G variant room primary).spells ts (t.sub p)
  subquery_first room ts p s = (closes variant room primary).spells ts (t.sub p) (inr (inr (inr (inr (inr (inr (p, s, refl)))))))

  -- ---- what may stand in parentheses

  module _ {M : Type 0} (more : The M) (room : Room) where
    pub query_of : (ts : List Lexeme) (q : Built Query) → (gl variant room (insides more)).spells ts (inl q) → (G variant room query).spells ts q
    query_of ts q (inl (w, s, j)) = go s
      where
        same : q ≡ w
        same = cc

        go : (gl variant room (alt (map (λ p. p.1 p.0) (seq (ref block) (ref set_tail))) longer_query)).spells ts w → (G variant room query).spells ts q
        go (inl (u, (x, y, e, b, r), i)) =
            ((split.query_split variant.froms (G variant) (own variant)).back room).spells ts q (u, (x, y, e, (closes variant room operand).spells x u.0 (inl b), r), same ∙ i)
        go (inr (u, (x, y, e, p, (r, n)), i)) =
            ((split.query_split variant.froms (G variant) (own variant)).back room).spells ts q (u, (x, y, e, (closes variant room operand).spells x u.0 (inr p), r), same ∙ i)
    query_of ts q (inr (inl (u, s, j))) = cc
    query_of ts q (inr (inr (u, s, j))) = cc

    pub wrapped_of : (ts : List Lexeme) (w : Enclosed × M) → (gl variant room (insides more)).spells ts (inr (inl w)) → (gl variant room (seq (in_parentheses (ref query)) more)).spells ts w
    wrapped_of ts w (inl (u, s, j)) = cc
    wrapped_of ts w (inr (inl (u, s, j))) = let i : w ≡ u = cc in subst ((gl variant room (seq (in_parentheses (ref query)) more)).spells ts) (sym i) s
    wrapped_of ts w (inr (inr (u, s, j))) = cc

    pub expr_of : (ts : List Lexeme) (w : Built Expr × M) → (gl variant room (insides more)).spells ts (inr (inr w)) → (gl variant room (seq (only not_sub (ref expr)) more)).spells ts w
    expr_of ts w (inl (u, s, j)) = cc
    expr_of ts w (inr (inl (u, s, j))) = cc
    expr_of ts w (inr (inr (u, s, j))) = let i : w ≡ u = cc in subst ((gl variant room (seq (only not_sub (ref expr)) more)).spells ts) (sym i) s

    -- its prefixes are a query's or an expression's, with more
    pub prefix_of : (ts : List Lexeme) → (gl variant room (insides more)).prefix ts → (G variant room query).prefix ts ⊎ (gl variant room (seq (ref expr) more)).prefix ts
    prefix_of ts (inl (inl (inl b))) = inl (((split.query_split variant.froms (G variant) (own variant)).back room).prefix ts (inl ((closes variant room operand).prefix ts (inl b))))
    prefix_of ts (inl (inl (inr (x, y, q, e, b, r)))) =
        inl (((split.query_split variant.froms (G variant) (own variant)).back room).prefix ts (inr (x, y, q, e, (closes variant room operand).spells x q (inl b), r)))
    prefix_of ts (inl (inr (inl s))) = inl (operand_prefix room ts s)
    prefix_of ts (inl (inr (inr (x, y, q, e, s, r)))) =
        inl (((split.query_split variant.froms (G variant) (own variant)).back room).prefix ts (inr (x, y, q, e, (closes variant room operand).spells x q (inr s), r)))
    prefix_of ts (inr (inl (inl s))) = inl (operand_prefix room ts s)
    prefix_of ts (inr (inl (inr (x, y, p, e, s, m)))) = inr (inr (x, y, t.sub p, e, first_alone room x (t.sub p) (subquery_first room x p s), m))
    prefix_of ts (inr (inr (inl s))) = inr (inl s)
    prefix_of ts (inr (inr (inr (x, y, v, e, (s, n), m)))) = inr (inr (x, y, v, e, s, m))

  -- ---- in parentheses as a first part

  abbrev plain_expr : The (Built Expr)
  plain_expr = only not_sub (ref expr)

  inner_query : (room : Room) (ts : List Lexeme) (q : Built Query) → (G variant room inner).spells ts (inl q) → (G variant room query).spells ts q
  inner_query room ts q s = query_of empty room ts q ((opens variant room inner).spells ts (inl q) s)

  inner_wrapped : (room : Room) (ts : List Lexeme) (p : Enclosed × Unit {0}) → (G variant room inner).spells ts (inr (inl p)) → (G variant room query).spells ts p.0.1
  inner_wrapped room ts p s = go (wrapped_of empty room ts p ((opens variant room inner).spells ts (inr (inl p)) s))
    where
      go : (gl variant room (seq (in_parentheses (ref query)) empty)).spells ts p → (G variant room query).spells ts p.0.1
      go (x, y, e, r, n) = wrapped_query room ts x y p.0 e r n

  inner_expr : (room : Room) (ts : List Lexeme) (p : Built Expr × Unit {0}) → (G variant room inner).spells ts (inr (inr p)) → (gl variant room plain_expr).spells ts p.0
  inner_expr room ts p s = go (expr_of empty room ts p ((opens variant room inner).spells ts (inr (inr p)) s))
    where
      go : (gl variant room (seq plain_expr empty)).spells ts p → (gl variant room plain_expr).spells ts p.0
      go (x, y, e, r, n) = subst (λ z. (gl variant room plain_expr).spells z p.0) (sym (e ∙ (ap (λ z. x ++ z) n ∙ append-nil x))) r

  -- what stands there as a query, or as an expression that is no subquery
  abbrev queries : The (Built Query ⊎ Built Expr)
  queries = map (λ q. inl q) (ref query)

  abbrev exprs : The (Built Query ⊎ Built Expr)
  exprs = map (λ x. inr x) plain_expr

  abbrev query_or_expr : The (Built Query ⊎ Built Expr)
  query_or_expr = alt queries exprs

  inner_some : (room : Room) (ts : List Lexeme) (v : Inside (Unit {0})) → (G variant room inner).spells ts v → (w : Built Query ⊎ Built Expr) × (gl variant room query_or_expr).spells ts w
  inner_some room ts (inl q) s = (inl q, inl (q, inner_query room ts q s, refl))
  inner_some room ts (inr (inl p)) s = (inl p.0.1, inl (p.0.1, inner_wrapped room ts p s, refl))
  inner_some room ts (inr (inr p)) s = (inr p.0, inr (p.0, inner_expr room ts p s, refl))

  inner_prefix : (room : Room) (ts : List Lexeme) → (G variant room inner).prefix ts → (gl variant room query_or_expr).prefix ts
  inner_prefix room ts s = go (prefix_of empty room ts ((opens variant room inner).prefix ts s))
    where
      go : (G variant room query).prefix ts ⊎ (gl variant room (seq (ref expr) empty)).prefix ts → (gl variant room query_or_expr).prefix ts
      go (inl q) = inl q
      go (inr (inl x)) = inr x
      go (inr (inr (x, y, v, e, s, n))) =
          inr (subst (G variant room expr).prefix (sym (e ∙ (ap (λ z. x ++ z) n ∙ append-nil x))) ((name_prefixes kind_of (rules_with tail_rules variant.froms) room expr).spelled x v s))

  -- a query there
  enclosed_query : (room : Room) (ts : List Lexeme) (w : Lexeme × Inside (Unit {0})) (q : Built Query) → ((r : Room) (z : List Lexeme) → (G variant r inner).spells z w.1 → (G variant r query).spells z q)
      → (gl variant room (in_parentheses (ref inner))).spells ts w → (gl variant room (in_parentheses (ref query))).spells ts (w.0, q)
  enclosed_query room ts w q m s =
      (deeper_back (G variant) (ref query) room).spells ts (w.0, q) (deeper_spells (λ r. G variant r inner) (λ r. G variant r query) room ts w q m ((deeper_there (G variant) (ref inner) room).spells ts w s))

  -- an expression there
  enclosed_expr : (room : Room) (ts : List Lexeme) (o : Lexeme) (p : Built Expr × Unit {0}) → (gl variant room (in_parentheses (ref inner))).spells ts (o, inr (inr p)) → (gl variant room (in_parentheses plain_expr)).spells ts (o, p.0)
  enclosed_expr room ts o p s =
      (deeper_back (G variant) plain_expr room).spells ts (o, p.0)
      (deeper_spells (λ r. G variant r inner) (λ r. gl variant r plain_expr) room ts (o, inr (inr p)) p.0 (λ r z u. inner_expr r z p u) ((deeper_there (G variant) (ref inner) room).spells ts (o, inr (inr p)) s))

  enclosed_prefix : (room : Room) (ts : List Lexeme) → (gl variant room (in_parentheses (ref inner))).prefix ts → (gl variant room (rules primary)).prefix ts
  enclosed_prefix room ts s = go (((parens_alt {E = G variant} queries exprs).there room).prefix ts either_prefix)
    where
      either_prefix : (gl variant room (in_parentheses query_or_expr)).prefix ts
      either_prefix =
          (deeper_back (G variant) query_or_expr room).prefix ts
          (deeper_prefix (λ r. G variant r inner) (λ r. gl variant r query_or_expr) room inner_prefix inner_some ts ((deeper_there (G variant) (ref inner) room).prefix ts s))

      go : (gl variant room (alt (parens queries) (parens exprs))).prefix ts → (gl variant room (rules primary)).prefix ts
      go (inl q) = inr (inr (inr (inr (inr (inr (((parens_map {E = G variant} (λ z. inl z) (ref query)).there room).prefix ts q))))))
      go (inr x) = inr (inr (inr (inr (inr (inl (((parens_map {E = G variant} (λ z. inr z) plain_expr).there room).prefix ts x))))))

  -- ( .. ) is a first part
  pub enclosed_first_left_factored : Below (G variant) enclosed_first (rules primary)
  enclosed_first_left_factored = record { holds = λ room. record { spells = spells room; prefix = enclosed_prefix room } }
    where
      spells : (room : Room) (ts : List Lexeme) (v : Built Expr) → (gl variant room enclosed_first).spells ts v → (gl variant room (rules primary)).spells ts v
      spells room ts v ((o, inl q), s, i) = inr (inr (inr (inr (inr (inr ((o, q), enclosed_query room ts (o, inl q) q (λ r z u. inner_query r z q u) s, i))))))
      spells room ts v ((o, inr (inl p)), s, i) =
          inr (inr (inr (inr (inr (inr ((o, p.0.1), enclosed_query room ts (o, inr (inl p)) p.0.1 (λ r z u. inner_wrapped r z p u) s, i))))))
      spells room ts v ((o, inr (inr p)), s, i) = inr (inr (inr (inr (inr (inl ((o, p.0), enclosed_expr room ts o p s, i))))))

  pub literal_left_factored : Below (G variant) literal (rules primary)
  literal_left_factored = record {
    holds = λ room. record {
      spells = λ ts v s. elim s [ inl a ↦ inl a | inr b ↦ inr (inl b) ];
      prefix = λ ts s. elim s [ inl a ↦ inl a | inr b ↦ inr (inl b) ];
    };
  }

  pub primary_left_factored : Below (G variant) (factored primary) (rules primary)
  primary_left_factored = either literal_left_factored (either (named_first_left_factored variant) enclosed_first_left_factored)

  -- ---- parentheses, sorted

  abbrev numbered : Enclosed → ℕ → Enclosed × ℕ
  numbered p n = (p, n)

  abbrev as_query : Enclosed × ℕ → (Enclosed × ℕ) ⊎ Left
  as_query p = inl p

  sorted_as : (p q : Enclosed) (n m : ℕ) → as_query (p, n) ≡ as_query (q, m) → (p ≡ q) × (n ≡ m)
  sorted_as p q n m e = let f : numbered p n ≡ numbered q m = cc in (ap (λ z. z.0) f, ap (λ z. z.1) f)

  -- with a query
  pub sorted_as_query : (room : Room) (ts : List Lexeme) (p : Enclosed) (n : ℕ) → (gl variant room sorted).spells ts (inl (p, n)) → (gl variant room (in_parentheses (ref query))).spells ts p × (n ≡ length ts)
  sorted_as_query room ts p n s = go s
    where
      found : (q : Enclosed) (m : ℕ) → (gl variant room (in_parentheses (ref query))).spells ts q → m ≡ length ts → as_query (p, n) ≡ as_query (q, m)
          → (gl variant room (in_parentheses (ref query))).spells ts p × (n ≡ length ts)
      found q m r c j = let e = sorted_as p q n m j in (subst ((gl variant room (in_parentheses (ref query))).spells ts) (sym e.0) r, e.1 ∙ c)

      go : (gl variant room sorted).spells ts (inl (p, n)) → (gl variant room (in_parentheses (ref query))).spells ts p × (n ≡ length ts)
      go (((o, inl q), m), (r, c), j) = found (o, q) m (enclosed_query room ts (o, inl q) q (λ k z u. inner_query k z q u) r) c j
      go (((o, inr (inl w)), m), (r, c), j) = found (o, w.0.1) m (enclosed_query room ts (o, inr (inl w)) w.0.1 (λ k z u. inner_wrapped k z w u) r) c j
      go (((o, inr (inr w)), m), (r, c), j) = cc

  expr_passes : (room : Room) (ts : List Lexeme) (p : Lexeme × Built Expr) → (gl variant room (in_parentheses plain_expr)).spells ts p → not_sub p.1 ≡ true
  expr_passes None ts p (x, y, e, q, (n, (z, c, e1, u, k), i)) = subst (λ v. not_sub v ≡ true) (sym i) u.1
  expr_passes (Some zero) ts p u = absurd u
  expr_passes (Some (suc levels)) ts p (x, y, e, q, (n, (z, c, e1, u, k), i)) = subst (λ v. not_sub v ≡ true) (sym i) u.1

  -- with an expression
  pub sorted_as_expr : (room : Room) (ts : List Lexeme) (left : Left) → (gl variant room sorted).spells ts (inr left) → (G variant room primary).spells ts left.0 × ((left.1 ≡ length ts) × (not_sub left.0 ≡ true))
  sorted_as_expr room ts left s = go s
    where
      found : (o : Lexeme) (x : Built Expr) (m : ℕ) → (gl variant room (in_parentheses plain_expr)).spells ts (o, x) → m ≡ length ts → left ≡ (x, m)
          → (G variant room primary).spells ts left.0 × ((left.1 ≡ length ts) × (not_sub left.0 ≡ true))
      found o x m r c e =
          let i : left.0 ≡ x = ap (λ z. z.0) e in (
            (closes variant room primary).spells ts left.0 (inr (inr (inr (inr (inr (inl ((o, x), r, i))))))),
            (ap (λ z. z.1) e ∙ c, subst (λ z. not_sub z ≡ true) (sym i) (expr_passes room ts (o, x) r)),
          )

      go : (gl variant room sorted).spells ts (inr left) → (G variant room primary).spells ts left.0 × ((left.1 ≡ length ts) × (not_sub left.0 ≡ true))
      go (((o, inl q), m), (r, c), j) = cc
      go (((o, inr (inl w)), m), (r, c), j) = cc
      go (((o, inr (inr w)), m), (r, c), j) = found o w.0 m (enclosed_expr room ts o w r) c (cc)

  pub sorted_prefix_first : (room : Room) (ts : List Lexeme) → (gl variant room sorted).prefix ts → (G variant room primary).prefix ts
  sorted_prefix_first room ts s = (closes variant room primary).prefix ts (enclosed_prefix room ts s)
