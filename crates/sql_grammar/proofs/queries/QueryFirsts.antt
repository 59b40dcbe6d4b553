-- References, aggregates and first parts of expressions by the grammar, the left-factored grammar reads.
use Rattle.std.proofs.Common.{◌≡◌, ℕ, List, [], ◌++◌, length, ◌⊎◌, inl, inr, refl, sym, ◌∙◌, ap, subst, append_assoc, Some, None}
use Rattle.std.proofs.lemmas.List.{append-nil}
use Rattle.grammar.specs.Form.{Room, empty, seq, alt, map, only, ref}
use Rattle.grammar.proofs.factorings.Alike.{alt_seq, at_first, at_second, below_alt, below_map, below_seq, either, itself, map_alt, of_alike, through, to_alike}
use Rattle.sql_lex.specs.Lexemes.{Lexeme}
use Rattle.sql_model.specs.declared.tree.Expr.{Expr}
use Rattle.sql_grammar.specs.Kinds as k
use Rattle.sql_grammar.specs.Numbering.{Built, plain}
use Rattle.sql_grammar.specs.QueryTrees as t
use Rattle.sql_grammar.specs.QueryTailTrees as tails
use Rattle.sql_grammar.specs.QueryTrees.{Left, not_sub}
use Rattle.sql_grammar.specs.QueryTailTrees.{Enclosed, Inside}
use Rattle.sql_grammar.specs.QueryGrammar.{a, name, aggregate_word, parens, subquery, call, expr, reference, primary, agg}
use Rattle.sql_grammar.specs.QueryTails.{inner}
use Rattle.sql_grammar.specs.Queries.{rules}
use Rattle.sql_grammar.specs.FactoredQueries.{factored, sort, literal, dot_name, one_argument, other_aggregate, count_arguments, column_of, named_first, enclosed_first}
use Rattle.sql_grammar.proofs.queries.QueryInside.{P, fl, opens, closes, deeper_there, deeper_back, deeper_spells, deeper_prefix, sorted}
use Rattle.sql_grammar.proofs.queries.QueryInsides.{insides_included, query_sorted, query_prefix}
use Rattle.sql_grammar.proofs.queries.QueryWords.{Below, after_word, aggregate_of, aggregate_parts, any_aggregate, any_called, any_count, any_named, applied_to, call_part, count_parts, distinct_argument, rows_counted, with_dot}
use Rattle.sql_grammar.proofs.queries.Variants.{Variant}

module _ (variant : Variant) where
  -- ---- references

  reference_spells : (room : Room) (ts : List Lexeme) (v : Expr) → (fl variant room (rules reference)).spells ts v → (fl variant room (factored reference)).spells ts v
  reference_spells room ts v (u, (x, y, e, inl (w, (p, (x1, y1, e1, n, d), j), l), m), i) = (
    (w, Some u.1),
    (
      x1,
      y1 ++ y,
      e ∙ (ap (λ z. z ++ y) e1 ∙ append_assoc x1 y1 y),
      subst (λ z. (fl variant room name).spells x1 z) (sym j) n,
      inl (u.1, ((p.1, u.1), (y1, y, refl, d, m), refl), refl),
    ),
    i ∙ ap (λ o. t.column (o, u.1)) l,
  )
  reference_spells room ts v (u, (x, y, e, inr (w, n, l), m), i) =
      ((u.1, None), (y, [], e ∙ (ap (λ z. z ++ y) n ∙ sym (append-nil y)), m, inr (tt, refl, refl)), i ∙ ap (λ o. t.column (o, u.1)) l)

  reference_prefix : (room : Room) (ts : List Lexeme) → (fl variant room (rules reference)).prefix ts → (fl variant room (factored reference)).prefix ts
  reference_prefix room ts (inl (inl (inl f))) = inl f
  reference_prefix room ts (inl (inl (inr (x, y, w, e, n, d)))) = inr (x, y, w, e, n, inl (inl d))
  reference_prefix room ts (inl (inr e)) = inl (inl e)
  reference_prefix room ts (inr (x, y, v, e, inl (w, (p, (x1, y1, e1, n, d), j), l), f)) =
      inr (x1, y1 ++ y, p.0, e ∙ (ap (λ z. z ++ y) e1 ∙ append_assoc x1 y1 y), n, inl (inr (y1, y, p.1, refl, d, f)))
  reference_prefix room ts (inr (x, y, v, e, inr (w, n, l), f)) = subst (fl variant room (factored reference)).prefix (sym (e ∙ ap (λ z. z ++ y) n)) (inl f)

  pub reference_below : Below (P variant) (rules reference) (factored reference)
  reference_below = record { holds = λ room. record { spells = reference_spells room; prefix = reference_prefix room } }

  -- a column as a first part
  reference_first : Below (P variant) (map (λ x. plain x) (ref reference)) named_first
  reference_first = through plain_names (any_named variant dot_name column_of (λ x. x))
    where
      spells : (room : Room) (ts : List Lexeme) (v : Built Expr) → (fl variant room (map (λ x. plain x) (ref reference))).spells ts v → (fl variant room (with_dot dot_name column_of name)).spells ts v
      spells room ts v (x, s, i) = go ((opens variant room reference).spells ts x s)
        where
          go : (fl variant room (factored reference)).spells ts x → (fl variant room (with_dot dot_name column_of name)).spells ts v
          go ((w, None), r, j) = ((w, None), r, i ∙ ap (λ z. plain z) j)
          go ((w, Some n), r, j) = ((w, Some n), r, i ∙ ap (λ z. plain z) j)

      plain_names : Below (P variant) (map (λ x. plain x) (ref reference)) (with_dot dot_name column_of name)
      plain_names = record { holds = λ room. record { spells = spells room; prefix = λ ts f. (opens variant room reference).prefix ts f } }

  -- ---- aggregates and calls

  aggregates : Below (P variant) (map aggregate_of (seq aggregate_word (parens distinct_argument)))
      (alt (map applied_to (seq (a k.Count) count_arguments)) (map applied_to (seq other_aggregate (parens one_argument))))
  aggregates =
      through (below_map aggregate_of (below_seq (aggregate_parts variant) (itself (parens distinct_argument))))
      (through (below_map aggregate_of (of_alike (alt_seq (a k.Count) other_aggregate (parens distinct_argument))))
      (through (of_alike (map_alt aggregate_of (seq (a k.Count) (parens distinct_argument)) (seq other_aggregate (parens distinct_argument))))
      (below_alt (through (at_second rows_counted (itself (map aggregate_of (seq (a k.Count) (parens distinct_argument))))) (to_alike count_parts)) (to_alike (after_word other_aggregate)))))

  pub agg_below : Below (P variant) (rules agg) (factored agg)
  agg_below =
      either (at_first (map applied_to (seq other_aggregate (parens one_argument)))
      (through (at_first (map aggregate_of (seq (a k.Count) (parens distinct_argument))) (itself rows_counted)) (to_alike count_parts))) aggregates

  agg_first : Below (P variant) (ref agg) named_first
  agg_first = record { holds = λ room. let m = each.holds room in let o = opens variant room agg in record { spells = λ ts v s. m.spells ts v (o.spells ts v s); prefix = λ ts f. m.prefix ts (o.prefix ts f) } }
    where
      each : Below (P variant) (factored agg) named_first
      each = either (any_count variant dot_name column_of (λ x. x)) (any_aggregate variant dot_name column_of (λ x. x))

  call_first : Below (P variant) call named_first
  call_first = through (to_alike call_part) (any_called variant dot_name column_of (λ x. x))

  -- ---- parentheses as first parts

  -- what stands there as an expression that is no subquery
  expr_inner : (room : Room) (z : List Lexeme) (v : Built Expr) → (fl variant room (only not_sub (ref expr))).spells z v → (P variant room inner).spells z (inr (inr (v, tt)))
  expr_inner room z v s =
      (closes variant room inner).spells z (inr (inr (v, tt)))
      ((insides_included variant empty room).spells z (inr (inr (v, tt))) (inr (inr ((v, tt), (z, [], sym (append-nil z), s, refl), refl))))

  expr_inner_prefix : (room : Room) (z : List Lexeme) → (fl variant room (only not_sub (ref expr))).prefix z → (P variant room inner).prefix z
  expr_inner_prefix room z f = (closes variant room inner).prefix z ((insides_included variant empty room).prefix z (inr (inr (inl f))))

  expr_first : Below (P variant) (parens (only not_sub (ref expr))) enclosed_first
  expr_first = record { holds = λ room. record { spells = spells room; prefix = prefix room } }
    where
      spells : (room : Room) (ts : List Lexeme) (v : Built Expr) → (fl variant room (parens (only not_sub (ref expr)))).spells ts v → (fl variant room enclosed_first).spells ts v
      spells room ts v (p, s, i) = (
        (p.0, inr (inr (p.1, tt))),
        (deeper_back (P variant) (ref inner) room).spells ts (p.0, inr (inr (p.1, tt)))
            (deeper_spells (λ r. fl variant r (only not_sub (ref expr))) (λ r. P variant r inner) room ts p (inr (inr (p.1, tt))) (λ r z w. expr_inner r z p.1 w) ((deeper_there (P variant) (only not_sub (ref expr)) room).spells ts p s)),
        i,
      )

      prefix : (room : Room) (ts : List Lexeme) → (fl variant room (parens (only not_sub (ref expr)))).prefix ts → (fl variant room enclosed_first).prefix ts
      prefix room ts s =
          (deeper_back (P variant) (ref inner) room).prefix ts
          (deeper_prefix (λ r. fl variant r (only not_sub (ref expr))) (λ r. P variant r inner) room expr_inner_prefix (λ r z v w. (inr (inr (v, tt)), expr_inner r z v w)) ts
          ((deeper_there (P variant) (only not_sub (ref expr)) room).prefix ts s))

  abbrev query_in : Enclosed → (Enclosed × ℕ) ⊎ Left → Enclosed
  query_in other (inl u) = u.0
  query_in other (inr left) = other

  -- the expression that sorted parentheses with a query are
  enclosed_as : (w : Lexeme × Inside (Unit {0})) (n : ℕ) (p : Enclosed) (m : ℕ) → inl (p, m) ≡ sort (w, n) → tails.enclosed w ≡ t.sub p
  enclosed_as (o, inl q) n p m e = ap (λ z. t.sub z) (sym (ap (query_in p) e))
  enclosed_as (o, inr (inl r)) n p m e = ap (λ z. t.sub z) (sym (ap (query_in p) e))
  enclosed_as (o, inr (inr r)) n p m e = cc

  subquery_first : Below (P variant) subquery enclosed_first
  subquery_first = record { holds = λ room. record { spells = spells room; prefix = λ ts f. query_prefix variant empty room ts f } }
    where
      spells : (room : Room) (ts : List Lexeme) (v : Built Expr) → (fl variant room subquery).spells ts v → (fl variant room enclosed_first).spells ts v
      spells room ts v (p, s, i) = go (query_sorted variant empty room ts p s)
        where
          go : (fl variant room sorted).spells ts (inl (p, length ts)) → (fl variant room enclosed_first).spells ts v
          go (w, (r, c), j) = (w.0, r, i ∙ sym (enclosed_as w.0 w.1 p (length ts) j))

  -- ---- all first parts

  pub primary_below : Below (P variant) (rules primary) (factored primary)
  primary_below =
      either (at_first _ (at_first (map t.text_literal (a k.Text)) (itself (map t.number_literal (a k.Number)))))
      (either (at_first _ (at_second (map t.number_literal (a k.Number)) (itself (map t.text_literal (a k.Text)))))
      (either (at_second literal (at_first enclosed_first reference_first))
      (either (at_second literal (at_first enclosed_first agg_first))
      (either (at_second literal (at_first enclosed_first call_first))
      (either (at_second literal (at_second named_first expr_first))
      (at_second literal (at_second named_first subquery_first)))))))
