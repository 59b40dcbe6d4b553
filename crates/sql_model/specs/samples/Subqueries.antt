-- Subqueries as conditions and as values.
use Rattle.std.specs.Prelude.{◌≡◌, refl, [], ◌∷◌}
use Rattle.sql_model.specs.declared.tree.Expr.TheVariants as expr
use Rattle.sql_model.specs.Syntax.{Expr}
use Rattle.sql_model.specs.Compute.{everything}
use Rattle.sql_model.specs.samples.Forms.{select_where, all_of, only, from, col, bare, equal, count_star, two, r, s, b, x, y, rows_of}

abbrev b_in_s : Expr
b_in_s = expr.In (bare b) (all_of s) 0 0

-- SELECT b FROM r WHERE b IN (SELECT * FROM s)
in_finds_a_row : rows_of (select_where (only (bare b)) (from r r ∷ []) b_in_s) ≡ (2 ∷ []) ∷ []
unfolding everything
in_finds_a_row = refl

-- SELECT b FROM r WHERE b NOT IN (SELECT * FROM s)
not_in_finds_none : rows_of (select_where (only (bare b)) (from r r ∷ []) (expr.Not b_in_s 0)) ≡ (1 ∷ []) ∷ (1 ∷ []) ∷ []
unfolding everything
not_in_finds_none = refl

-- (SELECT COUNT(*) FROM r AS y WHERE y.b = x.b)
abbrev rows_with_b : Expr
unfolding everything
rows_with_b = expr.Sub (select_where (only count_star) (from r y ∷ []) (equal (col y b) (col x b))) 0

-- SELECT x.b FROM r AS x WHERE (SELECT COUNT(*) FROM r AS y WHERE y.b = x.b) = 2
a_scalar_subquery_is_a_value : rows_of (select_where (only (col x b)) (from r x ∷ []) (equal rows_with_b two))
    ≡ (1 ∷ []) ∷ (1 ∷ []) ∷ []
unfolding everything
a_scalar_subquery_is_a_value = refl
