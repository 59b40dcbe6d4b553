-- Groups and aggregates.
use Rattle.std.specs.Prelude.{◌≡◌, refl, true, false, [], ◌∷◌, Some, None}
use Rattle.sql_model.specs.declared.tree.Expr.TheVariants as expr
use Rattle.sql_model.specs.Syntax.{Expr, Value, Count, Max}
use Rattle.sql_model.specs.Compute.{everything}
use Rattle.sql_model.specs.samples.Forms.{block, select, select_group_by, only, from, bare, equal, count_star, one, two, r, s, none, a, b, rows_of}

-- SELECT COUNT(*) FROM none
an_aggregate_has_one_group_of_no_rows : rows_of (select (only count_star) (from none none ∷ [])) ≡ (0 ∷ []) ∷ []
unfolding everything
an_aggregate_has_one_group_of_no_rows = refl

-- SELECT COUNT(*) FROM none GROUP BY a
group_by_has_no_group_of_no_rows : rows_of (select_group_by (only count_star) (from none none ∷ []) (bare a ∷ [])) ≡ []
unfolding everything
group_by_has_no_group_of_no_rows = refl

-- SELECT COUNT(*) FROM r GROUP BY a, b
equal_rows_of_groups_all_count : rows_of (select_group_by (only count_star) (from r r ∷ []) (bare a ∷ bare b ∷ []))
    ≡ (1 ∷ []) ∷ (1 ∷ []) ∷ (1 ∷ []) ∷ []
unfolding everything
equal_rows_of_groups_all_count = refl

-- SELECT a, MAX(b) FROM r GROUP BY a
abbrev max_b : Expr
max_b = expr.Agg Max false (Some (bare b)) 0

an_aggregate_sees_each_member : rows_of (select_group_by (Value (bare a) None ∷ Value max_b None ∷ []) (from r r ∷ []) (bare a ∷ []))
    ≡ (0 ∷ 2 ∷ []) ∷ (1 ∷ 1 ∷ []) ∷ []
unfolding everything
an_aggregate_sees_each_member = refl

-- SELECT COUNT(DISTINCT a), COUNT(a) FROM s
abbrev count_distinct_a : Expr
count_distinct_a = expr.Agg Count true (Some (bare a)) 0

abbrev count_a : Expr
count_a = expr.Agg Count false (Some (bare a)) 0

count_distinct_counts_values : rows_of (select (Value count_distinct_a None ∷ Value count_a None ∷ []) (from s s ∷ [])) ≡ (2 ∷ 3 ∷ []) ∷ []
unfolding everything
count_distinct_counts_values = refl

-- SELECT 1 FROM s HAVING COUNT(DISTINCT a) = 2
having_alone_makes_one_group : rows_of (block false (only one) (from s s ∷ []) None None (Some (equal count_distinct_a two))) ≡ (1 ∷ []) ∷ []
unfolding everything
having_alone_makes_one_group = refl

-- SELECT a FROM r GROUP BY a HAVING COUNT(*) = 2
having_keeps_groups : rows_of (block false (only (bare a)) (from r r ∷ []) None (Some (bare a ∷ [])) (Some (equal count_star two)))
    ≡ (0 ∷ []) ∷ []
unfolding everything
having_keeps_groups = refl
