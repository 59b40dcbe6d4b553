-- Groups and aggregates.
use Rattle.std.specs.Prelude.{◌≡◌, refl, false, [], ◌∷◌, Some, None}
use Rattle.sql_model.specs.declared.tree.Expr.TheVariants as expr
use Rattle.sql_model.specs.Syntax.{Query, Expr, Value, Count, Max}
use Rattle.sql_model.specs.samples.Forms.{block, select, select_where, only, from, col, bare, equal, count_star, two, r, none, a, b, x, y}
use Rattle.scope_core.specs.Syntax.{Col, Key, Lit, Keys}
use Rattle.scope_core.specs.declared.tree.RVal.TheVariants as v
use Rattle.scope_core.specs.declared.tree.RCond.TheVariants as c
use Rattle.scope_core.specs.Compute.{resolving}
use Rattle.scope_core.specs.samples.Trees.{tree, rows_of, entry, grouped}

-- SELECT a, MAX(b) FROM r GROUP BY a HAVING COUNT(*) = 2
abbrev max_b : Expr
max_b = expr.Agg Max false (Some (bare b)) 0

abbrev by_a : Query
unfolding resolving
by_a = block false (Value (bare a) None ∷ Value max_b None ∷ []) (from r r ∷ []) None (Some (bare a ∷ [])) (Some (equal count_star two))

a_group_is_read_by_its_key : tree by_a
    ≡ grouped (entry 0 2 ∷ []) [] (Keys ((0, 0) ∷ [])) (Some (c.Eq (v.Agg Count false None) (Lit 1))) (Key 0 ∷ v.Agg Max false (Some (Col 0 0 1)) ∷ [])
unfolding resolving
a_group_is_read_by_its_key = refl

having_keeps_groups : rows_of by_a ≡ (0 ∷ 2 ∷ []) ∷ []
unfolding resolving
having_keeps_groups = refl

-- SELECT COUNT(*) FROM none
an_aggregate_has_one_group_of_no_rows : rows_of (select (only count_star) (from none none ∷ [])) ≡ (0 ∷ []) ∷ []
unfolding resolving
an_aggregate_has_one_group_of_no_rows = refl

-- SELECT x.b FROM r AS x WHERE (SELECT COUNT(*) FROM r AS y WHERE y.b = x.b) = 2
abbrev scalar : Query
unfolding resolving
scalar =
    select_where (only (col x b)) (from r x ∷ [])
    (equal (expr.Sub (select_where (only count_star) (from r y ∷ []) (equal (col y b) (col x b))) 0) two)

a_scalar_subquery_is_a_value : rows_of scalar ≡ (1 ∷ []) ∷ (1 ∷ []) ∷ []
unfolding resolving
a_scalar_subquery_is_a_value = refl
