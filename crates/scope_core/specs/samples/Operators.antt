-- DISTINCT and the set operators.
use Rattle.std.specs.Prelude.{◌≡◌, refl, true, [], ◌∷◌, None}
use Rattle.sql_model.specs.Syntax.{Query, UnionAll, Union, Except, Intersect}
use Rattle.sql_model.specs.samples.Forms.{block, select, all_of, from, set, only, bare, r, s, a}
use Rattle.scope_core.specs.Compute.{resolving}
use Rattle.scope_core.specs.samples.Trees.{rows_of}

-- 0, 0 and 1
abbrev a_of_r : Query
unfolding resolving
a_of_r = select (only (bare a)) (from r r ∷ [])

-- SELECT * FROM s UNION ALL SELECT * FROM s
union_all_keeps_repeats : rows_of (set UnionAll (all_of s) (all_of s))
    ≡ (0 ∷ []) ∷ (0 ∷ []) ∷ (2 ∷ []) ∷ (0 ∷ []) ∷ (0 ∷ []) ∷ (2 ∷ []) ∷ []
unfolding resolving
union_all_keeps_repeats = refl

-- SELECT DISTINCT a FROM r
distinct_drops_repeats : rows_of (block true (only (bare a)) (from r r ∷ []) None None None) ≡ (0 ∷ []) ∷ (1 ∷ []) ∷ []
unfolding resolving
distinct_drops_repeats = refl

-- SELECT a FROM r UNION SELECT * FROM s
union_drops_repeats : rows_of (set Union a_of_r (all_of s)) ≡ (0 ∷ []) ∷ (1 ∷ []) ∷ (2 ∷ []) ∷ []
unfolding resolving
union_drops_repeats = refl

-- SELECT a FROM r EXCEPT SELECT * FROM s
except_drops_what_is_right : rows_of (set Except a_of_r (all_of s)) ≡ (1 ∷ []) ∷ []
unfolding resolving
except_drops_what_is_right = refl

-- SELECT a FROM r INTERSECT SELECT * FROM s
intersect_drops_repeats : rows_of (set Intersect a_of_r (all_of s)) ≡ (0 ∷ []) ∷ []
unfolding resolving
intersect_drops_repeats = refl
