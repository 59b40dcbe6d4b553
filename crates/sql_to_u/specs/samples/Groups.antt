-- The terms of groups and aggregates, as the definition computes them. r(a, b) is base table 0 and s(a) is base table 1.
use Rattle.std.specs.Prelude.{◌≡◌, refl, false, true, [], ◌∷◌, Some, None}
use Rattle.u_terms.specs.Syntax.{constructors}
use Rattle.u_terms.specs.Binding.{mapped}
use Rattle.u_terms.specs.declared.term.U.TheVariants as u
use Rattle.u_terms.specs.declared.term.Val.TheVariants as v
use Rattle.scope_core.specs.declared.tree.RVal.TheVariants as rv
use Rattle.scope_core.specs.declared.tree.RCond.TheVariants as rc
use Rattle.sql_model.specs.Syntax.{Count, Sum}
use Rattle.scope_core.specs.declared.tree.Grouping.TheVariants as grouping
use Rattle.scope_core.specs.declared.tree.RQuery.TheVariants as query
use Rattle.scope_core.specs.declared.tree.RBlock.{roll-RBlock}
use Rattle.scope_core.specs.Compute.{everything}
use Rattle.scope_core.specs.samples.Trees.{entry, plain, grouped}
use Rattle.sql_to_u.specs.Translation.{query_term}
use Rattle.sql_to_u.specs.Answer.{translation}

-- SELECT COUNT(*) FROM s WHERE a <> a
-- =(G0(S(*(R1(b0),*(!(=(b0,b0)),=(c0,b1))))),f0)
a_group_of_all_rows : translation [] (grouped (entry 1 1 ∷ []) (rc.Not (rc.Eq (rv.Col 0 0 0) (rv.Col 0 0 0)) ∷ []) grouping.One None (rv.Agg Count false None ∷ []))
    ≡ u.Eq (v.Agg 0 (u.Sum (u.Mul (u.Rel 1 (v.Bound 0 ∷ [])) (u.Mul (u.Not (u.Eq (v.Bound 0) (v.Bound 0))) (u.Eq (v.Lit 0) (v.Bound 1)))))) (v.Free 0)
unfolding query_term mapped everything constructors
a_group_of_all_rows = refl

-- SELECT COUNT(a) FROM s WHERE a <> a
-- =(G0(S(*(R1(b0),*(!(=(b0,b0)),=(c0,b1))))),f0)
a_count_of_an_argument_counts_rows : translation [] (grouped (entry 1 1 ∷ []) (rc.Not (rc.Eq (rv.Col 0 0 0) (rv.Col 0 0 0)) ∷ []) grouping.One None (rv.Agg Count false (Some (rv.Col 0 0 0)) ∷ []))
    ≡ u.Eq (v.Agg 0 (u.Sum (u.Mul (u.Rel 1 (v.Bound 0 ∷ [])) (u.Mul (u.Not (u.Eq (v.Bound 0) (v.Bound 0))) (u.Eq (v.Lit 0) (v.Bound 1)))))) (v.Free 0)
unfolding query_term mapped everything constructors
a_count_of_an_argument_counts_rows = refl

-- SELECT COUNT(DISTINCT a) FROM s
-- =(G0(#(S(*(R1(b0),=(b0,b1))))),f0)
a_distinct_count : translation [] (grouped (entry 1 1 ∷ []) [] grouping.One None (rv.Agg Count true (Some (rv.Col 0 0 0)) ∷ []))
    ≡ u.Eq (v.Agg 0 (u.Squash (u.Sum (u.Mul (u.Rel 1 (v.Bound 0 ∷ [])) (u.Eq (v.Bound 0) (v.Bound 1)))))) (v.Free 0)
unfolding query_term mapped everything constructors
a_distinct_count = refl

-- SELECT 5 FROM s HAVING COUNT(*) = 6
-- *(=(G0(S(*(R1(b0),=(c0,b1)))),c2),=(c1,f0))
having_of_all_rows : translation [] (grouped (entry 1 1 ∷ []) [] grouping.One (Some (rc.Eq (rv.Agg Count false None) (rv.Lit 2))) (rv.Lit 1 ∷ []))
    ≡ u.Mul (u.Eq (v.Agg 0 (u.Sum (u.Mul (u.Rel 1 (v.Bound 0 ∷ [])) (u.Eq (v.Lit 0) (v.Bound 1))))) (v.Lit 2)) (u.Eq (v.Lit 1) (v.Free 0))
unfolding query_term mapped everything constructors
having_of_all_rows = refl

-- SELECT a, SUM(b) FROM r GROUP BY a HAVING a = 1 AND COUNT(*) = 2
-- S(*(#(S(S(*(R0(b1,b0),=(b1,b2))))),*(=(b0,c1),*(=(G0(S(S(*(R0(b1,b0),*(=(b1,b3),=(c0,b2)))))),c2),*(=(b0,f0),=(G1(S(S(*(R0(b1,b0),*(=(b1,b3),=(b0,b2)))))),f1))))))
groups_of_a_key : translation [] (grouped (entry 0 2 ∷ []) [] (grouping.Keys ((0, 0) ∷ [])) (Some (rc.And (rc.Eq (rv.Key 0) (rv.Lit 1) ∷ rc.Eq (rv.Agg Count false None) (rv.Lit 2) ∷ []))) (rv.Key 0 ∷ rv.Agg Sum false (Some (rv.Col 0 0 1)) ∷ []))
    ≡ u.Sum (u.Mul (u.Squash (u.Sum (u.Sum (u.Mul (u.Rel 0 (v.Bound 1 ∷ v.Bound 0 ∷ [])) (u.Eq (v.Bound 1) (v.Bound 2)))))) (u.Mul (u.Eq (v.Bound 0) (v.Lit 1)) (u.Mul (u.Eq (v.Agg 0 (u.Sum (u.Sum (u.Mul (u.Rel 0 (v.Bound 1 ∷ v.Bound 0 ∷ [])) (u.Mul (u.Eq (v.Bound 1) (v.Bound 3)) (u.Eq (v.Lit 0) (v.Bound 2))))))) (v.Lit 2)) (u.Mul (u.Eq (v.Bound 0) (v.Free 0)) (u.Eq (v.Agg 1 (u.Sum (u.Sum (u.Mul (u.Rel 0 (v.Bound 1 ∷ v.Bound 0 ∷ [])) (u.Mul (u.Eq (v.Bound 1) (v.Bound 3)) (u.Eq (v.Bound 0) (v.Bound 2))))))) (v.Free 1))))))
unfolding query_term mapped everything constructors
groups_of_a_key = refl

-- SELECT a FROM s GROUP BY a, a
-- S(S(*(#(S(*(R1(b0),*(=(b0,b2),=(b0,b1))))),=(b1,f0))))
a_column_twice_in_the_key : translation [] (grouped (entry 1 1 ∷ []) [] (grouping.Keys ((0, 0) ∷ (0, 0) ∷ [])) None (rv.Key 0 ∷ []))
    ≡ u.Sum (u.Sum (u.Mul (u.Squash (u.Sum (u.Mul (u.Rel 1 (v.Bound 0 ∷ [])) (u.Mul (u.Eq (v.Bound 0) (v.Bound 2)) (u.Eq (v.Bound 0) (v.Bound 1)))))) (u.Eq (v.Bound 1) (v.Free 0))))
unfolding query_term mapped everything constructors
a_column_twice_in_the_key = refl

-- SELECT DISTINCT SUM(b) FROM r GROUP BY a
-- #(S(*(#(S(S(*(R0(b1,b0),=(b1,b2))))),=(G1(S(S(*(R0(b1,b0),*(=(b1,b3),=(b0,b2)))))),f0))))
distinct_groups : translation [] (query.Block (roll-RBlock (record {
  distinct = true;
  entries = entry 0 2 ∷ [];
  conds = [];
  grouping = grouping.Keys ((0, 0) ∷ []);
  having = None;
  items = rv.Agg Sum false (Some (rv.Col 0 0 1)) ∷ [];
})))
    ≡ u.Squash (u.Sum (u.Mul (u.Squash (u.Sum (u.Sum (u.Mul (u.Rel 0 (v.Bound 1 ∷ v.Bound 0 ∷ [])) (u.Eq (v.Bound 1) (v.Bound 2)))))) (u.Eq (v.Agg 1 (u.Sum (u.Sum (u.Mul (u.Rel 0 (v.Bound 1 ∷ v.Bound 0 ∷ [])) (u.Mul (u.Eq (v.Bound 1) (v.Bound 3)) (u.Eq (v.Bound 0) (v.Bound 2))))))) (v.Free 0))))
unfolding query_term mapped everything constructors
distinct_groups = refl

-- SELECT a FROM s WHERE (SELECT COUNT(*) FROM r WHERE r.a = s.a) = 5
-- S(*(R1(b0),*(=(G0(S(S(*(R0(b1,b0),*(=(b1,b3),=(c0,b2)))))),c1),=(b0,f0))))
a_scalar_subquery : translation [] (plain (entry 1 1 ∷ []) (rc.Eq (rv.Sub (roll-RBlock (record { distinct = false; entries = entry 0 2 ∷ []; conds = rc.Eq (rv.Col 0 0 0) (rv.Col 1 0 0) ∷ []; grouping = grouping.One; having = None; items = rv.Agg Count false None ∷ [] }))) (rv.Lit 1) ∷ []) (rv.Col 0 0 0 ∷ []))
    ≡ u.Sum (u.Mul (u.Rel 1 (v.Bound 0 ∷ [])) (u.Mul (u.Eq (v.Agg 0 (u.Sum (u.Sum (u.Mul (u.Rel 0 (v.Bound 1 ∷ v.Bound 0 ∷ [])) (u.Mul (u.Eq (v.Bound 1) (v.Bound 3)) (u.Eq (v.Lit 0) (v.Bound 2))))))) (v.Lit 1)) (u.Eq (v.Bound 0) (v.Free 0))))
unfolding query_term mapped everything constructors
a_scalar_subquery = refl
