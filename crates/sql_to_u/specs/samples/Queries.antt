-- The terms of queries without groups, as the definition computes them. r(a, b) is base table 0 and s(a) is base table 1.
use Rattle.std.specs.Prelude.{◌≡◌, refl, true, [], ◌∷◌, None}
use Rattle.u_terms.specs.Syntax.{constructors}
use Rattle.u_terms.specs.Binding.{mapped}
use Rattle.u_terms.specs.declared.term.U.TheVariants as u
use Rattle.u_terms.specs.declared.term.Val.TheVariants as v
use Rattle.scope_core.specs.declared.tree.RVal.TheVariants as rv
use Rattle.scope_core.specs.declared.tree.RCond.TheVariants as rc
use Rattle.scope_core.specs.declared.tree.RSource.TheVariants as source
use Rattle.scope_core.specs.declared.tree.RQuery.TheVariants as query
use Rattle.scope_core.specs.declared.tree.Grouping.TheVariants as grouping
use Rattle.scope_core.specs.declared.tree.RBlock.{roll-RBlock}
use Rattle.scope_core.specs.Syntax.{RQuery}
use Rattle.scope_core.specs.Compute.{everything}
use Rattle.scope_core.specs.Resolving.{entry_of}
use Rattle.scope_core.specs.samples.Trees.{entry, plain}
use Rattle.sql_model.specs.Syntax.{UnionAll, Union, Except, Intersect}
use Rattle.sql_to_u.specs.Translation.{query_term}
use Rattle.sql_to_u.specs.Answer.{translation}

abbrev of_s : RQuery
of_s = plain (entry 1 1 ∷ []) [] (rv.Col 0 0 0 ∷ [])

abbrev of_r : RQuery
of_r = plain (entry 0 2 ∷ []) [] (rv.Col 0 0 0 ∷ [])

-- SELECT b, a FROM r
-- S(S(*(R0(b1,b0),*(=(b0,f0),=(b1,f1)))))
a_plain_block : translation [] (plain (entry 0 2 ∷ []) [] (rv.Col 0 0 1 ∷ rv.Col 0 0 0 ∷ []))
    ≡ u.Sum (u.Sum (u.Mul (u.Rel 0 (v.Bound 1 ∷ v.Bound 0 ∷ [])) (u.Mul (u.Eq (v.Bound 0) (v.Free 0)) (u.Eq (v.Bound 1) (v.Free 1)))))
unfolding query_term mapped everything constructors
a_plain_block = refl

-- SELECT x.a FROM r x, s y WHERE x.b = y.a
-- S(S(S(*(R0(b2,b1),*(R1(b0),*(=(b1,b0),=(b2,f0)))))))
a_join : translation [] (plain (entry 0 2 ∷ entry 1 1 ∷ []) (rc.Eq (rv.Col 0 0 1) (rv.Col 0 1 0) ∷ []) (rv.Col 0 0 0 ∷ []))
    ≡ u.Sum (u.Sum (u.Sum (u.Mul (u.Rel 0 (v.Bound 2 ∷ v.Bound 1 ∷ [])) (u.Mul (u.Rel 1 (v.Bound 0 ∷ [])) (u.Mul (u.Eq (v.Bound 1) (v.Bound 0)) (u.Eq (v.Bound 2) (v.Free 0)))))))
unfolding query_term mapped everything constructors
a_join = refl

-- SELECT a FROM s UNION ALL SELECT a FROM r
-- +(S(*(R1(b0),=(b0,f0))),S(S(*(R0(b1,b0),=(b1,f0)))))
union_all : translation [] (query.Set UnionAll of_s of_r)
    ≡ u.Add (u.Sum (u.Mul (u.Rel 1 (v.Bound 0 ∷ [])) (u.Eq (v.Bound 0) (v.Free 0)))) (u.Sum (u.Sum (u.Mul (u.Rel 0 (v.Bound 1 ∷ v.Bound 0 ∷ [])) (u.Eq (v.Bound 1) (v.Free 0)))))
unfolding query_term mapped everything constructors
union_all = refl

-- SELECT a FROM s UNION SELECT a FROM r
-- #(+(S(*(R1(b0),=(b0,f0))),S(S(*(R0(b1,b0),=(b1,f0))))))
union : translation [] (query.Set Union of_s of_r)
    ≡ u.Squash (u.Add (u.Sum (u.Mul (u.Rel 1 (v.Bound 0 ∷ [])) (u.Eq (v.Bound 0) (v.Free 0)))) (u.Sum (u.Sum (u.Mul (u.Rel 0 (v.Bound 1 ∷ v.Bound 0 ∷ [])) (u.Eq (v.Bound 1) (v.Free 0))))))
unfolding query_term mapped everything constructors
union = refl

-- SELECT a FROM s EXCEPT SELECT a FROM r
-- *(#(S(*(R1(b0),=(b0,f0)))),!(S(S(*(R0(b1,b0),=(b1,f0))))))
except_is_squashed : translation [] (query.Set Except of_s of_r)
    ≡ u.Mul (u.Squash (u.Sum (u.Mul (u.Rel 1 (v.Bound 0 ∷ [])) (u.Eq (v.Bound 0) (v.Free 0))))) (u.Not (u.Sum (u.Sum (u.Mul (u.Rel 0 (v.Bound 1 ∷ v.Bound 0 ∷ [])) (u.Eq (v.Bound 1) (v.Free 0))))))
unfolding query_term mapped everything constructors
except_is_squashed = refl

-- SELECT a FROM s INTERSECT SELECT a FROM r
-- #(*(S(*(R1(b0),=(b0,f0))),S(S(*(R0(b1,b0),=(b1,f0))))))
intersect : translation [] (query.Set Intersect of_s of_r)
    ≡ u.Squash (u.Mul (u.Sum (u.Mul (u.Rel 1 (v.Bound 0 ∷ [])) (u.Eq (v.Bound 0) (v.Free 0)))) (u.Sum (u.Sum (u.Mul (u.Rel 0 (v.Bound 1 ∷ v.Bound 0 ∷ [])) (u.Eq (v.Bound 1) (v.Free 0))))))
unfolding query_term mapped everything constructors
intersect = refl

abbrev distinct_s : RQuery
distinct_s = query.Block (roll-RBlock (record {
  distinct = true;
  entries = entry 1 1 ∷ [];
  conds = [];
  grouping = grouping.Plain;
  having = None;
  items = rv.Col 0 0 0 ∷ [];
}))

-- SELECT DISTINCT a FROM s
-- #(S(*(R1(b0),=(b0,f0))))
a_distinct_block : translation [] (distinct_s)
    ≡ u.Squash (u.Sum (u.Mul (u.Rel 1 (v.Bound 0 ∷ [])) (u.Eq (v.Bound 0) (v.Free 0))))
unfolding query_term mapped everything constructors
a_distinct_block = refl

-- SELECT t.a FROM (SELECT DISTINCT a FROM s) t
-- S(*(#(S(*(R1(b0),=(b0,b1)))),=(b0,f0)))
a_derived_table : translation [] (plain (entry_of (source.Query distinct_s, 1) ∷ []) [] (rv.Col 0 0 0 ∷ []))
    ≡ u.Sum (u.Mul (u.Squash (u.Sum (u.Mul (u.Rel 1 (v.Bound 0 ∷ [])) (u.Eq (v.Bound 0) (v.Bound 1))))) (u.Eq (v.Bound 0) (v.Free 0)))
unfolding query_term mapped everything constructors
a_derived_table = refl

-- CREATE VIEW v AS SELECT DISTINCT a FROM s; CREATE VIEW w AS SELECT * FROM v
abbrev over_v : RQuery
over_v = plain (entry_of (source.View 0, 1) ∷ []) [] (rv.Col 0 0 0 ∷ [])

-- SELECT * FROM w
-- S(*(S(*(#(S(*(R1(b0),=(b0,b1)))),=(b0,b1))),=(b0,f0)))
a_view_over_a_view : translation (distinct_s ∷ over_v ∷ []) (plain (entry_of (source.View 1, 1) ∷ []) [] (rv.Col 0 0 0 ∷ []))
    ≡ u.Sum (u.Mul (u.Sum (u.Mul (u.Squash (u.Sum (u.Mul (u.Rel 1 (v.Bound 0 ∷ [])) (u.Eq (v.Bound 0) (v.Bound 1))))) (u.Eq (v.Bound 0) (v.Bound 1)))) (u.Eq (v.Bound 0) (v.Free 0)))
unfolding query_term mapped everything constructors
a_view_over_a_view = refl
