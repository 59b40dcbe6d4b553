-- The terms of conditions and values, as the definition computes them: in SELECT a FROM s WHERE .., over r(a, b), base table 0, and s(a), base
-- table 1.
use Rattle.std.specs.Prelude.{◌≡◌, refl, [], ◌∷◌}
use Rattle.u_terms.specs.Syntax.{constructors}
use Rattle.u_terms.specs.Binding.{mapped}
use Rattle.u_terms.specs.declared.term.U.TheVariants as u
use Rattle.u_terms.specs.declared.term.Val.TheVariants as v
use Rattle.scope_core.specs.declared.tree.RVal.TheVariants as rv
use Rattle.scope_core.specs.declared.tree.RCond.TheVariants as rc
use Rattle.scope_core.specs.Syntax.{RCond, RQuery}
use Rattle.scope_core.specs.Compute.{everything}
use Rattle.scope_core.specs.samples.Trees.{entry, plain}
use Rattle.sql_to_u.specs.Translation.{query_term}
use Rattle.sql_to_u.specs.Answer.{translation}

abbrev where_ : RCond → RQuery
where_ condition = plain (entry 1 1 ∷ []) (condition ∷ []) (rv.Col 0 0 0 ∷ [])

-- a = 5
-- S(*(R1(b0),*(=(b0,c1),=(b0,f0))))
an_equality : translation [] (where_ (rc.Eq (rv.Col 0 0 0) (rv.Lit 1)))
    ≡ u.Sum (u.Mul (u.Rel 1 (v.Bound 0 ∷ [])) (u.Mul (u.Eq (v.Bound 0) (v.Lit 1)) (u.Eq (v.Bound 0) (v.Free 0))))
unfolding query_term mapped everything constructors
an_equality = refl

-- a < 5
-- S(*(R1(b0),*(P0(b0,c1),=(b0,f0))))
a_predicate : translation [] (where_ (rc.Pred 0 (rv.Col 0 0 0 ∷ rv.Lit 1 ∷ [])))
    ≡ u.Sum (u.Mul (u.Rel 1 (v.Bound 0 ∷ [])) (u.Mul (u.Pred 0 (v.Bound 0 ∷ v.Lit 1 ∷ [])) (u.Eq (v.Bound 0) (v.Free 0))))
unfolding query_term mapped everything constructors
a_predicate = refl

-- a + 5 = a
-- S(*(R1(b0),*(=(F3(b0,c1),b0),=(b0,f0))))
a_function : translation [] (where_ (rc.Eq (rv.Fun 3 (rv.Col 0 0 0 ∷ rv.Lit 1 ∷ [])) (rv.Col 0 0 0)))
    ≡ u.Sum (u.Mul (u.Rel 1 (v.Bound 0 ∷ [])) (u.Mul (u.Eq (v.Fun 3 (v.Bound 0 ∷ v.Lit 1 ∷ [])) (v.Bound 0)) (u.Eq (v.Bound 0) (v.Free 0))))
unfolding query_term mapped everything constructors
a_function = refl

-- a = 5 OR a = 6
-- S(*(R1(b0),*(#(+(=(b0,c1),=(b0,c2))),=(b0,f0))))
an_or : translation [] (where_ (rc.Or (rc.Eq (rv.Col 0 0 0) (rv.Lit 1) ∷ rc.Eq (rv.Col 0 0 0) (rv.Lit 2) ∷ [])))
    ≡ u.Sum (u.Mul (u.Rel 1 (v.Bound 0 ∷ [])) (u.Mul (u.Squash (u.Add (u.Eq (v.Bound 0) (v.Lit 1)) (u.Eq (v.Bound 0) (v.Lit 2)))) (u.Eq (v.Bound 0) (v.Free 0))))
unfolding query_term mapped everything constructors
an_or = refl

-- NOT (a = 5 AND a = 6)
-- S(*(R1(b0),*(!(*(=(b0,c1),=(b0,c2))),=(b0,f0))))
not_and : translation [] (where_ (rc.Not (rc.And (rc.Eq (rv.Col 0 0 0) (rv.Lit 1) ∷ rc.Eq (rv.Col 0 0 0) (rv.Lit 2) ∷ []))))
    ≡ u.Sum (u.Mul (u.Rel 1 (v.Bound 0 ∷ [])) (u.Mul (u.Not (u.Mul (u.Eq (v.Bound 0) (v.Lit 1)) (u.Eq (v.Bound 0) (v.Lit 2)))) (u.Eq (v.Bound 0) (v.Free 0))))
unfolding query_term mapped everything constructors
not_and = refl

-- (a = 5 AND a = 6) AND a = 5 as a tree in a tree
-- S(*(R1(b0),*(*(*(=(b0,c1),=(b0,c2)),=(b0,c1)),=(b0,f0))))
and_in_and : translation [] (where_ (rc.And (rc.And (rc.Eq (rv.Col 0 0 0) (rv.Lit 1) ∷ rc.Eq (rv.Col 0 0 0) (rv.Lit 2) ∷ []) ∷ rc.Eq (rv.Col 0 0 0) (rv.Lit 1) ∷ [])))
    ≡ u.Sum (u.Mul (u.Rel 1 (v.Bound 0 ∷ [])) (u.Mul (u.Mul (u.Mul (u.Eq (v.Bound 0) (v.Lit 1)) (u.Eq (v.Bound 0) (v.Lit 2))) (u.Eq (v.Bound 0) (v.Lit 1))) (u.Eq (v.Bound 0) (v.Free 0))))
unfolding query_term mapped everything constructors
and_in_and = refl

-- an AND without parts
-- S(*(R1(b0),*(1,=(b0,f0))))
and_without_parts : translation [] (where_ (rc.And []))
    ≡ u.Sum (u.Mul (u.Rel 1 (v.Bound 0 ∷ [])) (u.Mul u.One (u.Eq (v.Bound 0) (v.Free 0))))
unfolding query_term mapped everything constructors
and_without_parts = refl

-- an OR without parts
-- S(*(R1(b0),*(#(0),=(b0,f0))))
or_without_parts : translation [] (where_ (rc.Or []))
    ≡ u.Sum (u.Mul (u.Rel 1 (v.Bound 0 ∷ [])) (u.Mul (u.Squash u.Zero) (u.Eq (v.Bound 0) (v.Free 0))))
unfolding query_term mapped everything constructors
or_without_parts = refl

-- EXISTS (SELECT b FROM r WHERE r.a = s.a)
-- S(*(R1(b0),*(#(S(S(S(*(R0(b1,b0),*(=(b1,b3),=(b0,b2))))))),=(b0,f0))))
an_exists : translation [] (where_ (rc.Exists (plain (entry 0 2 ∷ []) (rc.Eq (rv.Col 0 0 0) (rv.Col 1 0 0) ∷ []) (rv.Col 0 0 1 ∷ []))))
    ≡ u.Sum (u.Mul (u.Rel 1 (v.Bound 0 ∷ [])) (u.Mul (u.Squash (u.Sum (u.Sum (u.Sum (u.Mul (u.Rel 0 (v.Bound 1 ∷ v.Bound 0 ∷ [])) (u.Mul (u.Eq (v.Bound 1) (v.Bound 3)) (u.Eq (v.Bound 0) (v.Bound 2)))))))) (u.Eq (v.Bound 0) (v.Free 0))))
unfolding query_term mapped everything constructors
an_exists = refl

-- a IN (SELECT b FROM r)
-- S(*(R1(b0),*(#(S(S(*(R0(b1,b0),=(b0,b2))))),=(b0,f0))))
in_a_query : translation [] (where_ (rc.In (rv.Col 0 0 0) (plain (entry 0 2 ∷ []) [] (rv.Col 0 0 1 ∷ []))))
    ≡ u.Sum (u.Mul (u.Rel 1 (v.Bound 0 ∷ [])) (u.Mul (u.Squash (u.Sum (u.Sum (u.Mul (u.Rel 0 (v.Bound 1 ∷ v.Bound 0 ∷ [])) (u.Eq (v.Bound 0) (v.Bound 2)))))) (u.Eq (v.Bound 0) (v.Free 0))))
unfolding query_term mapped everything constructors
in_a_query = refl
