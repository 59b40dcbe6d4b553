-- Which entry a column names.
use Rattle.std.specs.Prelude.{◌≡◌, refl, true, false, [], ◌∷◌, None}
use Rattle.sql_model.specs.declared.tree.Expr.TheVariants as expr
use Rattle.sql_model.specs.Syntax.{Query, Expr, Value}
use Rattle.sql_model.specs.samples.Forms.{select, select_where, star, only, from, join, col, bare, equal, exists, one, two, r, s, a, b, x, y, z}
use Rattle.scope_core.specs.Syntax.{Col, Lit}
use Rattle.scope_core.specs.declared.tree.RCond.TheVariants as c
use Rattle.scope_core.specs.Plain.{is_plain}
use Rattle.scope_core.specs.Compute.{resolving}
use Rattle.scope_core.specs.samples.Trees.{known, tree, rows_of, entry, plain}

-- SELECT x.a FROM r AS x WHERE EXISTS (SELECT * FROM s AS x WHERE x.a = 1): the inner alias hides the outer one
abbrev inner_alias : Query
unfolding resolving
inner_alias = select_where (only (col x a)) (from r x ∷ []) (exists (select_where star (from s x ∷ []) (equal (col x a) one)))

an_inner_alias_hides_an_outer_one : tree inner_alias
    ≡ plain (entry 0 2 ∷ []) (c.Exists (plain (entry 1 1 ∷ []) (c.Eq (Col 0 0 0) (Lit 0) ∷ []) (Col 0 0 0 ∷ [])) ∷ []) (Col 0 0 0 ∷ [])
unfolding resolving
an_inner_alias_hides_an_outer_one = refl

-- SELECT x.b FROM r AS x WHERE EXISTS (SELECT * FROM s AS y WHERE y.a = x.b)
abbrev correlated : Query
unfolding resolving
correlated = select_where (only (col x b)) (from r x ∷ []) (exists (select_where star (from s y ∷ []) (equal (col y a) (col x b))))

a_subquery_sees_outwards : tree correlated
    ≡ plain (entry 0 2 ∷ []) (c.Exists (plain (entry 1 1 ∷ []) (c.Eq (Col 0 0 0) (Col 1 0 1) ∷ []) (Col 0 0 0 ∷ [])) ∷ []) (Col 0 0 1 ∷ [])
unfolding resolving
a_subquery_sees_outwards = refl

its_rows : rows_of correlated ≡ (2 ∷ []) ∷ []
unfolding resolving
its_rows = refl

-- SELECT x.a FROM r AS x WHERE EXISTS (SELECT * FROM s AS x, r AS y JOIN s AS z ON z.a = x.a): the ON does not see the x before the comma
abbrev comma : Query
unfolding resolving
comma =
    select_where (only (col x a)) (from r x ∷ [])
    (exists (select star (from s x ∷ from r y ∷ join s z (equal (col z a) (col x a)) ∷ [])))

an_on_sees_its_own_item_alone : tree comma
    ≡ plain (entry 0 2 ∷ []) (c.Exists (plain (entry 1 1 ∷ entry 0 2 ∷ entry 1 1 ∷ [])
    (c.Eq (Col 0 2 0) (Col 1 0 0) ∷ []) (Col 0 0 0 ∷ Col 0 1 0 ∷ Col 0 1 1 ∷ Col 0 2 0 ∷ [])) ∷ []) (Col 0 0 0 ∷ [])
unfolding resolving
an_on_sees_its_own_item_alone = refl

its_rows_too : rows_of comma ≡ (0 ∷ []) ∷ (0 ∷ []) ∷ []
unfolding resolving
its_rows_too = refl

-- SELECT b FROM r JOIN s ON s.a = r.a AND (b = 1 AND r.a = b) WHERE NOT (b = 2 AND (b = 1 AND b = b)): no AND stands in an AND
abbrev nested : Query
unfolding resolving
nested =
    select_where (only (bare b))
    (from r r ∷ join s s (expr.And (equal (col s a) (col r a) ∷ expr.And (equal (bare b) one ∷ equal (col r a) (bare b) ∷ []) 0 ∷ []) 0) ∷ [])
    (expr.Not (expr.And (equal (bare b) two ∷ expr.And (equal (bare b) one ∷ equal (bare b) (bare b) ∷ []) 0 ∷ []) 0) 0)

conjuncts_are_flattened : tree nested
    ≡ plain (entry 0 2 ∷ entry 1 1 ∷ [])
    (c.Eq (Col 0 1 0) (Col 0 0 0) ∷ c.Eq (Col 0 0 1) (Lit 0) ∷ c.Eq (Col 0 0 0) (Col 0 0 1)
    ∷ c.Not (c.And (c.Eq (Col 0 0 1) (Lit 1) ∷ c.Eq (Col 0 0 1) (Lit 0) ∷ c.Eq (Col 0 0 1) (Col 0 0 1) ∷ [])) ∷ [])
    (Col 0 0 1 ∷ [])
unfolding resolving
conjuncts_are_flattened = refl

-- SELECT x.a, 1 FROM r AS x JOIN s AS y ON x.a = y.a WHERE x.b = 1 AND y.a = x.b, and the same without the AND but with NOT
abbrev points_alone : Expr → Query
unfolding resolving
points_alone condition = select_where (Value (col x a) None ∷ Value one None ∷ []) (from r x ∷ join s y (equal (col x a) (col y a)) ∷ []) condition

a_plain_query : is_plain (points_alone (expr.And (equal (col x b) one ∷ equal (col y a) (col x b) ∷ []) 0)) known ≡ true
unfolding resolving
a_plain_query = refl

no_plain_query : is_plain (points_alone (expr.Not (equal (col x b) one) 0)) known ≡ false
unfolding resolving
no_plain_query = refl
