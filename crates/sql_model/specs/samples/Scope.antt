-- Which entry of FROM a column names.
use Rattle.std.specs.Prelude.{◌≡◌, refl, [], ◌∷◌}
use Rattle.sql_model.specs.Compute.{everything}
use Rattle.sql_model.specs.samples.Forms.{select, select_where, star, only, from, derived, join, col, bare, equal, exists, two, r, s, a, b, x, y, z, rows_of}

-- SELECT x.b FROM r AS x WHERE EXISTS (SELECT * FROM s AS y WHERE y.a = x.b)
a_subquery_sees_outwards : rows_of
    (select_where (only (col x b)) (from r x ∷ []) (exists (select_where star (from s y ∷ []) (equal (col y a) (col x b)))))
    ≡ (2 ∷ []) ∷ []
unfolding everything
a_subquery_sees_outwards = refl

-- SELECT b FROM r WHERE EXISTS (SELECT * FROM s WHERE a = b): a is that of s, and b, which s lacks, that of r
a_bare_name_is_sought_inside_first : rows_of
    (select_where (only (bare b)) (from r r ∷ []) (exists (select_where star (from s s ∷ []) (equal (bare a) (bare b)))))
    ≡ (2 ∷ []) ∷ []
unfolding everything
a_bare_name_is_sought_inside_first = refl

-- SELECT x.b FROM r AS x WHERE EXISTS (SELECT * FROM s AS x WHERE x.a = 2): x is s, which has 2, and not r, which does not
an_inner_alias_hides_an_outer_one : rows_of
    (select_where (only (col x b)) (from r x ∷ []) (exists (select_where star (from s x ∷ []) (equal (col x a) two))))
    ≡ (1 ∷ []) ∷ (2 ∷ []) ∷ (1 ∷ []) ∷ []
unfolding everything
an_inner_alias_hides_an_outer_one = refl

-- SELECT * FROM r JOIN s AS y ON r.a = y.a
a_join_pairs_rows : rows_of (select star (from r r ∷ join s y (equal (col r a) (col y a)) ∷ []))
    ≡ (0 ∷ 1 ∷ 0 ∷ []) ∷ (0 ∷ 1 ∷ 0 ∷ []) ∷ (0 ∷ 2 ∷ 0 ∷ []) ∷ (0 ∷ 2 ∷ 0 ∷ []) ∷ []
unfolding everything
a_join_pairs_rows = refl

-- SELECT x.a FROM r AS x WHERE EXISTS (SELECT * FROM s AS x, r AS y JOIN s AS z ON z.a = x.a): the ON does not see the x before
-- the comma, so its x is the outer one, which no z matches where its a is 1
an_on_sees_its_own_item_alone : rows_of
    (select_where (only (col x a)) (from r x ∷ [])
    (exists (select star (from s x ∷ from r y ∷ join s z (equal (col z a) (col x a)) ∷ []))))
    ≡ (0 ∷ []) ∷ (0 ∷ []) ∷ []
unfolding everything
an_on_sees_its_own_item_alone = refl

-- SELECT x.a FROM r AS x WHERE EXISTS (SELECT * FROM s AS x, (SELECT y.a FROM s AS y WHERE y.a = x.a) AS z): likewise for a
-- derived table
a_derived_table_sees_no_neighbour : rows_of
    (select_where (only (col x a)) (from r x ∷ [])
    (exists (select star (from s x ∷ derived (select_where (only (col y a)) (from s y ∷ []) (equal (col y a) (col x a))) z ∷ []))))
    ≡ (0 ∷ []) ∷ (0 ∷ []) ∷ []
unfolding everything
a_derived_table_sees_no_neighbour = refl
