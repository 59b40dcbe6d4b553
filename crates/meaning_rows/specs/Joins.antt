-- Commas, CROSS JOIN and JOIN, and items over them.
use Rattle.std.specs.Prelude.{◌≡◌, refl, true, [], ◌∷◌, None}
use Rattle.sql_model.specs.declared.tree.Source.TheVariants as source
use Rattle.sql_model.specs.declared.tree.Entry.{Entry, roll-Entry}
use Rattle.sql_model.specs.Syntax.{Name, AliasStar, Value}
use Rattle.sql_model.specs.Compute.{everything}
use Rattle.sql_model.specs.samples.Forms.{select, star, from, join, col, equal, r, s, none, a, b, x, y}
use Rattle.meaning_rows.specs.Read.{less, predicate, rows_of}

-- CROSS JOIN table AS alias
abbrev cross : Name → Name → Entry
cross table alias = roll-Entry (record { source = source.Named table 0; alias = alias; at = 0; joined = true; on = None })

-- SELECT r.b, s.a FROM r, s
a_comma_pairs_all_rows : rows_of (select (Value (col r b) None ∷ Value (col s a) None ∷ []) (from r r ∷ from s s ∷ []))
    ≡ (1 ∷ 0 ∷ []) ∷ (1 ∷ 0 ∷ []) ∷ (1 ∷ 2 ∷ []) ∷ (2 ∷ 0 ∷ []) ∷ (2 ∷ 0 ∷ []) ∷ (2 ∷ 2 ∷ []) ∷ (1 ∷ 0 ∷ []) ∷ (1 ∷ 0 ∷ []) ∷ (1 ∷ 2 ∷ []) ∷ []
unfolding everything
a_comma_pairs_all_rows = refl

-- SELECT r.b, s.a FROM r CROSS JOIN s
a_cross_join_pairs_all_rows : rows_of (select (Value (col r b) None ∷ Value (col s a) None ∷ []) (from r r ∷ cross s s ∷ []))
    ≡ (1 ∷ 0 ∷ []) ∷ (1 ∷ 0 ∷ []) ∷ (1 ∷ 2 ∷ []) ∷ (2 ∷ 0 ∷ []) ∷ (2 ∷ 0 ∷ []) ∷ (2 ∷ 2 ∷ []) ∷ (1 ∷ 0 ∷ []) ∷ (1 ∷ 0 ∷ []) ∷ (1 ∷ 2 ∷ []) ∷ []
unfolding everything
a_cross_join_pairs_all_rows = refl

-- SELECT * FROM r CROSS JOIN none
no_row_pairs_with_none : rows_of (select star (from r r ∷ cross none none ∷ [])) ≡ []
unfolding everything
no_row_pairs_with_none = refl

-- SELECT y.* FROM r AS x JOIN r AS y ON x.b < y.b
an_on_is_any_condition : rows_of (select (AliasStar y 0 ∷ []) (from r x ∷ join r y (predicate less (col x b ∷ col y b ∷ [])) ∷ []))
    ≡ (0 ∷ 2 ∷ []) ∷ (0 ∷ 2 ∷ []) ∷ []
unfolding everything
an_on_is_any_condition = refl

-- SELECT x.a, y.* FROM r AS x JOIN s AS y ON x.b = y.a
an_alias_star_is_its_entry_alone : rows_of (select (Value (col x a) None ∷ AliasStar y 0 ∷ []) (from r x ∷ join s y (equal (col x b) (col y a)) ∷ []))
    ≡ (0 ∷ 2 ∷ []) ∷ []
unfolding everything
an_alias_star_is_its_entry_alone = refl
