-- AND, OR, and what stands for BETWEEN and lists of IN.
use Rattle.std.specs.Prelude.{◌≡◌, refl, List, [], ◌∷◌}
use Rattle.data_model.specs.Rows.{Row}
use Rattle.sql_model.specs.Syntax.{Expr}
use Rattle.sql_model.specs.Compute.{everything}
use Rattle.sql_model.specs.samples.Forms.{select_where, all_of, star, from, bare, equal, exists, one, two, r, s, none, a, b}
use Rattle.meaning_rows.specs.Read.{less, at_most, p, predicate, call, negated, all, some, rows_of}

abbrev kept_by : Expr → List Row
kept_by condition = rows_of (select_where star (from r r ∷ []) condition)

-- a < b AND b = 1
and_asks_for_both : kept_by (all (predicate less (bare a ∷ bare b ∷ []) ∷ equal (bare b) one ∷ [])) ≡ (0 ∷ 1 ∷ []) ∷ []
unfolding everything
and_asks_for_both = refl

-- a < b AND b = 1 AND b = 2
and_asks_for_all : kept_by (all (predicate less (bare a ∷ bare b ∷ []) ∷ equal (bare b) one ∷ equal (bare b) two ∷ [])) ≡ []
unfolding everything
and_asks_for_all = refl

-- a = b OR b = 2
or_asks_for_one : kept_by (some (equal (bare a) (bare b) ∷ equal (bare b) two ∷ [])) ≡ (0 ∷ 2 ∷ []) ∷ (1 ∷ 1 ∷ []) ∷ []
unfolding everything
or_asks_for_one = refl

-- b = 1 OR b = 2 OR a = b: the row (1, 1), of which two parts are true, stands once
or_repeats_no_row : kept_by (some (equal (bare b) one ∷ equal (bare b) two ∷ equal (bare a) (bare b) ∷ [])) ≡ (0 ∷ 1 ∷ []) ∷ (0 ∷ 2 ∷ []) ∷ (1 ∷ 1 ∷ []) ∷ []
unfolding everything
or_repeats_no_row = refl

-- (a < b OR p(b)) AND NOT b = 2
conditions_stand_in_conditions :
    kept_by (all (some (predicate less (bare a ∷ bare b ∷ []) ∷ call p (bare b ∷ []) ∷ []) ∷ negated (equal (bare b) two) ∷ [])) ≡ (0 ∷ 1 ∷ []) ∷ (1 ∷ 1 ∷ []) ∷ []
unfolding everything
conditions_stand_in_conditions = refl

-- b BETWEEN 1 AND 1 is 1 <= b AND b <= 1
between_has_both_ends : kept_by (all (predicate at_most (one ∷ bare b ∷ []) ∷ predicate at_most (bare b ∷ one ∷ []) ∷ [])) ≡ (0 ∷ 1 ∷ []) ∷ (1 ∷ 1 ∷ []) ∷ []
unfolding everything
between_has_both_ends = refl

-- b NOT BETWEEN 1 AND 1
not_between_is_its_negation : kept_by (negated (all (predicate at_most (one ∷ bare b ∷ []) ∷ predicate at_most (bare b ∷ one ∷ []) ∷ []))) ≡ (0 ∷ 2 ∷ []) ∷ []
unfolding everything
not_between_is_its_negation = refl

-- a IN (1, 2) is a = 1 OR a = 2
a_list_of_in_is_an_or : kept_by (some (equal (bare a) one ∷ equal (bare a) two ∷ [])) ≡ (1 ∷ 1 ∷ []) ∷ []
unfolding everything
a_list_of_in_is_an_or = refl

-- EXISTS (SELECT * FROM s), NOT EXISTS (SELECT * FROM s), NOT EXISTS (SELECT * FROM none)
exists_asks_for_a_row : kept_by (exists (all_of s)) ≡ (0 ∷ 1 ∷ []) ∷ (0 ∷ 2 ∷ []) ∷ (1 ∷ 1 ∷ []) ∷ []
unfolding everything
exists_asks_for_a_row = refl

not_exists_asks_for_none : kept_by (negated (exists (all_of s))) ≡ []
unfolding everything
not_exists_asks_for_none = refl

not_exists_of_no_row_holds : kept_by (negated (exists (all_of none))) ≡ (0 ∷ 1 ∷ []) ∷ (0 ∷ 2 ∷ []) ∷ (1 ∷ 1 ∷ []) ∷ []
unfolding everything
not_exists_of_no_row_holds = refl
