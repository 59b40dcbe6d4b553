-- Predicates and called names as conditions.
use Rattle.std.specs.Prelude.{◌≡◌, refl, List, [], ◌∷◌}
use Rattle.data_model.specs.Rows.{Row}
use Rattle.sql_model.specs.Syntax.{Expr}
use Rattle.sql_model.specs.Compute.{everything}
use Rattle.sql_model.specs.samples.Forms.{select_where, star, from, bare, one, two, r, a, b}
use Rattle.meaning_rows.specs.Read.{less, at_most, f, p, predicate, call, negated, rows_of}

-- SELECT * FROM r WHERE ..
abbrev kept_by : Expr → List Row
kept_by condition = rows_of (select_where star (from r r ∷ []) condition)

-- a < b
a_predicate_keeps_rows : kept_by (predicate less (bare a ∷ bare b ∷ [])) ≡ (0 ∷ 1 ∷ []) ∷ (0 ∷ 2 ∷ []) ∷ []
unfolding everything
a_predicate_keeps_rows = refl

-- b < a
the_order_of_arguments_counts : kept_by (predicate less (bare b ∷ bare a ∷ [])) ≡ []
unfolding everything
the_order_of_arguments_counts = refl

-- NOT a < b
not_is_plain_negation : kept_by (negated (predicate less (bare a ∷ bare b ∷ []))) ≡ (1 ∷ 1 ∷ []) ∷ []
unfolding everything
not_is_plain_negation = refl

-- NOT NOT a < b
two_negations_are_none : kept_by (negated (negated (predicate less (bare a ∷ bare b ∷ [])))) ≡ (0 ∷ 1 ∷ []) ∷ (0 ∷ 2 ∷ []) ∷ []
unfolding everything
two_negations_are_none = refl

-- 2 < b: there is no entry for 2 and any other value
a_predicate_without_an_entry_is_false : kept_by (predicate less (two ∷ bare b ∷ [])) ≡ []
unfolding everything
a_predicate_without_an_entry_is_false = refl

-- p(b)
a_called_name_is_a_condition : kept_by (call p (bare b ∷ [])) ≡ (0 ∷ 1 ∷ []) ∷ (1 ∷ 1 ∷ []) ∷ []
unfolding everything
a_called_name_is_a_condition = refl

-- p(b, a)
a_called_name_is_read_with_all_its_arguments : kept_by (call p (bare b ∷ bare a ∷ [])) ≡ (0 ∷ 1 ∷ []) ∷ []
unfolding everything
a_called_name_is_read_with_all_its_arguments = refl

-- f(b): f is one function and another predicate
a_name_is_a_function_and_a_predicate : kept_by (call f (bare b ∷ [])) ≡ (0 ∷ 2 ∷ []) ∷ []
unfolding everything
a_name_is_a_function_and_a_predicate = refl

-- p(f(b)): f(1) is 2 and f(2) is 3, and p is true of neither
the_argument_of_a_condition_is_a_value : kept_by (call p (call f (bare b ∷ []) ∷ [])) ≡ []
unfolding everything
the_argument_of_a_condition_is_a_value = refl

-- a value is no condition, and is false: no well-formed query has one here
a_value_as_a_condition_is_false : kept_by one ≡ []
unfolding everything
a_value_as_a_condition_is_false = refl

-- b <= 1
an_inclusive_predicate_is_one_of_its_own : kept_by (predicate at_most (bare b ∷ one ∷ [])) ≡ (0 ∷ 1 ∷ []) ∷ (1 ∷ 1 ∷ []) ∷ []
unfolding everything
an_inclusive_predicate_is_one_of_its_own = refl
