-- Operators and called names as values, and literals.
use Rattle.std.specs.Prelude.{◌≡◌, refl, true, false, [], ◌∷◌, Some, None}
use Rattle.sql_model.specs.Syntax.{Value}
use Rattle.sql_model.specs.Compute.{everything}
use Rattle.sql_model.specs.samples.Forms.{block, select, only, from, bare, one, two, r, s, a, b}
use Rattle.meaning_rows.specs.Read.{plus, minus, times, f, operator, call, rows_of}

-- SELECT a + b FROM r
an_operator_is_read_for_each_row : rows_of (select (only (operator plus (bare a ∷ bare b ∷ []))) (from r r ∷ [])) ≡ (1 ∷ []) ∷ (2 ∷ []) ∷ (2 ∷ []) ∷ []
unfolding everything
an_operator_is_read_for_each_row = refl

-- SELECT b + a FROM r: 1 + 0 and 2 + 0 have no entry, so they are 0; no law of + is used
no_law_of_an_operator_is_used : rows_of (select (only (operator plus (bare b ∷ bare a ∷ []))) (from r r ∷ [])) ≡ (0 ∷ []) ∷ (0 ∷ []) ∷ (2 ∷ []) ∷ []
unfolding everything
no_law_of_an_operator_is_used = refl

-- SELECT a * b FROM r
an_operator_without_an_entry_is_0 : rows_of (select (only (operator times (bare a ∷ bare b ∷ []))) (from r r ∷ [])) ≡ (0 ∷ []) ∷ (0 ∷ []) ∷ (0 ∷ []) ∷ []
unfolding everything
an_operator_without_an_entry_is_0 = refl

-- SELECT - b, a - b FROM r: the same symbol with one argument and with two
a_symbol_is_read_with_all_its_arguments : rows_of (select (Value (operator minus (bare b ∷ [])) None ∷ Value (operator minus (bare a ∷ bare b ∷ [])) None ∷ []) (from r r ∷ []))
    ≡ (3 ∷ 1 ∷ []) ∷ (2 ∷ 0 ∷ []) ∷ (3 ∷ 0 ∷ []) ∷ []
unfolding everything
a_symbol_is_read_with_all_its_arguments = refl

-- SELECT f(b) FROM r
a_called_name_is_a_value : rows_of (select (only (call f (bare b ∷ []))) (from r r ∷ [])) ≡ (2 ∷ []) ∷ (3 ∷ []) ∷ (2 ∷ []) ∷ []
unfolding everything
a_called_name_is_a_value = refl

-- SELECT f(f(b)) FROM r
calls_stand_in_calls : rows_of (select (only (call f (call f (bare b ∷ []) ∷ []))) (from r r ∷ [])) ≡ (3 ∷ []) ∷ (0 ∷ []) ∷ (3 ∷ []) ∷ []
unfolding everything
calls_stand_in_calls = refl

-- SELECT f() FROM s
a_call_without_arguments_is_the_same_in_each_row : rows_of (select (only (call f [])) (from s s ∷ [])) ≡ (1 ∷ []) ∷ (1 ∷ []) ∷ (1 ∷ []) ∷ []
unfolding everything
a_call_without_arguments_is_the_same_in_each_row = refl

-- SELECT 2, a FROM s
a_literal_is_the_same_in_each_row : rows_of (select (Value two None ∷ Value (bare a) None ∷ []) (from s s ∷ [])) ≡ (2 ∷ 0 ∷ []) ∷ (2 ∷ 0 ∷ []) ∷ (2 ∷ 2 ∷ []) ∷ []
unfolding everything
a_literal_is_the_same_in_each_row = refl

-- SELECT DISTINCT f(b) FROM r
distinct_compares_values : rows_of (block true (only (call f (bare b ∷ []))) (from r r ∷ []) None None None) ≡ (2 ∷ []) ∷ (3 ∷ []) ∷ []
unfolding everything
distinct_compares_values = refl

-- SELECT 1 FROM r GROUP BY b
groups_are_by_values : rows_of (block false (only one) (from r r ∷ []) None (Some (bare b ∷ [])) None) ≡ (1 ∷ []) ∷ (1 ∷ []) ∷ []
unfolding everything
groups_are_by_values = refl
