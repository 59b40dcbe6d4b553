-- Terms that are written out, with what the definitions say of them. A comment shows each term as text: `R7(b0,f0)` is the row of place 0
-- and name 0 in table 7, `S` a sum, `#` squash, `!` negation, `c` a literal, `F` a function, `P` a predicate, `G` an aggregate.
use Rattle.std.specs.Prelude.{◌≡◌, ℕ, ◌<◌, List, [], ◌∷◌, refl}
use Rattle.data_model.specs.Reading.{Reading}
use Rattle.data_model.specs.Database.{Database}
use Rattle.u_terms.specs.declared.term.U.TheVariants as u
use Rattle.u_terms.specs.declared.term.Val.TheVariants as v
use Rattle.u_terms.specs.Syntax.{U, Val, constructors}
use Rattle.u_terms.specs.Size.{nodes, depth}
use Rattle.u_terms.specs.Places.{IsClosed}
use Rattle.u_terms.specs.Names.{fresh}
use Rattle.u_terms.specs.Binding.{mapped, opened, opened_with, closed_at, closed_path, sums_over_names}
use Rattle.u_terms.specs.Meaning.{put, meaning}

-- c3 is 1, F4(0) is 1, P0 holds of (0, 1), and G1 is 2 of the bag in which 1 occurs twice and 0 and 2 do not
abbrev reading : Reading
reading = record {
  literals = record { literal = 3; value = 1 } ∷ [];
  functions = record { symbol = 4; arguments = 0 ∷ []; value = 1 } ∷ [];
  predicates = record { symbol = 0; arguments = 0 ∷ 1 ∷ [] } ∷ [];
  aggregates = record { aggregate = 1; counts = 0 ∷ 2 ∷ 0 ∷ []; value = 2 } ∷ [];
}

-- table 7 has the row (1, 0) twice and the row (1, 2) once
abbrev db : Database
db = record { table = 7; rows = (1 ∷ 0 ∷ []) ∷ (1 ∷ 2 ∷ []) ∷ (1 ∷ 0 ∷ []) ∷ [] } ∷ []

-- over the values 0, 1 and 2
abbrev means : List ℕ → List ℕ → U → ℕ
means = meaning 3 reading db

abbrev b : ℕ → Val
b = v.Bound

abbrev f : ℕ → Val
f = v.Free

-- R7(x,y)
abbrev in_table : Val → Val → U
in_table x y = u.Rel 7 (x ∷ y ∷ [])

-- S(R7(b0,f0))
abbrev with_second : U
with_second = u.Sum (in_table (b 0) (f 0))

-- ---- size
-- 1
one_is_one_deep : depth u.One ≡ 1
unfolding depth constructors
one_is_one_deep = refl

-- =(f0,f1)
values_count_in_depth : depth (u.Eq (f 0) (f 1)) ≡ 2
unfolding depth constructors
values_count_in_depth = refl

-- S(R7(b0,f0))
arguments_count : nodes with_second ≡ 4
unfolding nodes constructors
arguments_count = refl

-- +(0,=(G1(R7(b0,f0)),f0))
the_deepest_way_counts : depth (u.Add u.Zero (u.Eq (v.Agg 1 (in_table (b 0) (f 0))) (f 0))) ≡ 5
unfolding depth constructors
the_deepest_way_counts = refl

-- ---- places
-- S(R7(b0,b1)): b0 is the sum's, and b1 dangles
a_place_past_its_binders_dangles : IsClosed 0 (u.Sum (in_table (b 0) (b 1))) ≡ ((0 < 1) × ((1 < 1) × Unit {0}))
unfolding IsClosed constructors
a_place_past_its_binders_dangles = refl

-- =(G1(R7(b0,b1)),f0) inside one binder: the aggregate binds another
an_aggregate_binds : IsClosed 1 (u.Eq (v.Agg 1 (in_table (b 0) (b 1))) (f 0)) ≡ (((0 < 2) × ((1 < 2) × Unit {0})) × Unit {0})
unfolding IsClosed constructors
an_aggregate_binds = refl

-- ---- names, opening and closing
-- *(R7(b0,b1),S(=(b0,b1))): inside the sum the term's place 0 is b1, and the term's place 1 stays as it is
opening_shifts_no_place : opened (u.Mul (in_table (b 0) (b 1)) (u.Sum (u.Eq (b 0) (b 1)))) 4 ≡ u.Mul (in_table (f 4) (b 1)) (u.Sum (u.Eq (b 0) (f 4)))
unfolding mapped constructors
opening_shifts_no_place = refl

-- =(b0,c0)
a_value_is_put_at_place_zero : opened_with (u.Eq (b 0) (v.Lit 0)) (v.Agg 0 (u.Sum (u.Eq (b 0) (b 1)))) ≡ u.Eq (v.Agg 0 (u.Sum (u.Eq (b 0) (b 1)))) (v.Lit 0)
unfolding mapped constructors
a_value_is_put_at_place_zero = refl

-- *(=(f3,f4),=(G1(R7(b0,f3)),f3)): the aggregate binds one value more
closing_counts_binders : closed_at (u.Mul (u.Eq (f 3) (f 4)) (u.Eq (v.Agg 1 (in_table (b 0) (f 3))) (f 3))) 3
    ≡ u.Mul (u.Eq (b 0) (f 4)) (u.Eq (v.Agg 1 (in_table (b 0) (b 1))) (b 0))
unfolding mapped constructors
closing_counts_binders = refl

-- R0(f1,f2,f0)
the_last_name_of_a_path_is_the_innermost : closed_path (u.Rel 0 (f 1 ∷ f 2 ∷ f 0 ∷ [])) 1 2 ≡ u.Rel 0 (b 1 ∷ b 0 ∷ f 0 ∷ [])
unfolding mapped constructors
the_last_name_of_a_path_is_the_innermost = refl

-- R7(f1,f2)
one_sum_for_each_name : sums_over_names 1 2 (in_table (f 1) (f 2)) ≡ u.Sum (u.Sum (in_table (b 1) (b 0)))
unfolding mapped constructors
one_sum_for_each_name = refl

-- +(S(R7(b0,f4)),=(G1(=(f6,b0)),f2))
the_least_bound_is_past_the_greatest_name : fresh (u.Add (u.Sum (in_table (b 0) (f 4))) (u.Eq (v.Agg 1 (u.Eq (f 6) (b 0))) (f 2))) ≡ 7
unfolding fresh constructors
the_least_bound_is_past_the_greatest_name = refl

a_term_without_names_has_the_bound_zero : fresh (in_table (b 0) (b 1)) ≡ 0
unfolding fresh constructors
a_term_without_names_has_the_bound_zero = refl

-- ---- meaning
-- S(R7(b0,f0)) where f0 is 0
a_sum_goes_over_all_values : means (0 ∷ []) [] with_second ≡ 2
unfolding meaning constructors
a_sum_goes_over_all_values = refl

-- S(S(*(R7(b1,b0),=(b0,f0)))) where f0 is 2: b1 is the outer sum's
places_count_from_the_innermost : means (2 ∷ []) [] (u.Sum (u.Sum (u.Mul (in_table (b 1) (b 0)) (u.Eq (b 0) (f 0))))) ≡ 1
unfolding meaning constructors
places_count_from_the_innermost = refl

-- R7(b0,b1) where b0 is 1 and b1 is 0
the_innermost_place_comes_first : means [] (1 ∷ 0 ∷ []) (in_table (b 0) (b 1)) ≡ 2
unfolding meaning constructors
the_innermost_place_comes_first = refl

-- S(=(G1(R7(b0,b1)),f0)) where f0 is 2: of the values of b1, only 0 makes the bag that G1 is 2 of
an_aggregate_is_of_the_counts_of_its_body : means (2 ∷ []) [] (u.Sum (u.Eq (v.Agg 1 (in_table (b 0) (b 1))) (f 0))) ≡ 1
unfolding meaning constructors
an_aggregate_is_of_the_counts_of_its_body = refl

-- +(#(S(R7(b0,f0))),!(S(R7(b0,f1)))) where f0 is 0 and f1 is 1
squash_and_negation_say_whether : means (0 ∷ 1 ∷ []) [] (u.Add (u.Squash with_second) (u.Not (u.Sum (in_table (b 0) (f 1))))) ≡ 2
unfolding meaning constructors
squash_and_negation_say_whether = refl

-- *(P0(f0,F4(f0)),!(P0(c3,f0))) where f0 is 0
a_predicate_holds_where_the_reading_says : means (0 ∷ []) [] (u.Mul (u.Pred 0 (f 0 ∷ v.Fun 4 (f 0 ∷ []) ∷ [])) (u.Not (u.Pred 0 (v.Lit 3 ∷ f 0 ∷ [])))) ≡ 1
unfolding meaning constructors
a_predicate_holds_where_the_reading_says = refl

-- +(=(f5,c9),=(b0,f5)): a name, a literal or a place without a value is 0
what_has_no_value_is_zero : means (1 ∷ []) [] (u.Add (u.Eq (f 5) (v.Lit 9)) (u.Eq (b 0) (f 5))) ≡ 2
unfolding meaning constructors
what_has_no_value_is_zero = refl

names_before_a_name_that_is_put_are_zero : put (5 ∷ []) 3 7 ≡ 5 ∷ 0 ∷ 0 ∷ 7 ∷ []
names_before_a_name_that_is_put_are_zero = refl
