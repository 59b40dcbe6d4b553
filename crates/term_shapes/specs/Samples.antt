-- Terms that are written out, with their shapes. A comment shows each term as text: `R7(b0,f0)` is the row of place 0 and name 0 in table 7,
-- `S` a sum, `#` squash, `!` negation, `c` a literal, `F` a function, `P` a predicate.
use Rattle.std.specs.Prelude.{◌≡◌, ℕ, List, [], ◌∷◌, Option, Some, None, refl}
use Rattle.u_terms.specs.declared.term.U.TheVariants as u
use Rattle.u_terms.specs.declared.term.Val.TheVariants as v
use Rattle.u_terms.specs.Syntax.{U, Val, constructors}
use Rattle.shapes.specs.Shapes.{column, literal, holds, fails, differ, Entry, Shape}
use Rattle.term_shapes.specs.Factors.{factors, negated, sum_count, under_sums}
use Rattle.term_shapes.specs.TermShape.{term_shape}

abbrev b : ℕ → Val
b = v.Bound

abbrev f : ℕ → Val
f = v.Free

-- R7(x,y)
abbrev in_table : Val → Val → U
in_table x y = u.Rel 7 (x ∷ y ∷ [])

abbrev two : List Entry
two = record { table = 7; columns = 2 } ∷ []

-- S(S(body)): place 1 is the outer sum's
abbrev over_both : U → U
over_both body = u.Sum (u.Sum body)

-- of a row of one column
abbrev shape : U → Option Shape
shape = term_shape 1

-- S(S(*(R7(b1,b0),=(b1,f0))))
a_row_of_the_first_column : shape (over_both (u.Mul (in_table (b 1) (b 0)) (u.Eq (b 1) (f 0))))
    ≡ Some (record { entries = two; equalities = []; marks = []; outputs = column 0 0 ∷ [] })
unfolding term_shape factors sum_count under_sums constructors
a_row_of_the_first_column = refl

-- S(S(*(=(f0,b0),*(1,*(=(b1,c3),R7(b1,b0))))))
factors_stand_in_any_order : shape (over_both (u.Mul (u.Eq (f 0) (b 0)) (u.Mul u.One (u.Mul (u.Eq (b 1) (v.Lit 3)) (in_table (b 1) (b 0))))))
    ≡ Some (record { entries = two; equalities = (column 0 0, literal 3) ∷ []; marks = []; outputs = column 0 1 ∷ [] })
unfolding term_shape factors sum_count under_sums constructors
factors_stand_in_any_order = refl

-- S(S(*(R7(b0,b1),*(!(=(b0,b1)),*(P2(b1,c1),*(!(P4(b0)),=(c1,f0)))))))
predicates_and_negations_are_marks : shape (over_both (u.Mul (in_table (b 0) (b 1))
    (u.Mul (u.Not (u.Eq (b 0) (b 1))) (u.Mul (u.Pred 2 (b 1 ∷ v.Lit 1 ∷ [])) (u.Mul (u.Not (u.Pred 4 (b 0 ∷ []))) (u.Eq (v.Lit 1) (f 0)))))))
    ≡ Some (record {
      entries = two;
      equalities = [];
      marks = record { kind = differ; points = column 0 0 ∷ column 0 1 ∷ [] } ∷ record { kind = holds 2; points = column 0 1 ∷ literal 1 ∷ [] }
          ∷ record { kind = fails 4; points = column 0 0 ∷ [] } ∷ [];
      outputs = literal 1 ∷ [];
    })
unfolding term_shape factors negated sum_count under_sums constructors
predicates_and_negations_are_marks = refl

-- =(c1,f0)
a_row_of_literals_has_no_entries : shape (u.Eq (v.Lit 1) (f 0)) ≡ Some (record { entries = []; equalities = []; marks = []; outputs = literal 1 ∷ [] })
unfolding term_shape factors sum_count under_sums constructors
a_row_of_literals_has_no_entries = refl

-- ---- terms without a shape
-- S(S(*(R7(b1,b1),=(b1,f0))))
a_place_stands_in_one_atom_once : shape (over_both (u.Mul (in_table (b 1) (b 1)) (u.Eq (b 1) (f 0)))) ≡ None
unfolding term_shape factors sum_count under_sums constructors
a_place_stands_in_one_atom_once = refl

-- S(S(S(*(R7(b1,b0),=(b1,f0)))))
each_place_stands_in_an_atom : shape (u.Sum (over_both (u.Mul (in_table (b 1) (b 0)) (u.Eq (b 1) (f 0))))) ≡ None
unfolding term_shape factors sum_count under_sums constructors
each_place_stands_in_an_atom = refl

-- S(R7(b0,c0))
an_atom_is_of_places : shape (u.Sum (in_table (b 0) (v.Lit 0))) ≡ None
unfolding term_shape factors sum_count under_sums constructors
an_atom_is_of_places = refl

-- S(S(R7(b1,b0)))
each_name_has_an_output : shape (over_both (in_table (b 1) (b 0))) ≡ None
unfolding term_shape factors sum_count under_sums constructors
each_name_has_an_output = refl

-- S(S(*(R7(b1,b0),*(=(b1,f0),=(b0,f0)))))
a_name_has_one_output : shape (over_both (u.Mul (in_table (b 1) (b 0)) (u.Mul (u.Eq (b 1) (f 0)) (u.Eq (b 0) (f 0))))) ≡ None
unfolding term_shape factors sum_count under_sums constructors
a_name_has_one_output = refl

-- S(S(*(R7(b1,b0),=(b1,f1))))
a_name_past_the_row_is_no_output : shape (over_both (u.Mul (in_table (b 1) (b 0)) (u.Eq (b 1) (f 1)))) ≡ None
unfolding term_shape factors sum_count under_sums constructors
a_name_past_the_row_is_no_output = refl

-- S(S(*(R7(b1,b0),*(=(b1,f0),P2(f0)))))
a_name_stands_in_no_predicate : shape (over_both (u.Mul (in_table (b 1) (b 0)) (u.Mul (u.Eq (b 1) (f 0)) (u.Pred 2 (f 0 ∷ []))))) ≡ None
unfolding term_shape factors sum_count under_sums constructors
a_name_stands_in_no_predicate = refl

-- =(f0,f0)
two_names_give_no_output : shape (u.Eq (f 0) (f 0)) ≡ None
unfolding term_shape factors sum_count under_sums constructors
two_names_give_no_output = refl

-- S(S(*(R7(b1,b0),*(=(b1,f0),#(=(b0,c1))))))
a_squash_is_no_factor_of_a_block : shape (over_both (u.Mul (in_table (b 1) (b 0)) (u.Mul (u.Eq (b 1) (f 0)) (u.Squash (u.Eq (b 0) (v.Lit 1)))))) ≡ None
unfolding term_shape factors sum_count under_sums constructors
a_squash_is_no_factor_of_a_block = refl

-- S(S(*(R7(b1,b0),=(F4(b1),f0))))
a_call_is_no_point : shape (over_both (u.Mul (in_table (b 1) (b 0)) (u.Eq (v.Fun 4 (b 1 ∷ [])) (f 0)))) ≡ None
unfolding term_shape factors sum_count under_sums constructors
a_call_is_no_point = refl
