-- Products that are written out, with the values of points in them. A comment shows each as text.
use Rattle.std.specs.Prelude.{◌≡◌, ℕ, [], ◌∷◌, map, reverse, refl}
use Rattle.u_terms.specs.declared.term.U.TheVariants as u
use Rattle.u_terms.specs.declared.term.Val.TheVariants as v
use Rattle.u_terms.specs.Syntax.{U, Val, constructors}
use Rattle.u_rules.specs.Terms.{mul_leaves}
use Rattle.shapes.specs.Shapes.{column, literal, differ}
use Rattle.shape_entails.specs.Values.{is_atom, row_of_atom, atoms, point_value, mark_of}
use Rattle.shape_entails.specs.Turning.{source, AreFound}

abbrev f : ℕ → Val
f = v.Free

-- *(R7(f2,f3),*(=(f4,f3),*(R5(f4),!(=(f2,f4)))))
abbrev joined : U
joined = u.Mul (u.Rel 7 (f 2 ∷ f 3 ∷ [])) (u.Mul (u.Eq (f 4) (f 3)) (u.Mul (u.Rel 5 (f 4 ∷ [])) (u.Not (u.Eq (f 2) (f 4)))))

atoms_in_order : atoms joined ≡ u.Rel 7 (f 2 ∷ f 3 ∷ []) ∷ u.Rel 5 (f 4 ∷ []) ∷ []
unfolding is_atom mul_leaves constructors
atoms_in_order = refl

a_column_of_the_first_entry : point_value joined (column 0 1) ≡ f 3
unfolding is_atom row_of_atom mul_leaves constructors
a_column_of_the_first_entry = refl

a_column_of_the_next_entry : point_value joined (column 1 0) ≡ f 4
unfolding is_atom row_of_atom mul_leaves constructors
a_column_of_the_next_entry = refl

a_literal_is_its_own_value : point_value joined (literal 9) ≡ v.Lit 9
unfolding is_atom row_of_atom mul_leaves constructors
a_literal_is_its_own_value = refl

a_negated_equality : mark_of joined (record { kind = differ; points = column 0 0 ∷ column 1 0 ∷ [] }) ≡ u.Not (u.Eq (f 2) (f 4))
unfolding is_atom row_of_atom mul_leaves constructors
a_negated_equality = refl

-- ---- sums in another order
-- of three sums the innermost goes outermost: the others move one inside
a_sum_goes_outermost : map (source (2 ∷ 0 ∷ 0 ∷ [])) (0 ∷ 1 ∷ 2 ∷ []) ≡ 1 ∷ 2 ∷ 0 ∷ []
unfolding source
a_sum_goes_outermost = refl

sums_in_order_stay : map (source (0 ∷ 0 ∷ 0 ∷ [])) (0 ∷ 1 ∷ 2 ∷ []) ≡ 0 ∷ 1 ∷ 2 ∷ []
unfolding source
sums_in_order_stay = refl

the_turns_of_sources : AreFound (2 ∷ 1 ∷ 0 ∷ []) (reverse (1 ∷ 2 ∷ 0 ∷ [])) (2 ∷ 0 ∷ 0 ∷ [])
the_turns_of_sources = (refl, (refl, (refl, tt)))
