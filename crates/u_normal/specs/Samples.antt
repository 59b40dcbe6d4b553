-- Terms that are written out, with what the definitions say of them. A comment shows each term as text.
use Rattle.std.specs.Prelude.{◌≡◌, [], ◌∷◌, refl}
use Rattle.u_terms.specs.declared.term.U.TheVariants as u
use Rattle.u_terms.specs.declared.term.Val.TheVariants as v
use Rattle.u_terms.specs.Syntax.{constructors}
use Rattle.u_deriv.specs.Contexts.{eq_right, in_function, filled, way, binders}
use Rattle.u_normal.specs.Summing.{over_each}
use Rattle.u_normal.specs.Values.{IsPlace}

-- the last argument in =(f0,F0(f1,f2))
a_value_stands_two_arguments_down : IsPlace (1 ∷ 1 ∷ []) (λ value. u.Eq (v.Free 0) (v.Fun 0 (v.Free 1 ∷ value ∷ [])))
unfolding filled way binders
a_value_stands_two_arguments_down = record {
  context = λ c. eq_right (v.Free 0) (in_function 0 (v.Free 1 ∷ []) c []);
  filled_is = λ c s. refl;
  way_is = λ c. refl;
  binders_is = λ c. refl;
}

-- +(1,+(0,S(1))) becomes +(S(1),+(0,S(S(1))))
each_block_is_summed_over : over_each (u.Add u.One (u.Add u.Zero (u.Sum u.One))) ≡ u.Add (u.Sum u.One) (u.Add u.Zero (u.Sum (u.Sum u.One)))
unfolding over_each constructors
each_block_is_summed_over = refl
