-- Paths, steps and parts that are written out, with what the definitions say of them. A comment shows each term as text.
use Rattle.std.specs.Prelude.{◌≡◌, ℕ, List, [], ◌∷◌, refl}
use Rattle.u_terms.specs.declared.term.U.TheVariants as u
use Rattle.u_terms.specs.declared.term.Val.TheVariants as v
use Rattle.u_terms.specs.Syntax.{U, Val, constructors}
use Rattle.u_terms.specs.Binding.{mapped}
use Rattle.u_deriv.specs.declared.run.Run.{Run}
use Rattle.u_deriv.specs.declared.run.Run.TheVariants.{Left, Inside, Argument}
use Rattle.u_deriv.specs.declared.step.Step.{Step}
use Rattle.u_deriv.specs.Contexts.{hole, in_sum, eq_right, in_aggregate, filled, way, binders}
use Rattle.u_moves.specs.Turning.{flipped, turned_back}
use Rattle.u_moves.specs.Lifting.{IsPart, after, lifted, lifted_step}

abbrev b : ℕ → Val
b = v.Bound

abbrev f : ℕ → Val
f = v.Free

-- R0(x)
abbrev row : Val → U
row x = u.Rel 0 (x ∷ [])

-- ---- lists of steps
the_last_step_comes_first : (r s : Step) → turned_back (r ∷ s ∷ []) ≡ flipped s ∷ flipped r ∷ []
the_last_step_comes_first r s = refl

steps_keep_their_order : (path : List Run) (r s : Step) → lifted path (r ∷ s ∷ []) ≡ lifted_step path r ∷ lifted_step path s ∷ []
steps_keep_their_order path r s = refl

-- i2 and then i1l1
the_path_comes_first : after (Inside 2 ∷ []) (Inside 1 ∷ Left 1 ∷ []) ≡ Inside 3 ∷ Left 1 ∷ []
the_path_comes_first = refl

-- ---- parts
-- *(R0(f1),=(f1,f0)) in S(*(R0(b0),=(b0,f0))), whose names are below 1
the_binder_has_the_first_name_behind : IsPart 1 (Inside 1 ∷ []) (u.Sum (u.Mul (row (b 0)) (u.Eq (b 0) (f 0)))) 2 (u.Mul (row (f 1)) (u.Eq (f 1) (f 0)))
unfolding filled way binders mapped constructors
the_binder_has_the_first_name_behind = record {
  context = in_sum hole;
  inside = u.Mul (row (b 0)) (u.Eq (b 0) (f 0));
  at_path = refl;
  is = refl;
  names = refl;
  opened = refl;
}

-- =(f3,f2) in S(=(f0,G1(=(b0,b1)))), whose names are below 2: the sum is outside and has the first name, the aggregate's own is the last
the_innermost_binder_has_the_last_name : IsPart 2 (Inside 1 ∷ Argument 1 ∷ Inside 1 ∷ []) (u.Sum (u.Eq (f 0) (v.Agg 1 (u.Eq (b 0) (b 1))))) 4 (u.Eq (f 3) (f 2))
unfolding filled way binders mapped constructors
the_innermost_binder_has_the_last_name = record {
  context = in_sum (eq_right (f 0) (in_aggregate 1 hole));
  inside = u.Eq (b 0) (b 1);
  at_path = refl;
  is = refl;
  names = refl;
  opened = refl;
}
