-- Sums and products whose parts are those of a known term, in another order, are known.
use Rattle.std.proofs.Common.{ℕ}
use Rattle.std.specs.Prelude.{IsPermutation}
use Rattle.data_model.specs.Lists.{Each}
use Rattle.u_terms.specs.Syntax.{U, Zero, One, Add, Mul, Squash, Not, Sum, Rel, Eq, Pred, constructors}
use Rattle.u_rules.specs.Terms.{add_leaves, mul_leaves}
use Rattle.u_moves.specs.Derivations.{IsKnown}
use Rattle.normal_form.proofs.Lists.{each-append, each-first, each-last}
use Rattle.u_congruence.proofs.Turned.{known-Add, known-Mul}
use Rattle.u_normal.proofs.terms.KnownParts.{known-left, known-right, known-factor_left, known-factor_right, known-zero, known-one}
use Rattle.u_simple.proofs.Chosen.{each-permuted}

module _ (outs : ℕ) where
  abbrev K : U → Type 0
  K u = IsKnown 0 outs u

  each-added : (u : U) → K u → Each K (add_leaves u)
  unfolding add_leaves constructors
  each-added Zero h = tt
  each-added One h = (h, tt)
  each-added (Add a b) h = each-append K (add_leaves a) (add_leaves b) (each-added a (known-left outs 0 a b h)) (each-added b (known-right outs 0 a b h))
  each-added (Mul a b) h = (h, tt)
  each-added (Squash a) h = (h, tt)
  each-added (Not a) h = (h, tt)
  each-added (Sum body) h = (h, tt)
  each-added (Rel table shape arguments) h = (h, tt)
  each-added (Eq a b) h = (h, tt)
  each-added (Pred symbol shape arguments) h = (h, tt)

  from-added : (u : U) → Each K (add_leaves u) → K u
  unfolding add_leaves constructors
  from-added Zero h = known-zero outs
  from-added One h = h.0
  from-added (Add a b) h = known-Add 0 outs a b (from-added a (each-first K (add_leaves a) (add_leaves b) h)) (from-added b (each-last K (add_leaves a) (add_leaves b) h))
  from-added (Mul a b) h = h.0
  from-added (Squash a) h = h.0
  from-added (Not a) h = h.0
  from-added (Sum body) h = h.0
  from-added (Rel table shape arguments) h = h.0
  from-added (Eq a b) h = h.0
  from-added (Pred symbol shape arguments) h = h.0

  each-multiplied : (u : U) → K u → Each K (mul_leaves u)
  unfolding mul_leaves constructors
  each-multiplied Zero h = (h, tt)
  each-multiplied One h = tt
  each-multiplied (Add a b) h = (h, tt)
  each-multiplied (Mul a b) h = each-append K (mul_leaves a) (mul_leaves b) (each-multiplied a (known-factor_left outs 0 a b h)) (each-multiplied b (known-factor_right outs 0 a b h))
  each-multiplied (Squash a) h = (h, tt)
  each-multiplied (Not a) h = (h, tt)
  each-multiplied (Sum body) h = (h, tt)
  each-multiplied (Rel table shape arguments) h = (h, tt)
  each-multiplied (Eq a b) h = (h, tt)
  each-multiplied (Pred symbol shape arguments) h = (h, tt)

  from-multiplied : (u : U) → Each K (mul_leaves u) → K u
  unfolding mul_leaves constructors
  from-multiplied Zero h = h.0
  from-multiplied One h = known-one outs
  from-multiplied (Add a b) h = h.0
  from-multiplied (Mul a b) h = known-Mul 0 outs a b (from-multiplied a (each-first K (mul_leaves a) (mul_leaves b) h)) (from-multiplied b (each-last K (mul_leaves a) (mul_leaves b) h))
  from-multiplied (Squash a) h = h.0
  from-multiplied (Not a) h = h.0
  from-multiplied (Sum body) h = h.0
  from-multiplied (Rel table shape arguments) h = h.0
  from-multiplied (Eq a b) h = h.0
  from-multiplied (Pred symbol shape arguments) h = h.0

  pub sum-known : (u row : U) → IsPermutation (add_leaves u) (add_leaves row) → K u → K row
  sum-known u row h known = from-added row (each-permuted K (add_leaves u) (add_leaves row) h (each-added u known))

  pub product-known : (u row : U) → IsPermutation (mul_leaves u) (mul_leaves row) → K u → K row
  product-known u row h known = from-multiplied row (each-permuted K (mul_leaves u) (mul_leaves row) h (each-multiplied u known))
