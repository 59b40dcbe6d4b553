-- A walk that changes no place that has its binder leaves a closed term as it is.
use Rattle.std.proofs.Common.{◌≡◌, ℕ, ◌+◌, ◌<◌, List, [], ◌∷◌, map, refl, ap, ◌∙◌, arith, eq-eqb}
use Rattle.std.proofs.lemmas.Bool.{ne_eqb}
use Rattle.data_model.specs.Lists.{Each}
use Rattle.u_terms.specs.Syntax.{U, Zero, One, Add, Mul, Squash, Not, Sum, Rel, Eq, Pred, Val, Bound, Free, Lit, Fun, Agg, Vals, NoVals, ValThen}
use Rattle.u_terms.specs.Binding.{mapped, mapped_value, mapped_row, value_for_place, same_name}
use Rattle.u_terms.specs.Places.{IsClosed, IsClosedValue, IsClosedRow}
use Rattle.u_terms.proofs.Closedness.{value_closed-more}

module _ (f : ℕ → ℕ → Val) (place_is : (k i : ℕ) → i < k → f k i ≡ Bound i) where
  mutual
    unfolding mapped IsClosed

    pub unchanged : (u : U) (k : ℕ) → IsClosed k u → mapped f same_name k u ≡ u
    unchanged Zero k h = refl
    unchanged One k h = refl
    unchanged (Add a b) k h = rw (unchanged a k h.0, unchanged b k h.1) refl
    unchanged (Mul a b) k h = rw (unchanged a k h.0, unchanged b k h.1) refl
    unchanged (Squash a) k h = rw (unchanged a k h) refl
    unchanged (Not a) k h = rw (unchanged a k h) refl
    unchanged (Sum body) k h = rw (unchanged body (k + 1) h) refl
    unchanged (Rel table shape arguments) k h = rw (row_unchanged arguments k h) refl
    unchanged (Eq a b) k h = rw (value_unchanged a k h.0, value_unchanged b k h.1) refl
    unchanged (Pred symbol shape arguments) k h = rw (row_unchanged arguments k h) refl

    pub value_unchanged : (value : Val) (k : ℕ) → IsClosedValue k value → mapped_value f same_name k value ≡ value
    value_unchanged (Bound place) k h = place_is k place h
    value_unchanged (Free name) k h = refl
    value_unchanged (Lit literal) k h = refl
    value_unchanged (Fun symbol shape arguments) k h = rw (row_unchanged arguments k h) refl
    value_unchanged (Agg aggregate body) k h = rw (unchanged body (k + 1) h) refl

    row_unchanged : {m : _} (row : Vals m) (k : ℕ) → IsClosedRow k row → mapped_row f same_name k row ≡ row
    row_unchanged NoVals k h = refl
    row_unchanged (ValThen value rest) k h = rw (value_unchanged value k h.0, row_unchanged rest k h.1) refl

pub put-other : (a : Val) (k i : ℕ) → (i ≡ k → ⊥) → value_for_place a k i ≡ Bound i
put-other a k i differ = rw (ne_eqb i k differ) refl

pub put-here : (a : Val) (k : ℕ) → value_for_place a k k ≡ a
put-here a k = rw (eq-eqb k k refl) refl

module _ (a : Val) where
  place_below : (k i : ℕ) → i < k → value_for_place a k i ≡ Bound i
  place_below k i less = put-other a k i (λ e. absurd (omega (arith, e, less)))

  -- a value put at a place leaves what has none as it is
  pub closed-unaffected : (u : U) → IsClosed 0 u → mapped (value_for_place a) same_name 0 u ≡ u
  closed-unaffected u closed = unchanged (value_for_place a) place_below u 0 closed

  pub value-unaffected : (value : Val) (k : ℕ) → IsClosedValue 0 value → mapped_value (value_for_place a) same_name k value ≡ value
  value-unaffected value k closed = value_unchanged (value_for_place a) place_below value k (value_closed-more value 0 k (omega arith) closed)

  pub list-unaffected : (k : ℕ) (vs : List Val) → Each (IsClosedValue 0) vs → map (mapped_value (value_for_place a) same_name k) vs ≡ vs
  list-unaffected k [] each = refl
  list-unaffected k (value ∷ vs) each =
      ap (λ x. x ∷ map (mapped_value (value_for_place a) same_name k) vs) (value-unaffected value k each.0) ∙ ap (λ xs. value ∷ xs) (list-unaffected k vs each.1)
