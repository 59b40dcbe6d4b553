-- Which places dangle after opening and closing.
use Rattle.std.proofs.Common.{◌≡◌, ◌≢◌, ℕ, ◌+◌, ◌-◌, ◌<◌, ◌≤◌, subst, sym, arith, inl, inr}
use Rattle.std.specs.Prelude.{nat_eq}
use Rattle.std.proofs.lemmas.Bool.{cases_Bool}
use Rattle.std.proofs.lemmas.Bool.Decides.{nat_tests}
use Rattle.u_terms.specs.Syntax.{U, Zero, One, Add, Mul, Squash, Not, Sum, Rel, Eq, Pred, Val, Bound, Free, Lit, Fun, Agg, Vals, NoVals, ValThen}
use Rattle.u_terms.specs.Places.{IsClosed, IsClosedValue, IsClosedRow}
use Rattle.u_terms.specs.Binding.{mapped, mapped_value, mapped_row, same_place, same_name, value_for_place, place_for_name, place_for_names, opened_with, opened, closed_at, closed_path}
use Rattle.u_terms.proofs.Binding.{of_path, not_of_path, path_cases}

-- what is closed inside some binders is closed inside more
mutual
  unfolding IsClosed

  pub closed-more : (u : U) (k m : ℕ) → k ≤ m → IsClosed k u → IsClosed m u
  closed-more Zero k m le closed = tt
  closed-more One k m le closed = tt
  closed-more (Add a b) k m le closed = (closed-more a k m le closed.0, closed-more b k m le closed.1)
  closed-more (Mul a b) k m le closed = (closed-more a k m le closed.0, closed-more b k m le closed.1)
  closed-more (Squash a) k m le closed = closed-more a k m le closed
  closed-more (Not a) k m le closed = closed-more a k m le closed
  closed-more (Sum body) k m le closed = closed-more body (k + 1) (m + 1) (omega arith) closed
  closed-more (Rel table shape arguments) k m le closed = row_closed-more arguments k m le closed
  closed-more (Eq a b) k m le closed = (value_closed-more a k m le closed.0, value_closed-more b k m le closed.1)
  closed-more (Pred symbol shape arguments) k m le closed = row_closed-more arguments k m le closed

  pub value_closed-more : (value : Val) (k m : ℕ) → k ≤ m → IsClosedValue k value → IsClosedValue m value
  value_closed-more (Bound place) k m le closed = omega (arith, closed)
  value_closed-more (Free name) k m le closed = tt
  value_closed-more (Lit literal) k m le closed = tt
  value_closed-more (Fun symbol shape arguments) k m le closed = row_closed-more arguments k m le closed
  value_closed-more (Agg aggregate body) k m le closed = closed-more body (k + 1) (m + 1) (omega arith) closed

  pub row_closed-more : {j : _} (row : Vals j) (k m : ℕ) → k ≤ m → IsClosedRow k row → IsClosedRow m row
  row_closed-more NoVals k m le closed = tt
  row_closed-more (ValThen value rest) k m le closed = (value_closed-more value k m le closed.0, row_closed-more rest k m le closed.1)

-- inside k binders of the walk, the old term is closed inside k + from, and the new one inside k + to
module _ (f g : ℕ → ℕ → Val) (from to : ℕ)
    (place_closed : (k i : ℕ) → i < k + from → IsClosedValue (k + to) (f k i))
    (name_closed : (k x : ℕ) → IsClosedValue (k + to) (g k x)) where
  next : (k m : ℕ) → k + m + 1 ≡ k + 1 + m
  next k m = omega arith

  mutual
    unfolding IsClosed mapped

    pub closed-mapped : (u : U) (k : ℕ) → IsClosed (k + from) u → IsClosed (k + to) (mapped f g k u)
    closed-mapped Zero k closed = tt
    closed-mapped One k closed = tt
    closed-mapped (Add a b) k closed = (closed-mapped a k closed.0, closed-mapped b k closed.1)
    closed-mapped (Mul a b) k closed = (closed-mapped a k closed.0, closed-mapped b k closed.1)
    closed-mapped (Squash a) k closed = closed-mapped a k closed
    closed-mapped (Not a) k closed = closed-mapped a k closed
    closed-mapped (Sum body) k closed =
        subst (λ m. IsClosed m (mapped f g (k + 1) body)) (sym (next k to)) (closed-mapped body (k + 1) (subst (λ m. IsClosed m body) (next k from) closed))
    closed-mapped (Rel table shape arguments) k closed = row_closed-mapped arguments k closed
    closed-mapped (Eq a b) k closed = (value_closed-mapped a k closed.0, value_closed-mapped b k closed.1)
    closed-mapped (Pred symbol shape arguments) k closed = row_closed-mapped arguments k closed

    pub value_closed-mapped : (value : Val) (k : ℕ) → IsClosedValue (k + from) value → IsClosedValue (k + to) (mapped_value f g k value)
    value_closed-mapped (Bound place) k closed = place_closed k place closed
    value_closed-mapped (Free name) k closed = name_closed k name
    value_closed-mapped (Lit literal) k closed = tt
    value_closed-mapped (Fun symbol shape arguments) k closed = row_closed-mapped arguments k closed
    value_closed-mapped (Agg aggregate body) k closed =
        subst (λ m. IsClosed m (mapped f g (k + 1) body)) (sym (next k to)) (closed-mapped body (k + 1) (subst (λ m. IsClosed m body) (next k from) closed))

    pub row_closed-mapped : {j : _} (row : Vals j) (k : ℕ) → IsClosedRow (k + from) row → IsClosedRow (k + to) (mapped_row f g k row)
    row_closed-mapped NoVals k closed = tt
    row_closed-mapped (ValThen value rest) k closed = (value_closed-mapped value k closed.0, row_closed-mapped rest k closed.1)

bound_closed : (k i : ℕ) → i < k → IsClosedValue k (Bound i)
unfolding IsClosed
bound_closed k i h = h

free_closed : (k x : ℕ) → IsClosedValue k (Free x)
unfolding IsClosed
free_closed k x = tt

-- opening leaves one place less
pub opened_with-closed : (u : U) (value : Val) → IsClosedValue 0 value → IsClosed 1 u → IsClosed 0 (opened_with u value)
opened_with-closed u value is_closed closed = closed-mapped (value_for_place value) same_name 1 0 place (λ k x. free_closed (k + 0) x) u 0 closed
  where
    place : (k i : ℕ) → i < k + 1 → IsClosedValue (k + 0) (value_for_place value k i)
    place k i h = elim (cases_Bool (nat_eq i k)) [
      | inl here ↦ rw here (value_closed-more value 0 (k + 0) (omega arith) is_closed)
      | inr other ↦ let e : i ≢ k = grind (arith, nat_tests) in rw other (bound_closed (k + 0) i (omega (arith, e)))
    ]

pub opened-closed : (u : U) (x : ℕ) → IsClosed 1 u → IsClosed 0 (opened u x)
opened-closed u x closed = opened_with-closed u (Free x) (free_closed 0 x) closed

-- closing leaves the places of the names
pub closed_at-closed : (u : U) (x : ℕ) → IsClosed 0 u → IsClosed 1 (closed_at u x)
closed_at-closed u x closed = closed-mapped same_place (place_for_name x) 0 1 (λ k i h. bound_closed (k + 1) i (omega (arith, h))) name u 0 closed
  where
    name : (k y : ℕ) → IsClosedValue (k + 1) (place_for_name x k y)
    name k y = elim (cases_Bool (nat_eq y x)) [
      | inl here ↦ rw here (bound_closed (k + 1) k (omega arith))
      | inr other ↦ rw other (free_closed (k + 1) y)
    ]

pub closed_path-closed : (u : U) (first count : ℕ) → IsClosed 0 u → IsClosed count (closed_path u first count)
closed_path-closed u first count closed = subst (λ m. IsClosed m (closed_path u first count)) zero_and (closed-mapped same_place (place_for_names first count) 0 count (λ k i h. bound_closed (k + count) i (omega (arith, h))) name u 0 closed)
  where
    zero_and : 0 + count ≡ count
    zero_and = omega arith

    name : (k y : ℕ) → IsClosedValue (k + count) (place_for_names first count k y)
    name k y = elim (path_cases first count y) [
      | inl within ↦ rw (of_path first count y within.0 within.1) (bound_closed (k + count) (k + (first + count - 1 - y)) (omega (arith, within.0, within.1)))
      | inr outside ↦ rw (not_of_path first count y outside) (free_closed (k + count) y)
    ]

pub ruleset closed_after = (opened_with-closed, opened-closed, closed_at-closed, closed_path-closed)
