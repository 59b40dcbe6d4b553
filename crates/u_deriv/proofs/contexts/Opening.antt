-- Opening a path undoes closing it, and closing it undoes opening it.
use Rattle.std.proofs.Common.{◌≡◌, ℕ, ◌+◌, ◌-◌, ◌<◌, refl, ap, sym, ◌∙◌, arith, inl, inr}
use Rattle.std.specs.Prelude.{◌↔◌}
use Rattle.u_terms.specs.Syntax.{U, Zero, One, Add, Mul, Squash, Not, Sum, Rel, Eq, Pred, Val, Bound, Free, Lit, Fun, Agg, Vals, NoVals, ValThen}
use Rattle.u_terms.specs.Places.{IsClosed, IsClosedValue, IsClosedRow}
use Rattle.u_terms.specs.Names.{EachName, EachNameValue, IsFreeBelow}
use Rattle.u_terms.specs.Binding.{mapped, mapped_value, mapped_row, same_place, same_name, place_for_names, closed_path}
use Rattle.u_terms.proofs.Binding.{of_path, not_of_path, path_cases, mapped-mapped, mapped-same}
use Rattle.u_terms.proofs.Closedness.{closed-mapped}
use Rattle.u_terms.proofs.MappedNames.{names-mapped}
use Rattle.u_deriv.specs.Contexts.{Context, filled, binders}
use Rattle.u_deriv.specs.Opening.{names_for_places, opened_path}
use Rattle.u_deriv.proofs.contexts.Holes.{closed-hole, names-hole}

module _ (first count : ℕ) where
  -- ---- closing what was opened
  place-back : (k i : ℕ) → mapped_value same_place (place_for_names first count) k (names_for_places first count k i) ≡ Bound i
  unfolding mapped
  place-back k i = elim (path_cases k count i) [
    | inl within ↦
        let name : ℕ = first + (k + count - 1 - i) in
        let index : k + (first + count - 1 - name) ≡ i = omega (arith, within.0, within.1) in
        rw (of_path k count i within.0 within.1, of_path first count name (omega arith) (omega (arith, within.0, within.1))) (ap (λ j. Bound j) index)
    | inr outside ↦ rw (not_of_path k count i outside) refl
  ]

  name-closed : (k x : ℕ) → mapped_value same_place (place_for_names first count) k (same_name k x) ≡ place_for_names first count k x
  unfolding mapped
  name-closed k x = refl

  below-stays : (k x : ℕ) → x < first → place_for_names first count k x ≡ Free x
  below-stays k x below = rw (not_of_path first count x (inl below)) refl

  pub closed_path-opened : (u : U) → IsFreeBelow first u → closed_path (opened_path u first count) first count ≡ u
  closed_path-opened u below =
      mapped-mapped (names_for_places first count) same_name same_place (place_for_names first count) same_place (place_for_names first count) (λ j k. j ≡ k)
      (λ j k i e. rw (sym e) (place-back j i)) (λ j k x e. rw (sym e) (name-closed j x)) (λ j k e. ap (λ m. m + 1) e) u 0 0 refl
      ∙ mapped-same (λ x. x < first) same_place (place_for_names first count) (λ k i. refl) below-stays u 0 below

  -- ---- opening what was closed
  name-back : (k x : ℕ) → mapped_value (names_for_places first count) same_name k (place_for_names first count k x) ≡ Free x
  unfolding mapped
  name-back k x = elim (path_cases first count x) [
    | inl within ↦
        let place : ℕ = k + (first + count - 1 - x) in
        let index : first + (k + count - 1 - place) ≡ x = omega (arith, within.0, within.1) in
        rw (of_path first count x within.0 within.1, of_path k count place (omega arith) (omega (arith, within.0, within.1))) (ap (λ y. Free y) index)
    | inr outside ↦ rw (not_of_path first count x outside) refl
  ]

  place-opened : (k i : ℕ) → mapped_value (names_for_places first count) same_name k (same_place k i) ≡ names_for_places first count k i
  unfolding mapped
  place-opened k i = refl

  bound-stays : (k i : ℕ) → i < k → names_for_places first count k i ≡ Bound i
  bound-stays k i within = rw (not_of_path k count i (inl within)) refl

  mutual
    unfolding mapped IsClosed

    closed-stays : (u : U) (k : ℕ) → IsClosed k u → mapped (names_for_places first count) same_name k u ≡ u
    closed-stays Zero k closed = refl
    closed-stays One k closed = refl
    closed-stays (Add a b) k closed = rw (closed-stays a k closed.0, closed-stays b k closed.1) refl
    closed-stays (Mul a b) k closed = rw (closed-stays a k closed.0, closed-stays b k closed.1) refl
    closed-stays (Squash a) k closed = rw (closed-stays a k closed) refl
    closed-stays (Not a) k closed = rw (closed-stays a k closed) refl
    closed-stays (Sum body) k closed = rw (closed-stays body (k + 1) closed) refl
    closed-stays (Rel table shape arguments) k closed = rw (row_closed-stays arguments k closed) refl
    closed-stays (Eq a b) k closed = rw (value_closed-stays a k closed.0, value_closed-stays b k closed.1) refl
    closed-stays (Pred symbol shape arguments) k closed = rw (row_closed-stays arguments k closed) refl

    value_closed-stays : (value : Val) (k : ℕ) → IsClosedValue k value → mapped_value (names_for_places first count) same_name k value ≡ value
    value_closed-stays (Bound place) k closed = bound-stays k place closed
    value_closed-stays (Free name) k closed = refl
    value_closed-stays (Lit literal) k closed = refl
    value_closed-stays (Fun symbol shape arguments) k closed = rw (row_closed-stays arguments k closed) refl
    value_closed-stays (Agg aggregate body) k closed = rw (closed-stays body (k + 1) closed) refl

    row_closed-stays : {m : _} (row : Vals m) (k : ℕ) → IsClosedRow k row → mapped_row (names_for_places first count) same_name k row ≡ row
    row_closed-stays NoVals k closed = refl
    row_closed-stays (ValThen value rest) k closed = rw (value_closed-stays value k closed.0, row_closed-stays rest k closed.1) refl

  pub opened_path-closed : (u : U) → IsClosed 0 u → opened_path (closed_path u first count) first count ≡ u
  opened_path-closed u closed =
      mapped-mapped same_place (place_for_names first count) (names_for_places first count) same_name (names_for_places first count) same_name (λ j k. j ≡ k)
      (λ j k i e. rw (sym e) (place-opened j i)) (λ j k x e. rw (sym e) (name-back j x)) (λ j k e. ap (λ m. m + 1) e) u 0 0 refl
      ∙ closed-stays u 0 closed

  -- ---- what is opened
  place-within : (k i : ℕ) → i < k + count → IsClosedValue (k + 0) (names_for_places first count k i)
  unfolding IsClosed
  place-within k i less = elim (path_cases k count i) [
    | inl within ↦ rw (of_path k count i within.0 within.1) tt
    | inr (inl before) ↦ rw (not_of_path k count i (inl before)) (omega (arith, before))
    | inr (inr after) ↦ absurd (omega (arith, after, less))
  ]

  name-within : (k x : ℕ) → IsClosedValue (k + 0) (same_name k x)
  unfolding IsClosed
  name-within k x = tt

  opened-closed : (u : U) → IsClosed (0 + count) u → IsClosed (0 + 0) (opened_path u first count)
  opened-closed u closed = closed-mapped (names_for_places first count) same_name count 0 place-within name-within u 0 closed

  place-named : (k i : ℕ) → EachNameValue (λ x. x < first + count) (names_for_places first count k i)
  unfolding EachName
  place-named k i = elim (path_cases k count i) [
    | inl within ↦ rw (of_path k count i within.0 within.1) (omega (arith, within.0, within.1))
    | inr outside ↦ rw (not_of_path k count i outside) tt
  ]

  name-named : (k x : ℕ) → x < first → EachNameValue (λ y. y < first + count) (same_name k x)
  unfolding EachName
  name-named k x below = omega (arith, below)

  opened-named : (u : U) → IsFreeBelow first u → IsFreeBelow (first + count) (opened_path u first count)
  opened-named u below = names-mapped (λ x. x < first) (λ x. x < first + count) (names_for_places first count) same_name place-named name-named u 0 below

-- ---- at a path
pub part-opened : (c : Context) (part from : U) (outs : ℕ) → IsFreeBelow outs (filled c part) → IsClosed 0 from
    → (part ≡ closed_path from outs (binders c)) ↔ (opened_path part outs (binders c) ≡ from)
part-opened c part from outs named closed = (
  λ e. ap (λ u. opened_path u outs (binders c)) e ∙ opened_path-closed outs (binders c) from closed,
  λ e. sym (closed_path-opened outs (binders c) part (names-hole (λ x. x < outs) c part named)) ∙ ap (λ u. closed_path u outs (binders c)) e,
)

pub part-opened_closed : (c : Context) (part : U) (outs : ℕ) → IsClosed 0 (filled c part) → IsClosed 0 (opened_path part outs (binders c))
part-opened_closed c part outs closed = opened-closed outs (binders c) part (closed-hole c part 0 closed)

pub part-opened_named : (c : Context) (part : U) (outs : ℕ) → IsFreeBelow outs (filled c part) → IsFreeBelow (outs + binders c) (opened_path part outs (binders c))
part-opened_named c part outs named = opened-named outs (binders c) part (names-hole (λ x. x < outs) c part named)

pub ruleset laws = (part-opened, part-opened_closed, part-opened_named)
