-- A step keeps that a term is closed, and which names it has.
use Rattle.std.proofs.Common.{◌≡◌, ℕ, ◌+◌, ◌<◌, Bool, true, false, List, [], ◌∷◌, ◌++◌, sym, subst, arith, inl, inr}
use Rattle.data_model.specs.Lists.{Each}
use Rattle.u_terms.specs.Syntax.{U, Val, constructors}
use Rattle.u_terms.specs.declared.facts.Facts.{Facts}
use Rattle.u_terms.specs.Places.{IsClosed, IsClosedValue}
use Rattle.u_terms.specs.Names.{EachName, EachNameValue, IsFreeBelow}
use Rattle.u_terms.specs.Binding.{same_place, place_for_names, closed_path}
use Rattle.u_terms.proofs.ClosedTerms.{IsClosed-Rel, IsClosed-Pred, IsClosed-Fun}
use Rattle.u_terms.proofs.Closedness.{closed_path-closed}
use Rattle.u_terms.proofs.Binding.{of_path, not_of_path, path_cases}
use Rattle.u_rules.specs.Sides.{HasNames}
use Rattle.u_terms.proofs.MappedNames.{names-mapped, EachNameRow-list}
use Rattle.u_rules.proofs.arguments.SidesKept.{sides-closed, sides-named}
use Rattle.u_deriv.specs.declared.step.Step.{Step, out-Step}
use Rattle.u_deriv.specs.Contexts.{Context, ValueContext, hole, add_left, add_right, mul_left, mul_right, in_squash, in_not, in_sum, in_relation, eq_left, eq_right, in_predicate, in_function, in_aggregate, filled, filled_value, binders, value_binders}
use Rattle.u_deriv.specs.Steps.{Sides, Exchanged, Rewrites, Replays, by_rule, by_proof, no_step, first_then}

each-changed : (P : Val → Type 0) (before after : List Val) (value new : Val) → Each P (before ++ value ∷ after) → (P value → P new) → Each P (before ++ new ∷ after)
each-changed P [] after value new each f = (f each.0, each.1)
each-changed P (first ∷ before) after value new each f = (each.0, each-changed P before after value new each.1 f)

-- ---- places
mutual
  unfolding filled binders IsClosed constructors

  pub closed-refilled : (c : Context) (s t : U) (k : ℕ) → IsClosed k (filled c s) → IsClosed (k + binders c) t → IsClosed k (filled c t)
  closed-refilled hole s t k closed new = let e : k + 0 ≡ k = omega arith in subst (λ m. IsClosed m t) e new
  closed-refilled (add_left c b) s t k closed new = (closed-refilled c s t k closed.0 new, closed.1)
  closed-refilled (add_right a c) s t k closed new = (closed.0, closed-refilled c s t k closed.1 new)
  closed-refilled (mul_left c b) s t k closed new = (closed-refilled c s t k closed.0 new, closed.1)
  closed-refilled (mul_right a c) s t k closed new = (closed.0, closed-refilled c s t k closed.1 new)
  closed-refilled (in_squash c) s t k closed new = closed-refilled c s t k closed new
  closed-refilled (in_not c) s t k closed new = closed-refilled c s t k closed new
  closed-refilled (in_sum c) s t k closed new =
      let e : k + (binders c + 1) ≡ k + 1 + binders c = omega arith in closed-refilled c s t (k + 1) closed (subst (λ m. IsClosed m t) e new)
  closed-refilled (in_relation table before c after) s t k closed new =
      rw (IsClosed-Rel k table (before ++ filled_value c t ∷ after)) (each-changed (IsClosedValue k) before after (filled_value c s) (filled_value c t) (rw (IsClosed-Rel k table (before ++ filled_value c s ∷ after)) at closed) (λ old. value_closed-refilled c s t k old new))
  closed-refilled (eq_left c b) s t k closed new = (value_closed-refilled c s t k closed.0 new, closed.1)
  closed-refilled (eq_right a c) s t k closed new = (closed.0, value_closed-refilled c s t k closed.1 new)
  closed-refilled (in_predicate symbol before c after) s t k closed new =
      rw (IsClosed-Pred k symbol (before ++ filled_value c t ∷ after)) (each-changed (IsClosedValue k) before after (filled_value c s) (filled_value c t) (rw (IsClosed-Pred k symbol (before ++ filled_value c s ∷ after)) at closed) (λ old. value_closed-refilled c s t k old new))

  pub value_closed-refilled : (c : ValueContext) (s t : U) (k : ℕ) → IsClosedValue k (filled_value c s) → IsClosed (k + value_binders c) t → IsClosedValue k (filled_value c t)
  value_closed-refilled (in_function symbol before c after) s t k closed new =
      rw (IsClosed-Fun k symbol (before ++ filled_value c t ∷ after)) (each-changed (IsClosedValue k) before after (filled_value c s) (filled_value c t) (rw (IsClosed-Fun k symbol (before ++ filled_value c s ∷ after)) at closed) (λ old. value_closed-refilled c s t k old new))
  value_closed-refilled (in_aggregate aggregate c) s t k closed new =
      let e : k + (binders c + 1) ≡ k + 1 + binders c = omega arith in closed-refilled c s t (k + 1) closed (subst (λ m. IsClosed m t) e new)

-- ---- names
module _ (P : ℕ → Type 0) where
  mutual
    unfolding filled EachName constructors

    pub names-refilled : (c : Context) (s t : U) → EachName P (filled c s) → EachName P t → EachName P (filled c t)
    names-refilled hole s t each new = new
    names-refilled (add_left c b) s t each new = (names-refilled c s t each.0 new, each.1)
    names-refilled (add_right a c) s t each new = (each.0, names-refilled c s t each.1 new)
    names-refilled (mul_left c b) s t each new = (names-refilled c s t each.0 new, each.1)
    names-refilled (mul_right a c) s t each new = (each.0, names-refilled c s t each.1 new)
    names-refilled (in_squash c) s t each new = names-refilled c s t each new
    names-refilled (in_not c) s t each new = names-refilled c s t each new
    names-refilled (in_sum c) s t each new = names-refilled c s t each new
    names-refilled (in_relation table before c after) s t each new = rw (EachNameRow-list P (before ++ filled_value c t ∷ after)) (each-changed (EachNameValue P) before after (filled_value c s) (filled_value c t) (rw (EachNameRow-list P (before ++ filled_value c s ∷ after)) at each) (λ old. value_names-refilled c s t old new))
    names-refilled (eq_left c b) s t each new = (value_names-refilled c s t each.0 new, each.1)
    names-refilled (eq_right a c) s t each new = (each.0, value_names-refilled c s t each.1 new)
    names-refilled (in_predicate symbol before c after) s t each new = rw (EachNameRow-list P (before ++ filled_value c t ∷ after)) (each-changed (EachNameValue P) before after (filled_value c s) (filled_value c t) (rw (EachNameRow-list P (before ++ filled_value c s ∷ after)) at each) (λ old. value_names-refilled c s t old new))

    pub value_names-refilled : (c : ValueContext) (s t : U) → EachNameValue P (filled_value c s) → EachName P t → EachNameValue P (filled_value c t)
    value_names-refilled (in_function symbol before c after) s t each new = rw (EachNameRow-list P (before ++ filled_value c t ∷ after)) (each-changed (EachNameValue P) before after (filled_value c s) (filled_value c t) (rw (EachNameRow-list P (before ++ filled_value c s ∷ after)) at each) (λ old. value_names-refilled c s t old new))
    value_names-refilled (in_aggregate aggregate c) s t each new = names-refilled c s t each new

place-named : (outs k i : ℕ) → EachNameValue (λ x. x < outs) (same_place k i)
unfolding EachName
place-named outs k i = tt

name-named : (outs count k x : ℕ) → x < outs + count → EachNameValue (λ y. y < outs) (place_for_names outs count k x)
unfolding EachName
name-named outs count k x h = elim (path_cases outs count x) [
  | inl within ↦ rw (of_path outs count x within.0 within.1) tt
  | inr outside ↦ elim outside [
    | inl low ↦ rw (not_of_path outs count x (inl low)) low
    | inr high ↦ absurd (omega (arith, h, high))
  ]
]

closed_path-named : (u : U) (outs count : ℕ) → IsFreeBelow (outs + count) u → IsFreeBelow outs (closed_path u outs count)
closed_path-named u outs count each =
    names-mapped (λ x. x < outs + count) (λ x. x < outs) same_place (place_for_names outs count) (place-named outs) (name-named outs count) u 0 each

-- ---- steps
module _ (facts : Facts) where
  pub sides-closed_both : (forward : Bool) (step : Step) (from to : U) → Sides facts forward step from to → IsClosed 0 from × IsClosed 0 to
  sides-closed_both true step from to i = sides-closed facts (out-Step step).rule (out-Step step).args from to i
  sides-closed_both false step from to i = let c = sides-closed facts (out-Step step).rule (out-Step step).args to from i in (c.1, c.0)

  sides-named_to : (P : ℕ → Type 0) (forward : Bool) (step : Step) (from to : U) → Sides facts forward step from to → Each (HasNames P) (out-Step step).args → EachName P to
  sides-named_to P true step from to i n = let c = sides-named P facts (out-Step step).rule (out-Step step).args from to i n in c.1
  sides-named_to P false step from to i n = let c = sides-named P facts (out-Step step).rule (out-Step step).args to from i n in c.0

  exchanged-closed : (outs : ℕ) (before : U) (step : Step) (after : U) → Exchanged facts outs before step after → IsClosed 0 before → IsClosed 0 after
  exchanged-closed outs before step after t closed =
      let r = t.replaced in
      let k = binders r.context in
      let e : k ≡ 0 + k = omega arith in
      let sides = sides-closed_both (out-Step step).forward step t.from t.to t.sides in
      let new : IsClosed (0 + k) (closed_path t.to outs k) = subst (λ m. IsClosed m (closed_path t.to outs k)) e (closed_path-closed t.to outs k sides.1) in
      subst (λ w. IsClosed 0 w) (sym r.is_to)
      (closed-refilled r.context (closed_path t.from outs k) (closed_path t.to outs k) 0 (subst (λ w. IsClosed 0 w) r.is_from closed) new)

  exchanged-named : (outs : ℕ) (before : U) (step : Step) (after : U) → Exchanged facts outs before step after → IsFreeBelow outs before → IsFreeBelow outs after
  exchanged-named outs before step after t named =
      let r = t.replaced in
      let k = binders r.context in
      let to : IsFreeBelow (outs + k) t.to = sides-named_to (λ x. x < outs + k) (out-Step step).forward step t.from t.to t.sides t.named in
      subst (λ w. IsFreeBelow outs w) (sym r.is_to)
      (names-refilled (λ x. x < outs) r.context (closed_path t.from outs k) (closed_path t.to outs k) (subst (λ w. IsFreeBelow outs w) r.is_from named) (closed_path-named t.to outs k to))

  pub exchanged-of : (outs : ℕ) (before : U) (step : Step) (after : U) → Rewrites facts outs before step after → Exchanged facts outs before step after
  exchanged-of outs before step after (by_rule t other empty) = t
  exchanged-of outs before step after (by_proof x t is are inner) = t

  pub rewrites-closed : (outs : ℕ) (before : U) (step : Step) (after : U) → Rewrites facts outs before step after → IsClosed 0 before → IsClosed 0 after
  rewrites-closed outs before step after r closed = exchanged-closed outs before step after (exchanged-of outs before step after r) closed

  pub rewrites-named : (outs : ℕ) (before : U) (step : Step) (after : U) → Rewrites facts outs before step after → IsFreeBelow outs before → IsFreeBelow outs after
  rewrites-named outs before step after r named = exchanged-named outs before step after (exchanged-of outs before step after r) named

-- ---- one after another
module _ (facts : Facts) where
  pub replays-closed : (outs : ℕ) (before : U) (steps : List Step) (after : U) → Replays facts outs before steps after → IsClosed 0 before → IsClosed 0 after
  replays-closed outs before _ after no_step closed = closed
  replays-closed outs before _ after (first_then r rest) closed = replays-closed outs _ _ after rest (rewrites-closed facts outs before _ _ r closed)

  pub replays-named : (outs : ℕ) (before : U) (steps : List Step) (after : U) → Replays facts outs before steps after → IsFreeBelow outs before → IsFreeBelow outs after
  replays-named outs before _ after no_step named = named
  replays-named outs before _ after (first_then r rest) named = replays-named outs _ _ after rest (rewrites-named facts outs before _ _ r named)

pub ruleset laws = (rewrites-closed, rewrites-named, replays-closed, replays-named)
