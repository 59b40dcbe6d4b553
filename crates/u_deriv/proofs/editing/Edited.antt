-- What a walk along the turns of a context does to a term that fills it, and where it ends.
use Rattle.std.proofs.Common.{◌≡◌, ℕ, zero, suc, ◌+◌, ◌≤◌, List, [], ◌∷◌, ◌++◌, length, Option, Some, None, refl, ap, sym, ◌∙◌, arith}
use Rattle.std.specs.Prelude.{slice_get, slice_set}
use Rattle.std.proofs.lemmas.Option.{get_or_from_slice_get, slice_get_within}
use Rattle.u_terms.specs.Syntax.{U, Val}
use Rattle.u_terms.specs.Size.{value_depth, list_depth}
use Rattle.u_terms.proofs.Sizes.{value_depth-item}
use Rattle.u_terms.specs.declared.term.U.TheOpen.{U-F, Val-F}
use Rattle.u_terms.specs.declared.term.U.TheViews.{out-U, out-Val, roll-U, roll-Val, roll-out-U, roll-out-Val, rolls-Add, rolls-Mul, rolls-Squash, rolls-Not, rolls-Sum, rolls-Rel, rolls-Eq, rolls-Pred, rolls-Fun, rolls-Agg}
use Rattle.u_terms.specs.declared.term.U.TheVariants as u
use Rattle.u_terms.specs.declared.term.Val.TheVariants as v
use Rattle.u_deriv.specs.declared.place.Place.{Place}
use Rattle.u_deriv.specs.declared.run.Turn.{Turn}
use Rattle.u_deriv.specs.declared.run.Turn.TheVariants as turn
use Rattle.u_deriv.specs.Contexts.{Context, ValueContext, hole, add_left, add_right, mul_left, mul_right, in_squash, in_not, in_sum, in_relation, eq_left, eq_right, in_predicate, in_function, in_aggregate, filled, filled_value, way, value_way, binders, value_binders}
use Rattle.u_deriv.specs.Walk.{next, under, placed, placed_value, on_value, changed_at, changed, value_changed, ended, ended_value}
use Rattle.u_deriv.proofs.contexts.Ends.{out-Add, out-Mul, out-Squash, out-Not, out-Sum, out-Rel, out-Eq, out-Pred, out-Fun, out-Agg, slice_get-between}

slice_set-between : (before after : List Val) (value new : Val) → slice_set (before ++ value ∷ after) (length before) new ≡ before ++ new ∷ after
slice_set-between [] after value new = refl
slice_set-between (first ∷ before) after value new = ap (λ (vs : List Val). first ∷ vs) (slice_set-between before after value new)

changed-between : (g : Val → Val) (before after : List Val) (value : Val) → changed_at (length before) g (before ++ value ∷ after) ≡ before ++ g value ∷ after
changed-between g before after value = rw (slice_get-between before after value) (slice_set-between before after value (g value))

-- ---- where it ends
mutual
  unfolding filled way binders

  pub binders-placed : (c : Context) (p : Place) (s : U) → (placed (way c) p (filled c s)).binders ≡ p.binders + binders c
  binders-placed hole p s = omega arith
  binders-placed (add_left c b) p s = rw (out-Add (filled c s) b) (omega (arith, binders-placed c (next p) s))
  binders-placed (add_right a c) p s = rw (out-Add a (filled c s)) (omega (arith, binders-placed c (next p) s))
  binders-placed (mul_left c b) p s = rw (out-Mul (filled c s) b) (omega (arith, binders-placed c (next p) s))
  binders-placed (mul_right a c) p s = rw (out-Mul a (filled c s)) (omega (arith, binders-placed c (next p) s))
  binders-placed (in_squash c) p s = rw (out-Squash (filled c s)) (omega (arith, binders-placed c (next p) s))
  binders-placed (in_not c) p s = rw (out-Not (filled c s)) (omega (arith, binders-placed c (next p) s))
  binders-placed (in_sum c) p s = rw (out-Sum (filled c s)) (omega (arith, binders-placed c (under p) s))
  binders-placed (in_relation table before c after) p s = rw (out-Rel table (before ++ filled_value c s ∷ after), slice_get-between before after (filled_value c s)) (omega (arith, value_binders-placed c (next p) s))
  binders-placed (eq_left c b) p s = rw (out-Eq (filled_value c s) b) (omega (arith, value_binders-placed c (next p) s))
  binders-placed (eq_right a c) p s = rw (out-Eq a (filled_value c s)) (omega (arith, value_binders-placed c (next p) s))
  binders-placed (in_predicate symbol before c after) p s = rw (out-Pred symbol (before ++ filled_value c s ∷ after), slice_get-between before after (filled_value c s)) (omega (arith, value_binders-placed c (next p) s))

  pub value_binders-placed : (c : ValueContext) (p : Place) (s : U) → (placed_value (value_way c) p (filled_value c s)).binders ≡ p.binders + value_binders c
  value_binders-placed (in_function symbol before c after) p s = rw (out-Fun symbol (before ++ filled_value c s ∷ after), slice_get-between before after (filled_value c s)) (omega (arith, value_binders-placed c (next p) s))
  value_binders-placed (in_aggregate aggregate c) p s = rw (out-Agg aggregate (filled c s)) (omega (arith, binders-placed c (under p) s))

mutual
  unfolding filled way

  pub turns-placed : (c : Context) (p : Place) (s : U) → (placed (way c) p (filled c s)).turns ≡ p.turns + length (way c)
  turns-placed hole p s = omega arith
  turns-placed (add_left c b) p s = rw (out-Add (filled c s) b) (omega (arith, turns-placed c (next p) s))
  turns-placed (add_right a c) p s = rw (out-Add a (filled c s)) (omega (arith, turns-placed c (next p) s))
  turns-placed (mul_left c b) p s = rw (out-Mul (filled c s) b) (omega (arith, turns-placed c (next p) s))
  turns-placed (mul_right a c) p s = rw (out-Mul a (filled c s)) (omega (arith, turns-placed c (next p) s))
  turns-placed (in_squash c) p s = rw (out-Squash (filled c s)) (omega (arith, turns-placed c (next p) s))
  turns-placed (in_not c) p s = rw (out-Not (filled c s)) (omega (arith, turns-placed c (next p) s))
  turns-placed (in_sum c) p s = rw (out-Sum (filled c s)) (omega (arith, turns-placed c (under p) s))
  turns-placed (in_relation table before c after) p s = rw (out-Rel table (before ++ filled_value c s ∷ after), slice_get-between before after (filled_value c s)) (omega (arith, value_turns-placed c (next p) s))
  turns-placed (eq_left c b) p s = rw (out-Eq (filled_value c s) b) (omega (arith, value_turns-placed c (next p) s))
  turns-placed (eq_right a c) p s = rw (out-Eq a (filled_value c s)) (omega (arith, value_turns-placed c (next p) s))
  turns-placed (in_predicate symbol before c after) p s = rw (out-Pred symbol (before ++ filled_value c s ∷ after), slice_get-between before after (filled_value c s)) (omega (arith, value_turns-placed c (next p) s))

  pub value_turns-placed : (c : ValueContext) (p : Place) (s : U) → (placed_value (value_way c) p (filled_value c s)).turns ≡ p.turns + length (value_way c)
  value_turns-placed (in_function symbol before c after) p s = rw (out-Fun symbol (before ++ filled_value c s ∷ after), slice_get-between before after (filled_value c s)) (omega (arith, value_turns-placed c (next p) s))
  value_turns-placed (in_aggregate aggregate c) p s = rw (out-Agg aggregate (filled c s)) (omega (arith, turns-placed c (under p) s))

-- ---- the term after it
module _ (f : Place → U → U) where
  mutual
    unfolding filled way

    pub ended-filled : (c : Context) (p : Place) (s : U) → ended f (way c) p (filled c s) ≡ filled c (f (placed (way c) p (filled c s)) s)
    ended-filled hole p s = refl
    ended-filled (add_left c b) p s = rw (out-Add (filled c s) b) (ap (λ (x : U). u.Add x b) (ended-filled c (next p) s))
    ended-filled (add_right a c) p s = rw (out-Add a (filled c s)) (ap (λ (x : U). u.Add a x) (ended-filled c (next p) s))
    ended-filled (mul_left c b) p s = rw (out-Mul (filled c s) b) (ap (λ (x : U). u.Mul x b) (ended-filled c (next p) s))
    ended-filled (mul_right a c) p s = rw (out-Mul a (filled c s)) (ap (λ (x : U). u.Mul a x) (ended-filled c (next p) s))
    ended-filled (in_squash c) p s = rw (out-Squash (filled c s)) (ap (u.Squash) (ended-filled c (next p) s))
    ended-filled (in_not c) p s = rw (out-Not (filled c s)) (ap (u.Not) (ended-filled c (next p) s))
    ended-filled (in_sum c) p s = rw (out-Sum (filled c s)) (ap (u.Sum) (ended-filled c (under p) s))
    ended-filled (in_relation table before c after) p s =
        rw (out-Rel table (before ++ filled_value c s ∷ after), slice_get-between before after (filled_value c s), slice_set-between before after (filled_value c s) (ended_value f (value_way c) (next p) (filled_value c s))) (ap (λ (x : Val). u.Rel table (before ++ x ∷ after)) (value_ended-filled c (next p) s))
    ended-filled (eq_left c b) p s = rw (out-Eq (filled_value c s) b) (ap (λ (x : Val). u.Eq x b) (value_ended-filled c (next p) s))
    ended-filled (eq_right a c) p s = rw (out-Eq a (filled_value c s)) (ap (λ (x : Val). u.Eq a x) (value_ended-filled c (next p) s))
    ended-filled (in_predicate symbol before c after) p s =
        rw (out-Pred symbol (before ++ filled_value c s ∷ after), slice_get-between before after (filled_value c s), slice_set-between before after (filled_value c s) (ended_value f (value_way c) (next p) (filled_value c s))) (ap (λ (x : Val). u.Pred symbol (before ++ x ∷ after)) (value_ended-filled c (next p) s))

    pub value_ended-filled : (c : ValueContext) (p : Place) (s : U)
        → ended_value f (value_way c) p (filled_value c s) ≡ filled_value c (f (placed_value (value_way c) p (filled_value c s)) s)
    value_ended-filled (in_function symbol before c after) p s =
        rw (out-Fun symbol (before ++ filled_value c s ∷ after), slice_get-between before after (filled_value c s), slice_set-between before after (filled_value c s) (ended_value f (value_way c) (next p) (filled_value c s))) (ap (λ (x : Val). v.Fun symbol (before ++ x ∷ after)) (value_ended-filled c (next p) s))
    value_ended-filled (in_aggregate aggregate c) p s = rw (out-Agg aggregate (filled c s)) (ap (v.Agg aggregate) (ended-filled c (under p) s))

-- ---- where each part stays, so does the term
slice_set-same : (vs : List Val) (index : ℕ) (value : Val) → slice_get vs index ≡ Some value → slice_set vs index value ≡ vs
slice_set-same [] index value h = refl
slice_set-same (x ∷ vs) zero value h = let e : value ≡ x = cc in ap (λ (y : Val). y ∷ vs) e
slice_set-same (x ∷ vs) (suc index) value h = ap (λ (ys : List Val). x ∷ ys) (slice_set-same vs index value h)

module _ (g : Val → Val) (same : (value : Val) → g value ≡ value) where
  value-same : (vs : List Val) (index : ℕ) (found : Option Val) → slice_get vs index ≡ found → on_value vs (λ value. slice_set vs index (g value)) found ≡ vs
  value-same vs index None h = refl
  value-same vs index (Some value) h = ap (slice_set vs index) (same value) ∙ slice_set-same vs index value h

  list-same : (vs : List Val) (index : ℕ) → changed_at index g vs ≡ vs
  list-same vs index = value-same vs index (slice_get vs index) refl

module _ (f h : U → U) (g : Val → Val) (same_f : (a : U) → f a ≡ a) (same_h : (a : U) → h a ≡ a) (same_g : (value : Val) → g value ≡ value) where
  changed-same : (t : Turn) (d : U-F U Val) (whole : U) → roll-U d ≡ whole → changed f h g t d whole ≡ whole
  changed-same turn.Left (U-F.Add a b) whole is = ap (λ (x : U). u.Add x b) (same_f a) ∙ sym (rolls-Add a b) ∙ is
  changed-same turn.Left (U-F.Mul a b) whole is = ap (λ (x : U). u.Mul x b) (same_f a) ∙ sym (rolls-Mul a b) ∙ is
  changed-same turn.Right (U-F.Add a b) whole is = ap (λ (x : U). u.Add a x) (same_f b) ∙ sym (rolls-Add a b) ∙ is
  changed-same turn.Right (U-F.Mul a b) whole is = ap (λ (x : U). u.Mul a x) (same_f b) ∙ sym (rolls-Mul a b) ∙ is
  changed-same turn.Inside (U-F.Squash a) whole is = ap u.Squash (same_f a) ∙ sym (rolls-Squash a) ∙ is
  changed-same turn.Inside (U-F.Not a) whole is = ap u.Not (same_f a) ∙ sym (rolls-Not a) ∙ is
  changed-same turn.Inside (U-F.Sum body) whole is = ap u.Sum (same_h body) ∙ sym (rolls-Sum body) ∙ is
  changed-same (turn.Argument index) (U-F.Rel table vs) whole is = ap (u.Rel table) (list-same g same_g vs index) ∙ sym (rolls-Rel table vs) ∙ is
  changed-same (turn.Argument index) (U-F.Pred symbol vs) whole is = ap (u.Pred symbol) (list-same g same_g vs index) ∙ sym (rolls-Pred symbol vs) ∙ is
  changed-same (turn.Argument zero) (U-F.Eq a b) whole is = ap (λ (x : Val). u.Eq x b) (same_g a) ∙ sym (rolls-Eq a b) ∙ is
  changed-same (turn.Argument (suc zero)) (U-F.Eq a b) whole is = ap (λ (x : Val). u.Eq a x) (same_g b) ∙ sym (rolls-Eq a b) ∙ is
  changed-same _ _ whole is = refl

  value_changed-same : (t : Turn) (d : Val-F U Val) (whole : Val) → roll-Val d ≡ whole → value_changed f h g t d whole ≡ whole
  value_changed-same turn.Inside (Val-F.Agg aggregate body) whole is = ap (v.Agg aggregate) (same_h body) ∙ sym (rolls-Agg aggregate body) ∙ is
  value_changed-same (turn.Argument index) (Val-F.Fun symbol vs) whole is = ap (v.Fun symbol) (list-same g same_g vs index) ∙ sym (rolls-Fun symbol vs) ∙ is
  value_changed-same _ _ whole is = refl

mutual
  pub ended-same : (turns : List Turn) (p : Place) (u : U) → ended (λ place part. part) turns p u ≡ u
  ended-same [] p u = refl
  ended-same (t ∷ turns) p u =
      changed-same (ended (λ place part. part) turns (next p)) (ended (λ place part. part) turns (under p)) (ended_value (λ place part. part) turns (next p))
      (ended-same turns (next p)) (ended-same turns (under p)) (ended_value-same turns (next p)) t (out-U u) u (roll-out-U u)

  pub ended_value-same : (turns : List Turn) (p : Place) (value : Val) → ended_value (λ place part. part) turns p value ≡ value
  ended_value-same [] p value = refl
  ended_value-same (t ∷ turns) p value =
      value_changed-same (ended (λ place part. part) turns (next p)) (ended (λ place part. part) turns (under p)) (ended_value (λ place part. part) turns (next p))
      (ended-same turns (next p)) (ended-same turns (under p)) (ended_value-same turns (next p)) t (out-Val value) value (roll-out-Val value)

-- ---- a value in a list
pub value_depth-got : (vs : List Val) (i : ℕ) (value : Val) → slice_get vs i ≡ Some value → value_depth value ≤ list_depth vs
value_depth-got vs i value h = value_depth-item vs i value (slice_get_within vs i value h) (sym (get_or_from_slice_get vs i value value h))
