-- A mark with a value at a place: what is known of it with another value there.
use Rattle.std.proofs.Common.{◌≡◌, ℕ, ◌<◌, List, [], ◌∷◌, ◌++◌, length, map, refl, ap, ◌∙◌, arith}
use Rattle.std.proofs.lemmas.List.{map-append}
use Rattle.data_model.specs.Lists.{Each}
use Rattle.u_terms.specs.Syntax.{U, Val, constructors}
use Rattle.u_terms.specs.declared.term.U.TheVariants as u
use Rattle.u_terms.specs.declared.term.Val.TheVariants as v
use Rattle.u_terms.specs.Binding.{mapped, mapped_value, value_for_place, same_name, opened_with}
use Rattle.u_terms.specs.Names.{EachName, EachNameValue}
use Rattle.u_terms.specs.Places.{IsClosed, IsClosedValue}
use Rattle.u_terms.proofs.ClosedTerms.{IsClosed-Fun, IsClosed-Pred, IsClosed-Eq, IsClosed-Not}
use Rattle.u_terms.proofs.Closedness.{value_closed-more}
use Rattle.u_terms.proofs.Mapped.{mapped-Fun, mapped-Pred, mapped-Eq, mapped-Not}
use Rattle.u_terms.proofs.MappedNames.{EachNameRow-list}
use Rattle.u_entail.specs.Spots.{ValueSpot, here, in_call, filled_value, value_way, Spot, in_predicate, at_left, at_right, in_negation, filled, way}
use Rattle.u_entail.proofs.substitution.Places.{put-here, value-unaffected, list-unaffected}
use Rattle.u_entail.proofs.products.Lists.{each-append, each-parts, each-weaker}

-- ---- with the value there
module _ (y : Val) where
  list-put : (before after : List Val) (a b : Val) → Each (IsClosedValue 0) before → Each (IsClosedValue 0) after → mapped_value (value_for_place y) same_name 0 a ≡ b
      → map (mapped_value (value_for_place y) same_name 0) (before ++ a ∷ after) ≡ before ++ b ∷ after
  list-put before after a b closed_before closed_after is =
      map-append (mapped_value (value_for_place y) same_name 0) before (a ∷ after)
      ∙ ap (λ (vs : List Val). vs ++ mapped_value (value_for_place y) same_name 0 a ∷ map (mapped_value (value_for_place y) same_name 0) after) (list-unaffected y 0 before closed_before)
      ∙ ap (λ (vs : List Val). before ++ mapped_value (value_for_place y) same_name 0 a ∷ vs) (list-unaffected y 0 after closed_after)
      ∙ ap (λ (w : Val). before ++ w ∷ after) is

  bound-put : mapped_value (value_for_place y) same_name 0 (v.Bound 0) ≡ y
  unfolding mapped
  bound-put = put-here y 0

  value-put : (spot : ValueSpot) (x : Val) → IsClosedValue 0 (filled_value spot x) → mapped_value (value_for_place y) same_name 0 (filled_value spot (v.Bound 0)) ≡ filled_value spot y
  value-put here x closed = bound-put
  value-put (in_call f before spot after) x closed =
      let both = each-parts (IsClosedValue 0) before (filled_value spot x ∷ after) (rw (IsClosed-Fun 0 f (before ++ filled_value spot x ∷ after)) at closed) in
      mapped-Fun (value_for_place y) same_name 0 f (before ++ filled_value spot (v.Bound 0) ∷ after)
      ∙ ap (λ (vs : List Val). v.Fun f vs) (list-put before after (filled_value spot (v.Bound 0)) (filled_value spot y) both.0 both.1.1 (value-put spot x both.1.0))

  pub spot-put : (spot : Spot) (x : Val) → IsClosed 0 (filled spot x) → opened_with (filled spot (v.Bound 0)) y ≡ filled spot y
  spot-put (in_predicate f before spot after) x closed =
      let both = each-parts (IsClosedValue 0) before (filled_value spot x ∷ after) (rw (IsClosed-Pred 0 f (before ++ filled_value spot x ∷ after)) at closed) in
      mapped-Pred (value_for_place y) same_name 0 f (before ++ filled_value spot (v.Bound 0) ∷ after)
      ∙ ap (λ (vs : List Val). u.Pred f vs) (list-put before after (filled_value spot (v.Bound 0)) (filled_value spot y) both.0 both.1.1 (value-put spot x both.1.0))
  spot-put (at_left spot b) x closed =
      let both = rw (IsClosed-Eq 0 (filled_value spot x) b) at closed in
      mapped-Eq (value_for_place y) same_name 0 (filled_value spot (v.Bound 0)) b
      ∙ ap (λ (w : Val). u.Eq w (mapped_value (value_for_place y) same_name 0 b)) (value-put spot x both.0)
      ∙ ap (λ (w : Val). u.Eq (filled_value spot y) w) (value-unaffected y b 0 both.1)
  spot-put (at_right a spot) x closed =
      let both = rw (IsClosed-Eq 0 a (filled_value spot x)) at closed in
      mapped-Eq (value_for_place y) same_name 0 a (filled_value spot (v.Bound 0))
      ∙ ap (λ (w : Val). u.Eq w (mapped_value (value_for_place y) same_name 0 (filled_value spot (v.Bound 0)))) (value-unaffected y a 0 both.0)
      ∙ ap (λ (w : Val). u.Eq a w) (value-put spot x both.1)
  spot-put (in_negation spot) x closed =
      mapped-Not (value_for_place y) same_name 0 (filled spot (v.Bound 0)) ∙ ap (λ (w : U). u.Not w) (spot-put spot x (rw (IsClosed-Not 0 (filled spot x)) at closed))

-- ---- closed
module _ (k : ℕ) (y : Val) (closed_there : IsClosedValue k y) where
  each-more : (vs : List Val) → Each (IsClosedValue 0) vs → Each (IsClosedValue k) vs
  each-more vs each = each-weaker (IsClosedValue 0) (IsClosedValue k) (λ a h. value_closed-more a 0 k (omega arith) h) vs each

  list-closed : (before after : List Val) (b : Val) → Each (IsClosedValue 0) before → Each (IsClosedValue 0) after → IsClosedValue k b → Each (IsClosedValue k) (before ++ b ∷ after)
  list-closed before after b h j is = each-append (IsClosedValue k) before (b ∷ after) (each-more before h) (is, each-more after j)

  value-closed : (spot : ValueSpot) (x : Val) → IsClosedValue 0 (filled_value spot x) → IsClosedValue k (filled_value spot y)
  value-closed here x closed = closed_there
  value-closed (in_call f before spot after) x closed =
      let both = each-parts (IsClosedValue 0) before (filled_value spot x ∷ after) (rw (IsClosed-Fun 0 f (before ++ filled_value spot x ∷ after)) at closed) in
      rw (IsClosed-Fun k f (before ++ filled_value spot y ∷ after)) (list-closed before after (filled_value spot y) both.0 both.1.1 (value-closed spot x both.1.0))

  pub spot-closed : (spot : Spot) (x : Val) → IsClosed 0 (filled spot x) → IsClosed k (filled spot y)
  spot-closed (in_predicate f before spot after) x closed =
      let both = each-parts (IsClosedValue 0) before (filled_value spot x ∷ after) (rw (IsClosed-Pred 0 f (before ++ filled_value spot x ∷ after)) at closed) in
      rw (IsClosed-Pred k f (before ++ filled_value spot y ∷ after)) (list-closed before after (filled_value spot y) both.0 both.1.1 (value-closed spot x both.1.0))
  spot-closed (at_left spot b) x closed =
      let both = rw (IsClosed-Eq 0 (filled_value spot x) b) at closed in
      rw (IsClosed-Eq k (filled_value spot y) b) (value-closed spot x both.0, value_closed-more b 0 k (omega arith) both.1)
  spot-closed (at_right a spot) x closed =
      let both = rw (IsClosed-Eq 0 a (filled_value spot x)) at closed in
      rw (IsClosed-Eq k a (filled_value spot y)) (value_closed-more a 0 k (omega arith) both.0, value-closed spot x both.1)
  spot-closed (in_negation spot) x closed =
      rw (IsClosed-Not k (filled spot y)) (spot-closed spot x (rw (IsClosed-Not 0 (filled spot x)) at closed))

-- ---- named
module _ (Q : ℕ → Type 0) where
  call-names : (f : ℕ) (vs : List Val) → EachNameValue Q (v.Fun f vs) → Each (EachNameValue Q) vs
  unfolding EachName constructors
  call-names f vs h = rw (EachNameRow-list Q vs) at h

  names-call : (f : ℕ) (vs : List Val) → Each (EachNameValue Q) vs → EachNameValue Q (v.Fun f vs)
  unfolding EachName constructors
  names-call f vs h = rw (EachNameRow-list Q vs) h

  pred-names : (f : ℕ) (vs : List Val) → EachName Q (u.Pred f vs) → Each (EachNameValue Q) vs
  unfolding EachName constructors
  pred-names f vs h = rw (EachNameRow-list Q vs) at h

  names-pred : (f : ℕ) (vs : List Val) → Each (EachNameValue Q) vs → EachName Q (u.Pred f vs)
  unfolding EachName constructors
  names-pred f vs h = rw (EachNameRow-list Q vs) h

  eq-names : (a b : Val) → EachName Q (u.Eq a b) → EachNameValue Q a × EachNameValue Q b
  unfolding EachName constructors
  eq-names a b h = h

  names-eq : (a b : Val) → EachNameValue Q a → EachNameValue Q b → EachName Q (u.Eq a b)
  unfolding EachName constructors
  names-eq a b h k = (h, k)

  not-names : (a : U) → EachName Q (u.Not a) → EachName Q a
  unfolding EachName constructors
  not-names a h = h

  names-not : (a : U) → EachName Q a → EachName Q (u.Not a)
  unfolding EachName constructors
  names-not a h = h

  pub bound-names : (i : ℕ) → EachNameValue Q (v.Bound i)
  unfolding EachName constructors
  bound-names i = tt

  module _ (y : Val) (named : EachNameValue Q y) where
    value-named : (spot : ValueSpot) (x : Val) → EachNameValue Q (filled_value spot x) → EachNameValue Q (filled_value spot y)
    value-named here x h = named
    value-named (in_call f before spot after) x h =
        let both = each-parts (EachNameValue Q) before (filled_value spot x ∷ after) (call-names f (before ++ filled_value spot x ∷ after) h) in
        names-call f (before ++ filled_value spot y ∷ after) (each-append (EachNameValue Q) before (filled_value spot y ∷ after) both.0 (value-named spot x both.1.0, both.1.1))

    pub spot-named : (spot : Spot) (x : Val) → EachName Q (filled spot x) → EachName Q (filled spot y)
    spot-named (in_predicate f before spot after) x h =
        let both = each-parts (EachNameValue Q) before (filled_value spot x ∷ after) (pred-names f (before ++ filled_value spot x ∷ after) h) in
        names-pred f (before ++ filled_value spot y ∷ after) (each-append (EachNameValue Q) before (filled_value spot y ∷ after) both.0 (value-named spot x both.1.0, both.1.1))
    spot-named (at_left spot b) x h = let both = eq-names (filled_value spot x) b h in names-eq (filled_value spot y) b (value-named spot x both.0) both.1
    spot-named (at_right a spot) x h = let both = eq-names a (filled_value spot x) h in names-eq a (filled_value spot y) both.0 (value-named spot x both.1)
    spot-named (in_negation spot) x h = names-not (filled spot y) (spot-named spot x (not-names (filled spot x) h))

-- ---- deeper
-- the place of an argument of a call at a place
abbrev pub deeper_value : ValueSpot → ℕ → List Val → List Val → ValueSpot
deeper_value here f before after = in_call f before here after
deeper_value (in_call g front spot back) f before after = in_call g front (deeper_value spot f before after) back

abbrev pub deeper : Spot → ℕ → List Val → List Val → Spot
deeper (in_predicate g front spot back) f before after = in_predicate g front (deeper_value spot f before after) back
deeper (at_left spot b) f before after = at_left (deeper_value spot f before after) b
deeper (at_right a spot) f before after = at_right a (deeper_value spot f before after)
deeper (in_negation spot) f before after = in_negation (deeper spot f before after)

way-deeper_value : (spot : ValueSpot) (f : ℕ) (before after : List Val) → value_way (deeper_value spot f before after) ≡ value_way spot ++ length before ∷ []
way-deeper_value here f before after = refl
way-deeper_value (in_call g front spot back) f before after = ap (λ (p : List ℕ). length front ∷ p) (way-deeper_value spot f before after)

filled-deeper_value : (spot : ValueSpot) (f : ℕ) (before after : List Val) (x : Val) → filled_value (deeper_value spot f before after) x ≡ filled_value spot (v.Fun f (before ++ x ∷ after))
filled-deeper_value here f before after x = refl
filled-deeper_value (in_call g front spot back) f before after x = ap (λ (w : Val). v.Fun g (front ++ w ∷ back)) (filled-deeper_value spot f before after x)

pub way-deeper : (spot : Spot) (f : ℕ) (before after : List Val) → way (deeper spot f before after) ≡ way spot ++ length before ∷ []
way-deeper (in_predicate g front spot back) f before after = ap (λ (p : List ℕ). length front ∷ p) (way-deeper_value spot f before after)
way-deeper (at_left spot b) f before after = ap (λ (p : List ℕ). 0 ∷ p) (way-deeper_value spot f before after)
way-deeper (at_right a spot) f before after = ap (λ (p : List ℕ). 1 ∷ p) (way-deeper_value spot f before after)
way-deeper (in_negation spot) f before after = way-deeper spot f before after

pub filled-deeper : (spot : Spot) (f : ℕ) (before after : List Val) (x : Val) → filled (deeper spot f before after) x ≡ filled spot (v.Fun f (before ++ x ∷ after))
filled-deeper (in_predicate g front spot back) f before after x = ap (λ (w : Val). u.Pred g (front ++ w ∷ back)) (filled-deeper_value spot f before after x)
filled-deeper (at_left spot b) f before after x = ap (λ (w : Val). u.Eq w b) (filled-deeper_value spot f before after x)
filled-deeper (at_right a spot) f before after x = ap (λ (w : Val). u.Eq a w) (filled-deeper_value spot f before after x)
filled-deeper (in_negation spot) f before after x = ap (λ (w : U). u.Not w) (filled-deeper spot f before after x)

pub bound-closed : (k i : ℕ) → i < k → IsClosedValue k (v.Bound i)
unfolding IsClosed constructors
bound-closed k i less = less
