-- Values put at places: where a place is in a part of the term, and the term put together again.
use Rattle.std.proofs.Common.{◌≡◌, ℕ, suc, ◌+◌, ◌<◌, List, [], ◌∷◌, ◌++◌, length, take, drop, get_or, refl, ap, sym, ◌∙◌, add-one, arith}
use Rattle.std.specs.Prelude.{slice_index_or, ◌-◌, ◌≤◌}
use Rattle.std.proofs.lemmas.List.{length-append, take_all}
use Rattle.u_terms.specs.Syntax.{U, Val}
use Rattle.u_terms.specs.declared.term.U.TheOpen.{U-F, Val-F}
use Rattle.u_terms.specs.declared.term.U.TheViews.{out-U, out-Val}
use Rattle.u_terms.specs.declared.term.U.TheVariants as u
use Rattle.u_terms.specs.declared.term.Val.TheVariants as v
use Rattle.u_terms.proofs.Parts.{parts-Fun, parts-Not, parts-Pred}
use Rattle.u_deriv.proofs.contexts.Ends.{out-Eq, out-Fun, out-Not, out-Pred}
use Rattle.u_equal.proofs.products.KeyLaws.{sides-Eq}
use Rattle.u_entail.specs.Spots.{ValueSpot, here, in_call, filled_value, value_way, Spot, in_predicate, at_left, at_right, in_negation, filled, way, HasSpot, HasValueSpot, HasPointSpot, IsPut, IsValuePut, IsPointPut}

-- ---- constructors
abbrev symbol_of : U-F U Val → ℕ
symbol_of (U-F.Pred i vs) = i
symbol_of _ = 0

abbrev function_of : Val-F U Val → ℕ
function_of (Val-F.Fun i vs) = i
function_of _ = 0

pub symbols : (i j : ℕ) (vs ws : List Val) → u.Pred i vs ≡ u.Pred j ws → i ≡ j
symbols i j vs ws e = ap symbol_of (sym (out-Pred i vs) ∙ ap out-U e ∙ out-Pred j ws)

pub functions : (i j : ℕ) (vs ws : List Val) → v.Fun i vs ≡ v.Fun j ws → i ≡ j
functions i j vs ws e = ap function_of (sym (out-Fun i vs) ∙ ap out-Val e ∙ out-Fun j ws)

pub pred-eq : (i : ℕ) (vs : List Val) (a b : Val) → u.Pred i vs ≡ u.Eq a b → ⊥
pred-eq i vs a b e = let o = sym (out-Pred i vs) ∙ ap out-U e ∙ out-Eq a b in cc

pub pred-not : (i : ℕ) (vs : List Val) (x : U) → u.Pred i vs ≡ u.Not x → ⊥
pred-not i vs x e = let o = sym (out-Pred i vs) ∙ ap out-U e ∙ out-Not x in cc

pub eq-not : (a b : Val) (x : U) → u.Eq a b ≡ u.Not x → ⊥
eq-not a b x e = let o = sym (out-Eq a b) ∙ ap out-U e ∙ out-Not x in cc

-- ---- lists
pub tails : (i j : ℕ) (p q : List ℕ) → i ∷ p ≡ j ∷ q → p ≡ q
tails i j p q e = cc

pub heads : (i j : ℕ) (p q : List ℕ) → i ∷ p ≡ j ∷ q → i ≡ j
heads i j p q e = cc

take-between : (before after : List Val) (x : Val) → take (length before) (before ++ x ∷ after) ≡ before
take-between [] after x = refl
take-between (y ∷ before) after x = ap (λ (vs : List Val). y ∷ vs) (take-between before after x)

drop-between : (before after : List Val) (x : Val) → drop (suc (length before)) (before ++ x ∷ after) ≡ after
drop-between [] after x = refl
drop-between (y ∷ before) after x = drop-between before after x

get-between : (before after : List Val) (x d : Val) → get_or (before ++ x ∷ after) (length before) d ≡ x
get-between [] after x d = refl
get-between (y ∷ before) after x d = get-between before after x d

-- ---- predicates and negations
module _ (i : ℕ) (points : List Val) (place : List ℕ) where
  pred-spot-by : (spot : Spot) (x : Val) → way spot ≡ place → u.Pred i points ≡ filled spot x → HasPointSpot points place
  pred-spot-by (in_predicate j before spot after) x at is = record {
    before = before;
    spot = spot;
    after = after;
    value = x;
    at = at;
    is = parts-Pred i j points (before ++ filled_value spot x ∷ after) is;
  }
  pred-spot-by (at_left spot b) x at is = absurd (pred-eq i points (filled_value spot x) b is)
  pred-spot-by (at_right a spot) x at is = absurd (pred-eq i points a (filled_value spot x) is)
  pred-spot-by (in_negation spot) x at is = absurd (pred-not i points (filled spot x) is)

  pub pred-spot : HasSpot (u.Pred i points) place → HasPointSpot points place
  pred-spot h = pred-spot-by h.spot h.value h.at h.is

  pub pred-put : (value : Val) (new : List Val) → IsPointPut points place value new → IsPut (u.Pred i points) place value (u.Pred i new)
  pred-put value new h = record { each = by } where
    by : (spot : Spot) (x : Val) → way spot ≡ place → u.Pred i points ≡ filled spot x → u.Pred i new ≡ filled spot value
    by (in_predicate j before spot after) x at is =
        ap (λ n. u.Pred n new) (symbols i j points (before ++ filled_value spot x ∷ after) is)
        ∙ ap (λ vs. u.Pred j vs) (h.each before spot after x at (parts-Pred i j points (before ++ filled_value spot x ∷ after) is))
    by (at_left spot b) x at is = absurd (pred-eq i points (filled_value spot x) b is)
    by (at_right a spot) x at is = absurd (pred-eq i points a (filled_value spot x) is)
    by (in_negation spot) x at is = absurd (pred-not i points (filled spot x) is)

module _ (inner : U) (place : List ℕ) where
  not-spot-by : (spot : Spot) (x : Val) → way spot ≡ place → u.Not inner ≡ filled spot x → HasSpot inner place
  not-spot-by (in_predicate j before spot after) x at is = absurd (pred-not j (before ++ filled_value spot x ∷ after) inner (sym is))
  not-spot-by (at_left spot b) x at is = absurd (eq-not (filled_value spot x) b inner (sym is))
  not-spot-by (at_right a spot) x at is = absurd (eq-not a (filled_value spot x) inner (sym is))
  not-spot-by (in_negation spot) x at is = record { spot = spot; value = x; at = at; is = parts-Not inner (filled spot x) is }

  pub not-spot : HasSpot (u.Not inner) place → HasSpot inner place
  not-spot h = not-spot-by h.spot h.value h.at h.is

  pub not-put : (value : Val) (new : U) → IsPut inner place value new → IsPut (u.Not inner) place value (u.Not new)
  not-put value new h = record { each = by } where
    by : (spot : Spot) (x : Val) → way spot ≡ place → u.Not inner ≡ filled spot x → u.Not new ≡ filled spot value
    by (in_predicate j before spot after) x at is = absurd (pred-not j (before ++ filled_value spot x ∷ after) inner (sym is))
    by (at_left spot b) x at is = absurd (eq-not (filled_value spot x) b inner (sym is))
    by (at_right a spot) x at is = absurd (eq-not a (filled_value spot x) inner (sym is))
    by (in_negation spot) x at is = ap u.Not (h.each spot x at (parts-Not inner (filled spot x) is))

-- ---- equalities
module _ (a b : Val) (place : List ℕ) where
  sides-some-by : (spot : Spot) (x : Val) → way spot ≡ place → u.Eq a b ≡ filled spot x → 0 < length place
  sides-some-by (in_predicate j before spot after) x at is = omega (arith, ap length at)
  sides-some-by (at_left spot c) x at is = omega (arith, ap length at)
  sides-some-by (at_right c spot) x at is = omega (arith, ap length at)
  sides-some-by (in_negation spot) x at is = absurd (eq-not a b (filled spot x) is)

  pub sides-some : HasSpot (u.Eq a b) place → 0 < length place
  sides-some h = sides-some-by h.spot h.value h.at h.is

pub left-spot : (a b : Val) (rest : List ℕ) → HasSpot (u.Eq a b) (0 ∷ rest) → HasValueSpot a rest
left-spot a b rest h = by h.spot h.value h.at h.is where
  by : (spot : Spot) (x : Val) → way spot ≡ 0 ∷ rest → u.Eq a b ≡ filled spot x → HasValueSpot a rest
  by (in_predicate j before spot after) x at is = absurd (pred-eq j (before ++ filled_value spot x ∷ after) a b (sym is))
  by (at_left spot c) x at is = let p = sides-Eq a b (filled_value spot x) c is in record { spot = spot; value = x; at = tails 0 0 (value_way spot) rest at; is = p.0 }
  by (at_right c spot) x at is = absurd (omega (arith, heads 1 0 (value_way spot) rest at))
  by (in_negation spot) x at is = absurd (eq-not a b (filled spot x) is)

pub right-spot : (a b : Val) (k : ℕ) (rest : List ℕ) → (k ≡ 0 → ⊥) → HasSpot (u.Eq a b) (k ∷ rest) → HasValueSpot b rest
right-spot a b k rest some h = by h.spot h.value h.at h.is where
  by : (spot : Spot) (x : Val) → way spot ≡ k ∷ rest → u.Eq a b ≡ filled spot x → HasValueSpot b rest
  by (in_predicate j before spot after) x at is = absurd (pred-eq j (before ++ filled_value spot x ∷ after) a b (sym is))
  by (at_left spot c) x at is = absurd (some (sym (heads 0 k (value_way spot) rest at)))
  by (at_right c spot) x at is = let p = sides-Eq a b c (filled_value spot x) is in record { spot = spot; value = x; at = tails 1 k (value_way spot) rest at; is = p.1 }
  by (in_negation spot) x at is = absurd (eq-not a b (filled spot x) is)

pub left-put : (a b : Val) (rest : List ℕ) (value new other : Val) → other ≡ b → IsValuePut a rest value new → IsPut (u.Eq a b) (0 ∷ rest) value (u.Eq new other)
left-put a b rest value new other same h = record { each = by } where
  by : (spot : Spot) (x : Val) → way spot ≡ 0 ∷ rest → u.Eq a b ≡ filled spot x → u.Eq new other ≡ filled spot value
  by (in_predicate j before spot after) x at is = absurd (pred-eq j (before ++ filled_value spot x ∷ after) a b (sym is))
  by (at_left spot c) x at is =
      let p = sides-Eq a b (filled_value spot x) c is in
      ap (λ w. u.Eq w other) (h.each spot x (tails 0 0 (value_way spot) rest at) p.0) ∙ ap (λ w. u.Eq (filled_value spot value) w) (same ∙ p.1)
  by (at_right c spot) x at is = absurd (omega (arith, heads 1 0 (value_way spot) rest at))
  by (in_negation spot) x at is = absurd (eq-not a b (filled spot x) is)

pub right-put : (a b : Val) (k : ℕ) (rest : List ℕ) → (k ≡ 0 → ⊥) → (value new other : Val) → other ≡ a → IsValuePut b rest value new → IsPut (u.Eq a b) (k ∷ rest) value (u.Eq other new)
right-put a b k rest some value new other same h = record { each = by } where
  by : (spot : Spot) (x : Val) → way spot ≡ k ∷ rest → u.Eq a b ≡ filled spot x → u.Eq other new ≡ filled spot value
  by (in_predicate j before spot after) x at is = absurd (pred-eq j (before ++ filled_value spot x ∷ after) a b (sym is))
  by (at_left spot c) x at is = absurd (some (sym (heads 0 k (value_way spot) rest at)))
  by (at_right c spot) x at is =
      let p = sides-Eq a b c (filled_value spot x) is in
      ap (λ w. u.Eq w new) (same ∙ p.0) ∙ ap (λ w. u.Eq c w) (h.each spot x (tails 1 k (value_way spot) rest at) p.1)
  by (in_negation spot) x at is = absurd (eq-not a b (filled spot x) is)

-- ---- values
pub nothing-left : (a : Val) (place : List ℕ) (value new : Val) → place ≡ [] → new ≡ value → IsValuePut a place value new
nothing-left a place value new none same = record { each = by } where
  by : (spot : ValueSpot) (x : Val) → value_way spot ≡ place → a ≡ filled_value spot x → new ≡ filled_value spot value
  by here x at is = same
  by (in_call f before spot after) x at is = absurd (omega (arith, ap length at, ap length none))

pub no-call : (a : Val) (place : List ℕ) → (place ≡ [] → ⊥) → ((f : ℕ) (xs : List Val) → a ≡ v.Fun f xs → ⊥) → HasValueSpot a place → ⊥
no-call a place some none h = by h.spot h.value h.at h.is where
  by : (spot : ValueSpot) (x : Val) → value_way spot ≡ place → a ≡ filled_value spot x → ⊥
  by here x at is = some (sym at)
  by (in_call f before spot after) x at is = none f (before ++ filled_value spot x ∷ after) is

module _ (f : ℕ) (args : List Val) (place : List ℕ) (some : place ≡ [] → ⊥) where
  call-spot-by : (spot : ValueSpot) (x : Val) → value_way spot ≡ place → v.Fun f args ≡ filled_value spot x → HasPointSpot args place
  call-spot-by here x at is = absurd (some (sym at))
  call-spot-by (in_call g before spot after) x at is = record {
    before = before;
    spot = spot;
    after = after;
    value = x;
    at = at;
    is = parts-Fun f g args (before ++ filled_value spot x ∷ after) is;
  }

  pub call-spot : HasValueSpot (v.Fun f args) place → HasPointSpot args place
  call-spot h = call-spot-by h.spot h.value h.at h.is

  pub call-put : (value : Val) (new : List Val) → IsPointPut args place value new → IsValuePut (v.Fun f args) place value (v.Fun f new)
  call-put value new h = record { each = by } where
    by : (spot : ValueSpot) (x : Val) → value_way spot ≡ place → v.Fun f args ≡ filled_value spot x → v.Fun f new ≡ filled_value spot value
    by here x at is = absurd (some (sym at))
    by (in_call g before spot after) x at is =
        ap (λ n. v.Fun n new) (functions f g args (before ++ filled_value spot x ∷ after) is)
        ∙ ap (λ vs. v.Fun g vs) (h.each before spot after x at (parts-Fun f g args (before ++ filled_value spot x ∷ after) is))

-- ---- points
pub point-some : (points : List Val) (place : List ℕ) → HasPointSpot points place → 0 < length place
point-some points place h = omega (arith, ap length h.at)

module _ (points : List Val) (i : ℕ) (rest : List ℕ) where
  pub point-within : HasPointSpot points (i ∷ rest) → i < length points
  point-within h = omega (arith, heads (length h.before) i (value_way h.spot) rest h.at, ap length h.is, length-append h.before (filled_value h.spot h.value ∷ h.after))

  pub point-spot : (d : Val) → HasPointSpot points (i ∷ rest) → HasValueSpot (get_or points i d) rest
  point-spot d h = record {
    spot = h.spot;
    value = h.value;
    at = tails (length h.before) i (value_way h.spot) rest h.at;
    is =
        ap (λ (vs : List Val). get_or vs i d) h.is ∙ ap (λ n. get_or (h.before ++ filled_value h.spot h.value ∷ h.after) n d) (sym (heads (length h.before) i (value_way h.spot) rest h.at))
        ∙ get-between h.before h.after (filled_value h.spot h.value) d;
  }

  pub point-put : (d value new : Val) (news : List Val) → IsValuePut (get_or points i d) rest value new → news ≡ take i points ++ new ∷ drop (i + 1) points → IsPointPut points (i ∷ rest) value news
  point-put d value new news h is = record { each = by } where
    by : (before : List Val) (spot : ValueSpot) (after : List Val) (x : Val) → length before ∷ value_way spot ≡ i ∷ rest → points ≡ before ++ filled_value spot x ∷ after
        → news ≡ before ++ filled_value spot value ∷ after
    by before spot after x at there =
        let first : length before ≡ i = heads (length before) i (value_way spot) rest at in
        let old : get_or points i d ≡ filled_value spot x =
        ap (λ (vs : List Val). get_or vs i d) there ∙ ap (λ n. get_or (before ++ filled_value spot x ∷ after) n d) (sym first) ∙ get-between before after (filled_value spot x) d in
        is ∙ ap (λ n. take i points ++ new ∷ drop n points) (add-one i)
        ∙ ap (λ (vs : List Val). take i vs ++ new ∷ drop (suc i) vs) there
        ∙ ap (λ n. take n (before ++ filled_value spot x ∷ after) ++ new ∷ drop (suc n) (before ++ filled_value spot x ∷ after)) (sym first)
        ∙ ap (λ (vs : List Val). vs ++ new ∷ drop (suc (length before)) (before ++ filled_value spot x ∷ after)) (take-between before after (filled_value spot x))
        ∙ ap (λ (vs : List Val). before ++ new ∷ vs) (drop-between before after (filled_value spot x))
        ∙ ap (λ w. before ++ w ∷ after) (h.each spot x (tails (length before) i (value_way spot) rest at) old)

pub no-mark : (t : U) (place : List ℕ) → ((i : ℕ) (vs : List Val) → t ≡ u.Pred i vs → ⊥) → ((a b : Val) → t ≡ u.Eq a b → ⊥) → ((x : U) → t ≡ u.Not x → ⊥) → HasSpot t place → ⊥
no-mark t place pred eq not h = by h.spot h.value h.is where
  by : (spot : Spot) (x : Val) → t ≡ filled spot x → ⊥
  by (in_predicate j before spot after) x is = pred j (before ++ filled_value spot x ∷ after) is
  by (at_left spot b) x is = eq (filled_value spot x) b is
  by (at_right a spot) x is = eq a (filled_value spot x) is
  by (in_negation spot) x is = not (filled spot x) is

-- ---- what code reads of a place
pub first-and-rest : (place : List ℕ) → 0 < length place → place ≡ slice_index_or place 0 0 ∷ take (length place - 1) (drop 1 place)
first-and-rest [] some = absurd (omega (arith, some))
first-and-rest (i ∷ rest) some = let all : length rest ≤ suc (length rest) - 1 = omega arith in ap (λ (p : List ℕ). i ∷ p) (sym (take_all (suc (length rest) - 1) rest all))

pub no-items : (place : List ℕ) → length place ≡ 0 → place ≡ []
no-items [] none = refl
no-items (i ∷ rest) none = absurd (omega (arith, none))
