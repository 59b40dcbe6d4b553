-- Places of values in marks and in equalities, by the arguments on the way to them.
use Rattle.std.specs.Prelude.{◌≡◌, ℕ, List, [], ◌∷◌, ◌++◌, length}
use Rattle.u_terms.specs.Syntax.{U, Val}
use Rattle.u_terms.specs.declared.term.Val.TheVariants as v
use Rattle.u_terms.specs.declared.term.U.TheVariants as u

-- in a value: the value itself, or in an argument of a call
pub data ValueSpot : Type 0 where
  here : ValueSpot
  in_call : (symbol : ℕ) (before : List Val) (spot : ValueSpot) (after : List Val) → ValueSpot

abbrev pub filled_value : ValueSpot → Val → Val
filled_value here x = x
filled_value (in_call symbol before spot after) x = v.Fun symbol (before ++ filled_value spot x ∷ after)

abbrev pub value_way : ValueSpot → List ℕ
value_way here = []
value_way (in_call symbol before spot after) = length before ∷ value_way spot

-- in a predicate or an equality, or in one that is negated
pub data Spot : Type 0 where
  in_predicate : (symbol : ℕ) (before : List Val) (spot : ValueSpot) (after : List Val) → Spot
  at_left : (spot : ValueSpot) (b : Val) → Spot
  at_right : (a : Val) (spot : ValueSpot) → Spot
  in_negation : (spot : Spot) → Spot

-- the term with the value at the place
abbrev pub filled : Spot → Val → U
filled (in_predicate symbol before spot after) x = u.Pred symbol (before ++ filled_value spot x ∷ after)
filled (at_left spot b) x = u.Eq (filled_value spot x) b
filled (at_right a spot) x = u.Eq a (filled_value spot x)
filled (in_negation spot) x = u.Not (filled spot x)

-- the numbers of the arguments on the way; the sides of an equality are 0 and 1
abbrev pub way : Spot → List ℕ
way (in_predicate symbol before spot after) = length before ∷ value_way spot
way (at_left spot b) = 0 ∷ value_way spot
way (at_right a spot) = 1 ∷ value_way spot
way (in_negation spot) = way spot

-- ---- contracts of private functions alone cite this
-- some value stands there
pub record HasSpot (u : U) (place : List ℕ) : Type 0 where
  pub spot : Spot
  pub value : Val
  pub at : way spot ≡ place
  pub is : u ≡ filled spot value

pub record HasValueSpot (a : Val) (place : List ℕ) : Type 0 where
  pub spot : ValueSpot
  pub value : Val
  pub at : value_way spot ≡ place
  pub is : a ≡ filled_value spot value

pub record HasPointSpot (points : List Val) (place : List ℕ) : Type 0 where
  pub before : List Val
  pub spot : ValueSpot
  pub after : List Val
  pub value : Val
  pub at : length before ∷ value_way spot ≡ place
  pub is : points ≡ before ++ filled_value spot value ∷ after

-- the same with another value there
pub record IsPut (u : U) (place : List ℕ) (value : Val) (new : U) : Type 0 where
  pub each : (spot : Spot) (x : Val) → way spot ≡ place → u ≡ filled spot x → new ≡ filled spot value

pub record IsValuePut (a : Val) (place : List ℕ) (value new : Val) : Type 0 where
  pub each : (spot : ValueSpot) (x : Val) → value_way spot ≡ place → a ≡ filled_value spot x → new ≡ filled_value spot value

pub record IsPointPut (points : List Val) (place : List ℕ) (value : Val) (new : List Val) : Type 0 where
  pub each : (before : List Val) (spot : ValueSpot) (after : List Val) (x : Val) → length before ∷ value_way spot ≡ place → points ≡ before ++ filled_value spot x ∷ after
      → new ≡ before ++ filled_value spot value ∷ after
