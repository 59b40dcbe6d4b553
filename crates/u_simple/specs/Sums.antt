-- The sums over all values that a term begins with, and the places inside them.
use Rattle.std.specs.Prelude.{◌≡◌, ℕ}
use Rattle.u_terms.specs.declared.term.U.TheVariants as u
use Rattle.u_terms.specs.declared.term.Val.TheVariants as v
use Rattle.u_terms.specs.Binding.{sums}
use Rattle.u_terms.specs.Syntax.{U, Mul, Sum, Eq}

-- the term begins with so many sums
pub record HasSums (count : ℕ) (u : U) : Type 0 where
  pub inside : U
  pub is : u ≡ sums count inside

-- and with no more
pub record HasAllSums (count : ℕ) (t : U) : Type 0 where
  pub inside : U
  pub is : t ≡ sums count inside
  pub no_sum : (body : U) → inside ≡ u.Sum body → ⊥

-- ---- contracts of private functions alone cite this
-- a factor under sums is an equality that has the place for a side
pub data HasSide (place : ℕ) : U → Type 0 where
  first_side : {b : _} → HasSide place (Eq (v.Bound place) b)
  second_side : {a : _} → HasSide place (Eq a (v.Bound place))
  in_left : {a b : U} → HasSide place a → HasSide place (Mul a b)
  in_right : {a b : U} → HasSide place b → HasSide place (Mul a b)
  under_sum : {body : U} → HasSide place body → HasSide place (Sum body)
