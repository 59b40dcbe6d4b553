-- What stands at the head of a product in normal form. Contracts of private functions alone cite this.
use Rattle.std.specs.Prelude.{ℕ, ◌+◌, ◌≤◌, max}
use Rattle.u_terms.specs.Syntax.{U, Zero, One, Add, Mul, Sum}
use Rattle.normal_form.specs.declared.kind.Kind.TheVariants as kind
use Rattle.u_normal.specs.Merging.{HasKind}
use Rattle.u_normal.specs.Taking.{load, count}

pub data IsSumOrZero : U → Type 0 where
  zero : IsSumOrZero Zero
  sum : {a b : U} → IsSumOrZero (Add a b)
  sum_over : {body : U} → IsSumOrZero (Sum body)

-- factors in a row, none of them 1
pub data IsFactorRow : U → Type 0 where
  no_factor : IsFactorRow One
  one_factor : {u : U} → HasKind u → IsFactorRow u
  first_factor : {u rest : U} → HasKind u → IsFactorRow rest → IsFactorRow (Mul u rest)

-- with one squash and one negation at most
pub record IsTidy (u : U) : Type 0 where
  pub row : IsFactorRow u
  pub squashes : count kind.Squash u ≤ 1
  pub negations : count kind.Negation u ≤ 1

pub data HasHead : U → Type 0 where
  at_sum : {u : U} → IsSumOrZero u → HasHead u
  at_factors : {u : U} → IsTidy u → HasHead u

-- how much there is to do in the parts, of two the one with more
unfoldable pub head_load : U → ℕ
head_load (Add a b) = max (load a) (load b) + 1
head_load (Sum body) = load body + 1
head_load u = load u

pub record IsHeaded (most : ℕ) (u : U) : Type 0 where
  pub head : HasHead u
  pub light : head_load u ≤ most
