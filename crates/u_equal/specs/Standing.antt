-- The values that stand in a term outside every binder: those under `#`, `!` and `+` too, and none under a sum or in an aggregate.
use Rattle.std.specs.Prelude.{◌≡◌, ℕ, List, [], ◌∷◌, ◌++◌, Some, slice_get}
use Rattle.u_terms.specs.Syntax.{U, Zero, One, Add, Mul, Squash, Not, Sum, Rel, Eq, Pred, Val, Bound, Free, Lit, Fun, Agg, Vals, NoVals, ValThen}

unfoldable mutual
  pub standing : U → List Val
  standing Zero = []
  standing One = []
  standing (Add a b) = standing a ++ standing b
  standing (Mul a b) = standing a ++ standing b
  standing (Squash a) = standing a
  standing (Not a) = standing a
  standing (Sum body) = []
  standing (Rel table shape arguments) = row_standing arguments
  standing (Eq a b) = value_standing a ++ value_standing b
  standing (Pred symbol shape arguments) = row_standing arguments

  -- the value, and before a call what stands in its arguments
  pub value_standing : Val → List Val
  value_standing (Bound place) = Bound place ∷ []
  value_standing (Free name) = Free name ∷ []
  value_standing (Lit literal) = Lit literal ∷ []
  value_standing (Fun symbol shape arguments) = row_standing arguments ++ Fun symbol shape arguments ∷ []
  value_standing (Agg aggregate body) = Agg aggregate body ∷ []

  pub row_standing : {n : _} → Vals n → List Val
  row_standing NoVals = []
  row_standing (ValThen value rest) = value_standing value ++ row_standing rest

-- the item stands at some place of the list
pub record IsIn {X : Type 0} (x : X) (xs : List X) : Type 0 where
  pub place : ℕ
  pub here : slice_get xs place ≡ Some x

-- no item stands at two places of the list
abbrev pub EachOnce : {X : Type 0} → List X → Type 0
EachOnce {X} xs = (i j : ℕ) (x : X) → slice_get xs i ≡ Some x → slice_get xs j ≡ Some x → i ≡ j

abbrev pub Stands : Val → U → Type 0
Stands value product = IsIn value (standing product)
