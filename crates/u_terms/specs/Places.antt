-- Which places have a binder. `Sum` and `Agg` bind one value each, and place i stands for the binder that i others stand between. Inside
-- k binders place i dangles where i is at least k; a term is closed where nothing dangles (locally closed terms: Charguéraud, "The
-- Locally Nameless Representation", Journal of Automated Reasoning 49, 2012).
use Rattle.std.specs.Prelude.{ℕ, ◌+◌, ◌<◌}
use Rattle.u_terms.specs.Syntax.{U, Zero, One, Add, Mul, Squash, Not, Sum, Rel, Eq, Pred, Val, Bound, Free, Lit, Fun, Agg, Vals, NoVals, ValThen}

-- inside k binders no place dangles
unfoldable mutual
  pub IsClosed : ℕ → U → Type 0
  IsClosed k Zero = Unit {0}
  IsClosed k One = Unit {0}
  IsClosed k (Add a b) = IsClosed k a × IsClosed k b
  IsClosed k (Mul a b) = IsClosed k a × IsClosed k b
  IsClosed k (Squash a) = IsClosed k a
  IsClosed k (Not a) = IsClosed k a
  IsClosed k (Sum body) = IsClosed (k + 1) body
  IsClosed k (Rel table shape arguments) = IsClosedRow k arguments
  IsClosed k (Eq a b) = IsClosedValue k a × IsClosedValue k b
  IsClosed k (Pred symbol shape arguments) = IsClosedRow k arguments

  pub IsClosedValue : ℕ → Val → Type 0
  IsClosedValue k (Bound place) = place < k
  IsClosedValue k (Free name) = Unit {0}
  IsClosedValue k (Lit literal) = Unit {0}
  IsClosedValue k (Fun symbol shape arguments) = IsClosedRow k arguments
  IsClosedValue k (Agg aggregate body) = IsClosed (k + 1) body

  pub IsClosedRow : {n : _} → ℕ → Vals n → Type 0
  IsClosedRow k NoVals = Unit {0}
  IsClosedRow k (ValThen value rest) = IsClosedValue k value × IsClosedRow k rest
