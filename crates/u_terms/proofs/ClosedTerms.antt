-- `IsClosed` at each constructor as code writes it, and of a list.
use Rattle.std.proofs.Common.{◌≡◌, ℕ, ◌+◌, ◌<◌, List, [], ◌∷◌, refl, ap}
use Rattle.data_model.specs.Lists.{Each}
use Rattle.u_terms.specs.declared.term.U.TheVariants as u
use Rattle.u_terms.specs.declared.term.Val.TheVariants as v
use Rattle.u_terms.specs.Syntax.{U, Val, row_of, constructors}
use Rattle.u_terms.specs.Places.{IsClosed, IsClosedValue, IsClosedRow}

module _ (k : ℕ) where
  pub IsClosedRow-list : (vs : List Val) → IsClosedRow k (row_of vs) ≡ Each (IsClosedValue k) vs
  unfolding IsClosed constructors
  IsClosedRow-list [] = refl
  IsClosedRow-list (v ∷ vs) = ap (λ (P : Type 0). IsClosedValue k v × P) (IsClosedRow-list vs)

  pub IsClosed-Zero : IsClosed k u.Zero ≡ Unit {0}
  unfolding IsClosed constructors
  IsClosed-Zero = refl

  pub IsClosed-One : IsClosed k u.One ≡ Unit {0}
  unfolding IsClosed constructors
  IsClosed-One = refl

  pub IsClosed-Add : (a b : U) → IsClosed k (u.Add a b) ≡ (IsClosed k a × IsClosed k b)
  unfolding IsClosed constructors
  IsClosed-Add a b = refl

  pub IsClosed-Mul : (a b : U) → IsClosed k (u.Mul a b) ≡ (IsClosed k a × IsClosed k b)
  unfolding IsClosed constructors
  IsClosed-Mul a b = refl

  pub IsClosed-Squash : (a : U) → IsClosed k (u.Squash a) ≡ IsClosed k a
  unfolding IsClosed constructors
  IsClosed-Squash a = refl

  pub IsClosed-Not : (a : U) → IsClosed k (u.Not a) ≡ IsClosed k a
  unfolding IsClosed constructors
  IsClosed-Not a = refl

  pub IsClosed-Sum : (body : U) → IsClosed k (u.Sum body) ≡ IsClosed (k + 1) body
  unfolding IsClosed constructors
  IsClosed-Sum body = refl

  pub IsClosed-Rel : (table : ℕ) (vs : List Val) → IsClosed k (u.Rel table vs) ≡ Each (IsClosedValue k) vs
  unfolding IsClosed constructors
  IsClosed-Rel table vs = IsClosedRow-list vs

  pub IsClosed-Eq : (a b : Val) → IsClosed k (u.Eq a b) ≡ (IsClosedValue k a × IsClosedValue k b)
  unfolding IsClosed constructors
  IsClosed-Eq a b = refl

  pub IsClosed-Pred : (symbol : ℕ) (vs : List Val) → IsClosed k (u.Pred symbol vs) ≡ Each (IsClosedValue k) vs
  unfolding IsClosed constructors
  IsClosed-Pred symbol vs = IsClosedRow-list vs

  pub IsClosed-Bound : (place : ℕ) → IsClosedValue k (v.Bound place) ≡ (place < k)
  unfolding IsClosed constructors
  IsClosed-Bound place = refl

  pub IsClosed-Free : (name : ℕ) → IsClosedValue k (v.Free name) ≡ Unit {0}
  unfolding IsClosed constructors
  IsClosed-Free name = refl

  pub IsClosed-Lit : (literal : ℕ) → IsClosedValue k (v.Lit literal) ≡ Unit {0}
  unfolding IsClosed constructors
  IsClosed-Lit literal = refl

  pub IsClosed-Fun : (symbol : ℕ) (vs : List Val) → IsClosedValue k (v.Fun symbol vs) ≡ Each (IsClosedValue k) vs
  unfolding IsClosed constructors
  IsClosed-Fun symbol vs = IsClosedRow-list vs

  pub IsClosed-Agg : (aggregate : ℕ) (body : U) → IsClosedValue k (v.Agg aggregate body) ≡ IsClosed (k + 1) body
  unfolding IsClosed constructors
  IsClosed-Agg aggregate body = refl

pub ruleset is_closed_at = (
  IsClosed-Zero,
  IsClosed-One,
  IsClosed-Add,
  IsClosed-Mul,
  IsClosed-Squash,
  IsClosed-Not,
  IsClosed-Sum,
  IsClosed-Rel,
  IsClosed-Eq,
  IsClosed-Pred,
  IsClosed-Bound,
  IsClosed-Free,
  IsClosed-Lit,
  IsClosed-Fun,
  IsClosed-Agg,
)
