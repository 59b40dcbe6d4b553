-- `EachName` and `fresh` at each constructor as code writes it, and of a list; and `fresh` is the least bound.
use Rattle.std.proofs.Common.{◌≡◌, ℕ, ◌+◌, ◌<◌, ◌≤◌, max, List, [], ◌∷◌, fold, refl, ap, sym, ◌∙◌, arith}
use Rattle.u_terms.specs.declared.term.U.TheVariants as u
use Rattle.u_terms.specs.declared.term.Val.TheVariants as v
use Rattle.u_terms.specs.Syntax.{U, Zero, One, Add, Mul, Squash, Not, Sum, Rel, Eq, Pred, Val, Bound, Free, Lit, Fun, Agg, Vals, NoVals, ValThen, row_of, constructors}
use Rattle.u_terms.specs.Names.{EachName, EachNameRow, IsFreeBelow, IsFreeBelowValue, fresh, value_fresh, row_fresh, list_fresh}

most-from : (most : ℕ) (vs : List Val) → fold (λ m v. max m (value_fresh v)) most vs ≡ max most (list_fresh vs)
most-from most [] = omega arith
most-from most (v ∷ vs) = omega (arith, most-from (max most (value_fresh v)) vs, most-from (max 0 (value_fresh v)) vs)

pub list_fresh-cons : (v : Val) (vs : List Val) → list_fresh (v ∷ vs) ≡ max (value_fresh v) (list_fresh vs)
list_fresh-cons v vs = omega (arith, most-from (max 0 (value_fresh v)) vs)

pub row_fresh-list : (vs : List Val) → row_fresh (row_of vs) ≡ list_fresh vs
unfolding fresh constructors
row_fresh-list [] = refl
row_fresh-list (v ∷ vs) = ap (λ (m : ℕ). max (value_fresh v) m) (row_fresh-list vs) ∙ sym (list_fresh-cons v vs)

pub fresh-Zero : fresh u.Zero ≡ 0
unfolding fresh constructors
fresh-Zero = refl

pub fresh-One : fresh u.One ≡ 0
unfolding fresh constructors
fresh-One = refl

pub fresh-Add : (a b : U) → fresh (u.Add a b) ≡ max (fresh a) (fresh b)
unfolding fresh constructors
fresh-Add a b = refl

pub fresh-Mul : (a b : U) → fresh (u.Mul a b) ≡ max (fresh a) (fresh b)
unfolding fresh constructors
fresh-Mul a b = refl

pub fresh-Squash : (a : U) → fresh (u.Squash a) ≡ fresh a
unfolding fresh constructors
fresh-Squash a = refl

pub fresh-Not : (a : U) → fresh (u.Not a) ≡ fresh a
unfolding fresh constructors
fresh-Not a = refl

pub fresh-Sum : (body : U) → fresh (u.Sum body) ≡ fresh body
unfolding fresh constructors
fresh-Sum body = refl

pub fresh-Rel : (table : ℕ) (vs : List Val) → fresh (u.Rel table vs) ≡ list_fresh vs
unfolding fresh constructors
fresh-Rel table vs = row_fresh-list vs

pub fresh-Eq : (a b : Val) → fresh (u.Eq a b) ≡ max (value_fresh a) (value_fresh b)
unfolding fresh constructors
fresh-Eq a b = refl

pub fresh-Pred : (symbol : ℕ) (vs : List Val) → fresh (u.Pred symbol vs) ≡ list_fresh vs
unfolding fresh constructors
fresh-Pred symbol vs = row_fresh-list vs

pub fresh-Bound : (place : ℕ) → value_fresh (v.Bound place) ≡ 0
unfolding fresh constructors
fresh-Bound place = refl

pub fresh-Free : (name : ℕ) → value_fresh (v.Free name) ≡ name + 1
unfolding fresh constructors
fresh-Free name = refl

pub fresh-Lit : (literal : ℕ) → value_fresh (v.Lit literal) ≡ 0
unfolding fresh constructors
fresh-Lit literal = refl

pub fresh-Fun : (symbol : ℕ) (vs : List Val) → value_fresh (v.Fun symbol vs) ≡ list_fresh vs
unfolding fresh constructors
fresh-Fun symbol vs = row_fresh-list vs

pub fresh-Agg : (aggregate : ℕ) (body : U) → value_fresh (v.Agg aggregate body) ≡ fresh body
unfolding fresh constructors
fresh-Agg aggregate body = refl

pub ruleset fresh_at = (
  fresh-Zero,
  fresh-One,
  fresh-Add,
  fresh-Mul,
  fresh-Squash,
  fresh-Not,
  fresh-Sum,
  fresh-Rel,
  fresh-Eq,
  fresh-Pred,
  fresh-Bound,
  fresh-Free,
  fresh-Lit,
  fresh-Fun,
  fresh-Agg,
)

-- ---- the least bound
module _ (bound : ℕ) where
  mutual
    unfolding EachName fresh

    pub below-fresh : (u : U) → fresh u ≤ bound → IsFreeBelow bound u
    below-fresh Zero h = tt
    below-fresh One h = tt
    below-fresh (Add a b) h = (below-fresh a (omega arith), below-fresh b (omega arith))
    below-fresh (Mul a b) h = (below-fresh a (omega arith), below-fresh b (omega arith))
    below-fresh (Squash a) h = below-fresh a h
    below-fresh (Not a) h = below-fresh a h
    below-fresh (Sum body) h = below-fresh body h
    below-fresh (Rel table shape arguments) h = row_below-fresh arguments h
    below-fresh (Eq a b) h = (value_below-fresh a (omega arith), value_below-fresh b (omega arith))
    below-fresh (Pred symbol shape arguments) h = row_below-fresh arguments h

    pub value_below-fresh : (value : Val) → value_fresh value ≤ bound → IsFreeBelowValue bound value
    value_below-fresh (Bound place) h = tt
    value_below-fresh (Free name) h = omega arith
    value_below-fresh (Lit literal) h = tt
    value_below-fresh (Fun symbol shape arguments) h = row_below-fresh arguments h
    value_below-fresh (Agg aggregate body) h = below-fresh body h

    pub row_below-fresh : {m : _} (row : Vals m) → row_fresh row ≤ bound → EachNameRow (λ name. name < bound) row
    row_below-fresh NoVals h = tt
    row_below-fresh (ValThen value rest) h = (value_below-fresh value (omega arith), row_below-fresh rest (omega arith))

  mutual
    unfolding EachName fresh

    pub fresh-least : (u : U) → IsFreeBelow bound u → fresh u ≤ bound
    fresh-least Zero h = omega arith
    fresh-least One h = omega arith
    fresh-least (Add a b) h = omega (arith, fresh-least a h.0, fresh-least b h.1)
    fresh-least (Mul a b) h = omega (arith, fresh-least a h.0, fresh-least b h.1)
    fresh-least (Squash a) h = fresh-least a h
    fresh-least (Not a) h = fresh-least a h
    fresh-least (Sum body) h = fresh-least body h
    fresh-least (Rel table shape arguments) h = row_fresh-least arguments h
    fresh-least (Eq a b) h = omega (arith, value_fresh-least a h.0, value_fresh-least b h.1)
    fresh-least (Pred symbol shape arguments) h = row_fresh-least arguments h

    pub value_fresh-least : (value : Val) → IsFreeBelowValue bound value → value_fresh value ≤ bound
    value_fresh-least (Bound place) h = omega arith
    value_fresh-least (Free name) h = omega (arith, h)
    value_fresh-least (Lit literal) h = omega arith
    value_fresh-least (Fun symbol shape arguments) h = row_fresh-least arguments h
    value_fresh-least (Agg aggregate body) h = fresh-least body h

    pub row_fresh-least : {m : _} (row : Vals m) → EachNameRow (λ name. name < bound) row → row_fresh row ≤ bound
    row_fresh-least NoVals h = omega arith
    row_fresh-least (ValThen value rest) h = omega (arith, value_fresh-least value h.0, row_fresh-least rest h.1)

pub ruleset fresh_is_least = (below-fresh, value_below-fresh, fresh-least, value_fresh-least)
