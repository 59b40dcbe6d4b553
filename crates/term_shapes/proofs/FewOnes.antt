-- Where few factors 1 stand: in a product of other factors, and in sums of terms that have few.
use Rattle.std.proofs.Common.{◌≡◌, ℕ, zero, suc, ◌+◌, ◌≤◌, List, [], ◌∷◌, refl, arith}
use Rattle.data_model.specs.Lists.{Each}
use Rattle.u_terms.specs.declared.term.U.TheVariants as u
use Rattle.u_terms.specs.Syntax.{U, Zero, One, Add, Mul, Squash, Not, Sum, Rel, Eq, Pred, Val, constructors}
use Rattle.u_terms.specs.Binding.{mapped, sums}
use Rattle.u_terms.specs.Products.{product_of}
use Rattle.term_shapes.specs.FewOnes.{ones, HasFewOnes}

-- ---- sums
pub few-parts : (a b : U) → HasFewOnes (u.Add a b) → HasFewOnes a × HasFewOnes b
unfolding HasFewOnes constructors
few-parts a b h = h

pub few-both : (a b : U) → HasFewOnes a → HasFewOnes b → HasFewOnes (u.Add a b)
unfolding HasFewOnes constructors
few-both a b h k = (h, k)

pub few-zero : HasFewOnes u.Zero
unfolding HasFewOnes ones constructors
few-zero = omega arith

-- a sum is no factor 1
pub few-ones : (w : U) → HasFewOnes w → ones w ≤ 1
unfolding HasFewOnes ones
few-ones Zero h = h
few-ones One h = h
few-ones (Add a b) h = omega arith
few-ones (Mul a b) h = h
few-ones (Squash a) h = h
few-ones (Not a) h = h
few-ones (Sum a) h = h
few-ones (Rel t s xs) h = h
few-ones (Eq a b) h = h
few-ones (Pred p s xs) h = h

pub few-Sum : (body : U) → ones body ≤ 1 → HasFewOnes (u.Sum body)
unfolding HasFewOnes ones constructors
few-Sum body h = h

-- ---- a factor that is no 1, no product and no sum
pub record IsBare (w : U) : Type 0 where
  pub none : ones w ≡ 0
  pub few : HasFewOnes w

pub bare-Rel : (table : ℕ) (values : List Val) → IsBare (u.Rel table values)
unfolding HasFewOnes ones constructors
bare-Rel table values = record { none = refl; few = omega arith }

pub bare-Eq : (a b : Val) → IsBare (u.Eq a b)
unfolding HasFewOnes ones constructors
bare-Eq a b = record { none = refl; few = omega arith }

pub bare-Pred : (symbol : ℕ) (values : List Val) → IsBare (u.Pred symbol values)
unfolding HasFewOnes ones constructors
bare-Pred symbol values = record { none = refl; few = omega arith }

pub bare-Not : (a : U) → IsBare (u.Not a)
unfolding HasFewOnes ones constructors
bare-Not a = record { none = refl; few = omega arith }

-- ---- a product of such factors
row-none : (x : U) (rest : List U) → Each IsBare (x ∷ rest) → ones (product_of (x ∷ rest)) ≡ 0
unfolding ones constructors
row-none x [] h = h.0.none
row-none x (y ∷ rest) h = omega (arith, h.0.none, row-none y rest h.1)

pub few-product : (ws : List U) → Each IsBare ws → HasFewOnes (product_of ws)
unfolding HasFewOnes ones constructors
few-product [] h = omega arith
few-product (x ∷ []) h = h.0.few
few-product (x ∷ y ∷ rest) h = omega (arith, h.0.none, row-none y rest h.1)

-- ---- with other names and places, and under sums
module _ (f g : ℕ → ℕ → Val) where
  ones-mapped : (k : ℕ) (w : U) → ones (mapped f g k w) ≡ ones w
  unfolding mapped ones
  ones-mapped k Zero = refl
  ones-mapped k One = refl
  ones-mapped k (Add a b) = refl
  ones-mapped k (Mul a b) = omega (arith, ones-mapped k a, ones-mapped k b)
  ones-mapped k (Squash a) = refl
  ones-mapped k (Not a) = refl
  ones-mapped k (Sum a) = ones-mapped (k + 1) a
  ones-mapped k (Rel t s xs) = refl
  ones-mapped k (Eq a b) = refl
  ones-mapped k (Pred p s xs) = refl

  pub few-mapped : (k : ℕ) (w : U) → HasFewOnes w → HasFewOnes (mapped f g k w)
  unfolding mapped HasFewOnes ones
  few-mapped k Zero h = h
  few-mapped k One h = h
  few-mapped k (Add a b) h = (few-mapped k a h.0, few-mapped k b h.1)
  few-mapped k (Mul a b) h = omega (arith, h, ones-mapped k a, ones-mapped k b)
  few-mapped k (Squash a) h = h
  few-mapped k (Not a) h = h
  few-mapped k (Sum a) h = omega (arith, h, ones-mapped (k + 1) a)
  few-mapped k (Rel t s xs) h = h
  few-mapped k (Eq a b) h = h
  few-mapped k (Pred p s xs) h = h

few-under : (n : ℕ) (w : U) → ones w ≤ 1 → ones (sums n w) ≤ 1
unfolding ones constructors
few-under zero w h = h
few-under (suc n) w h = few-under n w h

pub few-sums : (n : ℕ) (w : U) → HasFewOnes w → HasFewOnes (sums n w)
few-sums zero w h = h
few-sums (suc n) w h = few-Sum (sums n w) (few-under n w (few-ones w h))
