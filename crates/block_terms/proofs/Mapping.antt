-- Factors of products and of terms whose names are closed.
use Rattle.std.proofs.Common.{◌≡◌, ℕ, zero, suc, ◌+◌, List, [], ◌∷◌, ◌++◌, refl, ap, sym, ◌∙◌, arith}
use Rattle.std.proofs.lemmas.List.{append-nil}
use Rattle.u_terms.specs.Syntax.{U, Zero, One, Add, Mul, Squash, Not, Sum, Rel, Eq, Pred, Val, Vals, NoVals, ValThen, constructors}
use Rattle.u_terms.specs.Binding.{mapped, mapped_value, mapped_row, sums}
use Rattle.u_terms.specs.Products.{product_of}
use Rattle.term_shapes.specs.Factors.{Factor, atom, equality, difference, truth, falsehood, other, listed, negated, factors, sum_count, under_sums}
use Rattle.term_shapes.proofs.Reading.{factors-One, factors-Mul}

-- ---- products
abbrev pub all_factors : List U → List Factor
all_factors [] = []
all_factors (w ∷ ws) = factors w ++ all_factors ws

pub factors-product : (ws : List U) → factors (product_of ws) ≡ all_factors ws
factors-product [] = factors-One
factors-product (w ∷ []) = sym (append-nil (factors w))
factors-product (w ∷ v ∷ ws) = factors-Mul w (product_of (v ∷ ws)) ∙ ap (λ (l : List Factor). factors w ++ l) (factors-product (v ∷ ws))

-- ---- values put for others
module _ (at_place at_name : ℕ → ℕ → Val) where
  abbrev pub values_at : ℕ → List Val → List Val
  values_at k [] = []
  values_at k (v ∷ vs) = mapped_value at_place at_name k v ∷ values_at k vs

  abbrev pub factor_at : ℕ → Factor → Factor
  factor_at k (atom table vs) = atom table (values_at k vs)
  factor_at k (equality a b) = equality (mapped_value at_place at_name k a) (mapped_value at_place at_name k b)
  factor_at k (difference a b) = difference (mapped_value at_place at_name k a) (mapped_value at_place at_name k b)
  factor_at k (truth symbol vs) = truth symbol (values_at k vs)
  factor_at k (falsehood symbol vs) = falsehood symbol (values_at k vs)
  factor_at k other = other

  abbrev pub factors_at : ℕ → List Factor → List Factor
  factors_at k [] = []
  factors_at k (f ∷ fs) = factor_at k f ∷ factors_at k fs

  pub factors_at-append : (k : ℕ) (fs gs : List Factor) → factors_at k (fs ++ gs) ≡ factors_at k fs ++ factors_at k gs
  factors_at-append k [] gs = refl
  factors_at-append k (f ∷ fs) gs = ap (λ (l : List Factor). factor_at k f ∷ l) (factors_at-append k fs gs)

  listed-mapped : {m : _} (k : ℕ) (vs : Vals m) → listed (mapped_row at_place at_name k vs) ≡ values_at k (listed vs)
  unfolding mapped
  listed-mapped k NoVals = refl
  listed-mapped k (ValThen v vs) = ap (λ (l : List Val). mapped_value at_place at_name k v ∷ l) (listed-mapped k vs)

  negated-mapped : (k : ℕ) (w : U) → negated (mapped at_place at_name k w) ≡ factor_at k (negated w)
  unfolding mapped negated
  negated-mapped k Zero = refl
  negated-mapped k One = refl
  negated-mapped k (Add a b) = refl
  negated-mapped k (Mul a b) = refl
  negated-mapped k (Squash a) = refl
  negated-mapped k (Not a) = refl
  negated-mapped k (Sum a) = refl
  negated-mapped k (Rel t s vs) = refl
  negated-mapped k (Eq a b) = refl
  negated-mapped k (Pred p s vs) = ap (falsehood p) (listed-mapped k vs)

  pub factors-mapped : (k : ℕ) (w : U) → factors (mapped at_place at_name k w) ≡ factors_at k (factors w)
  unfolding mapped factors
  factors-mapped k Zero = refl
  factors-mapped k One = refl
  factors-mapped k (Add a b) = refl
  factors-mapped k (Mul a b) =
      ap (λ (l : List Factor). l ++ factors (mapped at_place at_name k b)) (factors-mapped k a)
      ∙ ap (λ (l : List Factor). factors_at k (factors a) ++ l) (factors-mapped k b)
      ∙ sym (factors_at-append k (factors a) (factors b))
  factors-mapped k (Squash a) = refl
  factors-mapped k (Not a) = ap (λ (f : Factor). f ∷ []) (negated-mapped k a)
  factors-mapped k (Sum a) = refl
  factors-mapped k (Rel t s vs) = ap (λ (l : List Val). atom t l ∷ []) (listed-mapped k vs)
  factors-mapped k (Eq a b) = refl
  factors-mapped k (Pred p s vs) = ap (λ (l : List Val). truth p l ∷ []) (listed-mapped k vs)

-- ---- sums around a term that is none
pub sums-count : (n : ℕ) (w : U) → sum_count (sums n w) ≡ n + sum_count w
unfolding sum_count constructors
sums-count zero w = omega arith
sums-count (suc n) w = let k = sums-count n w in omega (arith, k)

pub sums-under : (n : ℕ) (w : U) → under_sums (sums n w) ≡ under_sums w
unfolding under_sums constructors
sums-under zero w = refl
sums-under (suc n) w = sums-under n w
