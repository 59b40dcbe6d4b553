-- Squash and negation.
use Rattle.std.proofs.Common.{◌≡◌, ℕ, zero, suc, ◌+◌, ◌*◌, ◌<◌, ◌≤◌, refl, arith, inl, inr}
use Rattle.std.specs.Prelude.{◌⊎◌}
use Rattle.std.proofs.lemmas.Bool.{cases_Bool}
use Rattle.data_model.specs.Numbers.{sum_below, one_if, squash, negate}
use Rattle.data_model.proofs.Sums.{sum_below-none, sum_below-part}

pub squash_tells : (x : ℕ) → ((x ≡ 0) × (squash x ≡ 0)) ⊎ ((0 < x) × (squash x ≡ 1))
squash_tells zero = inl (refl, refl)
squash_tells (suc m) = inr (omega arith, refl)

pub negate_tells : (x : ℕ) → ((x ≡ 0) × (negate x ≡ 1)) ⊎ ((0 < x) × (negate x ≡ 0))
negate_tells zero = inl (refl, refl)
negate_tells (suc m) = inr (omega arith, refl)

pub product_tells : (x y : ℕ) → ((x ≡ 0) × (x * y ≡ 0)) ⊎ (((y ≡ 0) × (x * y ≡ 0)) ⊎ ((0 < x) × (0 < y) × (0 < x * y)))
product_tells zero y = inl (refl, omega arith)
product_tells (suc x) zero = inr (inl (refl, omega arith))
product_tells (suc x) (suc y) = inr (inr (omega arith, omega arith, grind arith))

pub ruleset signs = (squash_tells, negate_tells, product_tells)

pub sq_one : (x : ℕ) → squash (1 + x) ≡ 1
sq_one x = grind (arith, signs)

pub sq_add : (x y : ℕ) → squash (squash x + y) ≡ squash (x + y)
sq_add x y = grind (arith, signs)

pub sq_mul : (x y : ℕ) → squash x * squash y ≡ squash (x * y)
sq_mul x y = grind (arith, signs)

pub sq_dup : (x : ℕ) → squash x * squash x ≡ squash x
sq_dup x = grind (arith, signs)

pub sq_abs : (x : ℕ) → x * squash x ≡ x
sq_abs x = grind (arith, signs)

pub sq_fix : (x : ℕ) → x * x ≡ x → squash x ≡ x
sq_fix zero h = refl
sq_fix (suc m) h = let e : suc m * suc m ≡ suc m = h in omega arith

pub sq_part : (x y : ℕ) → squash x * squash (x + y) ≡ squash x
sq_part x y = grind (arith, signs)

pub not_mul : (x y : ℕ) → negate (x * y) ≡ squash (negate x + negate y)
not_mul x y = grind (arith, signs)

pub not_add : (x y : ℕ) → negate (x + y) ≡ negate x * negate y
not_add x y = grind (arith, signs)

pub not_sq : (x : ℕ) → negate (squash x) ≡ negate x
not_sq x = grind (arith, signs)

pub sq_not : (x : ℕ) → squash (negate x) ≡ negate x
sq_not x = grind (arith, signs)

pub not_self : (x : ℕ) → x * negate x ≡ 0
not_self x = grind (arith, signs)

pub not_not : (x : ℕ) → negate (negate x) ≡ squash x
not_not x = grind (arith, signs)

pub split : (x : ℕ) → squash x + negate x ≡ 1
split x = grind (arith, signs)

-- a truth is 0 or 1
pub sq_truth : (b : _) → squash (one_if b) ≡ one_if b
sq_truth b = elim (cases_Bool b) [ inl t ↦ rw t refl | inr f ↦ rw f refl ]

pub split_truth : (b : _) → one_if b + negate (one_if b) ≡ 1
split_truth b = elim (cases_Bool b) [ inl t ↦ rw t refl | inr f ↦ rw f refl ]

-- the squash of a product, and of a sum, one of whose parts is known
pub sq_below : (x y : ℕ) → x ≤ y → squash x * squash y ≡ squash x
sq_below x y h = grind (arith, signs)

pub sum_zeros : (n : ℕ) (f : ℕ → ℕ) → sum_below n f ≡ 0 → (v : ℕ) → v < n → f v ≡ 0
sum_zeros n f h v l = omega (arith, sum_below-part n v f l)

pub sum_sq : (n : ℕ) (f : ℕ → ℕ) → squash (sum_below n f) ≡ squash (sum_below n (λ v. squash (f v)))
sum_sq n f = grind (arith, signs, zeros, back)
  where
    zeros : sum_below n f ≡ 0 → sum_below n (λ v. squash (f v)) ≡ 0
    zeros h = sum_below-none n (λ v. squash (f v)) (λ v l. let z : f v ≡ 0 = sum_zeros n f h v l in grind (arith, signs))

    back : sum_below n (λ v. squash (f v)) ≡ 0 → sum_below n f ≡ 0
    back h = sum_below-none n f (λ v l. let z : squash (f v) ≡ 0 = sum_zeros n (λ w. squash (f w)) h v l in grind (arith, signs))
