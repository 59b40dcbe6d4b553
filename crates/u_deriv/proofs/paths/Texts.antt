-- How long the texts of numbers, runs and paths are: two numbers that are added have no more digits than both, so two runs that become one
-- have no longer a text.
use Rattle.std.proofs.Common.{◌≡◌, ℕ, zero, suc, ◌+◌, ◌-◌, ◌/◌, ◌%◌, ◌<◌, ◌≤◌, Bool, true, false, List, [], ◌∷◌, ◌++◌, length, take, Option, Some, None, refl, ap, arith, length-append, inl, inr}
use Rattle.std.specs.Prelude.{◌⊎◌, ◌==◌, nat_lt, if◌then◌else◌}
use Rattle.std.specs.Fmt.{decimal, digit_glyph, digits, digits_onto}
use Rattle.std.specs.List.{flat_map}
use Rattle.std.proofs.lemmas.Bool.Decides.{nat_tests}
use Rattle.u_deriv.specs.declared.run.Run.{Run}
use Rattle.u_deriv.specs.declared.run.Run.TheVariants.{Left, Right, Inside}
use Rattle.u_deriv.specs.Normal.{ended_by, joined, joined_last, pushed}
use Rattle.u_deriv.specs.StepText.{counted, run_text}
use Rattle.u_deriv.proofs.paths.Runs.{front_and_last, last_joined}

-- ---- digits
abbrev digits_long : ℕ → ℕ → ℕ
digits_long k n = length (digits_onto k 10 false n [])

onto-next : (b : Bool) (k m digit : ℕ) (rest : List ℕ) → ((tail : List ℕ) → length (digits_onto k 10 false m tail) ≡ digits_long k m + length tail)
    → length (if b then digit ∷ rest else digits_onto k 10 false m (digit ∷ rest)) ≡ length (if b then digit ∷ [] else digits_onto k 10 false m (digit ∷ [])) + length rest
onto-next true k m digit rest long = omega arith
onto-next false k m digit rest long = omega (arith, long (digit ∷ rest), long (digit ∷ []))

onto-long : (k n : ℕ) (rest : List ℕ) → length (digits_onto k 10 false n rest) ≡ digits_long k n + length rest
onto-long zero n rest = omega arith
onto-long (suc k) n rest = onto-next (n / 10 == 0) k (n / 10) (digit_glyph false (n % 10)) rest (onto-long k (n / 10))

one-digit : (k n : ℕ) → n < 10 → digits_long (suc k) n ≡ 1
one-digit k n small = grind (arith, nat_tests)

more-digits : (k n : ℕ) → 10 ≤ n → digits_long (suc k) n ≡ 1 + digits_long k (n / 10)
more-digits k n large = grind (arith, nat_tests, onto-long)

-- a number has one digit or more
record HasOne (k n : ℕ) : Type 0 where
  small : n < 10
  one : digits_long (suc k) n ≡ 1

record HasMore (k n : ℕ) : Type 0 where
  large : 10 ≤ n
  more : digits_long (suc k) n ≡ 1 + digits_long k (n / 10)

one-or-more : (k n : ℕ) → HasOne k n ⊎ HasMore k n
one-or-more k n = by_cases (nat_lt n 10) refl
  where
    by_cases : (b : Bool) → nat_lt n 10 ≡ b → HasOne k n ⊎ HasMore k n
    by_cases true e = let small : n < 10 = grind (arith, nat_tests) in inl (record { small = small; one = one-digit k n small })
    by_cases false e = let large : 10 ≤ n = grind (arith, nat_tests) in inr (record { large = large; more = more-digits k n large })

no-fewer : (k m n : ℕ) → m ≤ n → (m / 10 ≤ n / 10 → digits_long k (m / 10) ≤ digits_long k (n / 10)) → HasOne k m ⊎ HasMore k m → HasOne k n ⊎ HasMore k n → digits_long (suc k) m ≤ digits_long (suc k) n
no-fewer k m n le rest (inl a) (inl b) = omega (arith, a.one, b.one)
no-fewer k m n le rest (inl a) (inr b) = omega (arith, a.one, b.more)
no-fewer k m n le rest (inr a) (inl b) = absurd (omega (arith, a.large, b.small, le))
no-fewer k m n le rest (inr a) (inr b) = omega (arith, a.more, b.more, rest (omega (arith, le)))

fewer : (k m n : ℕ) → m ≤ n → digits_long k m ≤ digits_long k n
fewer zero m n le = omega arith
fewer (suc k) m n le = no-fewer k m n le (λ less. fewer k (m / 10) (n / 10) less) (one-or-more k m) (one-or-more k n)

no-digits : (k : ℕ) → digits_long k 0 ≤ 1
no-digits zero = omega arith
no-digits (suc k) = omega (arith, one-digit k 0 (omega arith))

a-digit : (k : ℕ) → digits_long k 1 ≤ 1
a-digit zero = omega arith
a-digit (suc k) = omega (arith, one-digit k 1 (omega arith))

-- with one to carry
carried : (k m n : ℕ) → ((s t : ℕ) → digits_long k (s + t + 1) ≤ digits_long k s + digits_long k t) → HasOne k m ⊎ HasMore k m → HasOne k n ⊎ HasMore k n → HasOne k (m + n + 1) ⊎ HasMore k (m + n + 1)
    → digits_long (suc k) (m + n + 1) ≤ digits_long (suc k) m + digits_long (suc k) n
carried k m n adds (inl a) (inl b) (inl c) = omega (arith, a.one, b.one, c.one)
carried k m n adds (inl a) (inl b) (inr c) = omega (arith, a.one, b.one, c.more, fewer k ((m + n + 1) / 10) 1 (omega (arith, a.small, b.small)), a-digit k)
carried k m n adds (inl a) (inr b) (inl c) = omega (arith, a.one, b.more, c.one)
carried k m n adds (inl a) (inr b) (inr c) =
    omega (arith, a.one, b.more, c.more, fewer k ((m + n + 1) / 10) (0 + n / 10 + 1) (omega (arith, a.small)), adds 0 (n / 10), no-digits k)
carried k m n adds (inr a) (inl b) (inl c) = omega (arith, a.more, b.one, c.one)
carried k m n adds (inr a) (inl b) (inr c) =
    omega (arith, a.more, b.one, c.more, fewer k ((m + n + 1) / 10) (m / 10 + 0 + 1) (omega (arith, b.small)), adds (m / 10) 0, no-digits k)
carried k m n adds (inr a) (inr b) (inl c) = omega (arith, a.more, b.more, c.one)
carried k m n adds (inr a) (inr b) (inr c) =
    omega (arith, a.more, b.more, c.more, fewer k ((m + n + 1) / 10) (m / 10 + n / 10 + 1) (omega arith), adds (m / 10) (n / 10))

added : (k m n : ℕ) → digits_long k (m + n + 1) ≤ digits_long k m + digits_long k n
added zero m n = omega arith
added (suc k) m n = carried k m n (λ s t. added k s t) (one-or-more k m) (one-or-more k n) (one-or-more k (m + n + 1))

number-long : (n : ℕ) → length (decimal n) ≡ digits_long 64 n
unfolding digits
number-long n = refl

sum-long : (m n : ℕ) → length (decimal (m + n)) ≤ length (decimal m) + length (decimal n)
sum-long m n = omega (arith, number-long (m + n), number-long m, number-long n, fewer 64 (m + n) (m + n + 1) (omega arith), added 64 m n)

next-long : (n : ℕ) → length (decimal (suc n)) ≤ length (decimal n) + 1
next-long n = omega (arith, number-long (suc n), number-long n, ap (digits_long 64) (plus-one n), added 64 n 0, one-digit 63 0 (omega arith))
  where
    plus-one : (n : ℕ) → suc n ≡ n + 0 + 1
    plus-one n = omega arith

-- ---- runs
no-longer : (n : ℕ) → length (counted n) ≤ length (decimal n)
no-longer zero = omega arith
no-longer (suc zero) = omega arith
no-longer (suc (suc n)) = omega arith

one-more : (n : ℕ) → length (counted (suc n)) ≤ 1 + length (counted n)
one-more zero = omega arith
one-more (suc zero) = omega (arith, no-longer 2, number-long 2, one-digit 63 2 (omega arith))
one-more (suc (suc n)) = omega (arith, no-longer (suc (suc (suc n))), next-long (suc (suc n)))

-- a run of one turn has no digits
counted-long : (m n : ℕ) → length (counted (m + n)) ≤ 1 + length (counted m) + length (counted n)
counted-long zero n = let e : 0 + n ≡ n = omega arith in omega (arith, ap (λ (k : ℕ). length (counted k)) e)
counted-long (suc zero) n = let e : suc zero + n ≡ suc n = omega arith in omega (arith, ap (λ (k : ℕ). length (counted k)) e, one-more n)
counted-long (suc (suc m)) zero = let e : suc (suc m) + 0 ≡ suc (suc m) = omega arith in omega (arith, ap (λ (k : ℕ). length (counted k)) e)
counted-long (suc (suc m)) (suc zero) =
    let e : suc (suc m) + suc zero ≡ suc (suc (suc m)) = omega arith in omega (arith, ap (λ (k : ℕ). length (counted k)) e, one-more (suc (suc m)))
counted-long (suc (suc m)) (suc (suc n)) = omega (arith, no-longer (suc (suc m) + suc (suc n)), sum-long (suc (suc m)) (suc (suc n)))

joined-long : (first next both : Run) → joined first next ≡ Some both → length (run_text both) ≤ length (run_text first) + length (run_text next)
joined-long (Left m) (Left n) both e = let is : both ≡ Left (m + n) = cc in omega (arith, ap (λ (r : Run). length (run_text r)) is, counted-long m n)
joined-long (Right m) (Right n) both e = let is : both ≡ Right (m + n) = cc in omega (arith, ap (λ (r : Run). length (run_text r)) is, counted-long m n)
joined-long (Inside m) (Inside n) both e = let is : both ≡ Inside (m + n) = cc in omega (arith, ap (λ (r : Run). length (run_text r)) is, counted-long m n)
joined-long _ _ both e = absurd cc

-- ---- paths
path-appended : (xs ys : List Run) → length (flat_map run_text (xs ++ ys)) ≡ length (flat_map run_text xs) + length (flat_map run_text ys)
path-appended [] ys = omega arith
path-appended (x ∷ xs) ys = omega (arith, length-append (run_text x) (flat_map run_text (xs ++ ys)), path-appended xs ys, length-append (run_text x) (flat_map run_text xs))

path-ended : (xs : List Run) (x : Run) → length (flat_map run_text (xs ++ x ∷ [])) ≡ length (flat_map run_text xs) + length (run_text x)
path-ended xs x = omega (arith, path-appended xs (x ∷ []), length-append (run_text x) [])

pub pushed-long : (runs : List Run) (run : Run) → length (flat_map run_text (pushed runs run)) ≤ length (flat_map run_text runs) + length (run_text run)
pushed-long runs run = by_cases (joined_last runs run) refl
  where
    by_cases : (both : Option Run) → joined_last runs run ≡ both → length (flat_map run_text (ended_by runs run both)) ≤ length (flat_map run_text runs) + length (run_text run)
    by_cases None e = omega (arith, path-ended runs run)
    by_cases (Some both) e =
        let last = last_joined runs run both e in
        omega (
          arith,
          path-ended (take (length runs - 1) runs) both,
          joined-long last.last run both last.joins,
          ap (λ (rs : List Run). length (flat_map run_text rs)) (front_and_last runs last.last last.is_last),
          path-ended (take (length runs - 1) runs) last.last,
        )

pub ruleset laws = (pushed-long)
