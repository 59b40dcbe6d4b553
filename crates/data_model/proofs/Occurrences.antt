-- How often a row occurs in what is made of lists of rows.
use Rattle.std.proofs.Common.{◌≡◌, ℕ, zero, suc, ◌+◌, ◌*◌, Bool, true, false, List, [], ◌∷◌, ◌++◌, map, filter, refl, ap, sym, ◌∙◌, arith, inl, inr, cond}
use Rattle.std.specs.Prelude.{min, if◌then◌else◌, nat_eq, ◌||◌, not}
use Rattle.std.proofs.lemmas.Bool.{cases_Bool}
use Rattle.std.proofs.lemmas.Bool.Decides.{nat_tests}
use Rattle.data_model.specs.Numbers.{one_if, squash, negate}
use Rattle.data_model.specs.Rows.{Row, same_row, occurrences, is_among, distinct}
use Rattle.data_model.specs.Counts.{count}
use Rattle.data_model.proofs.Sums.{sum_over}

-- two rows that the test takes for one are one, and a row is taken for itself
pub same_row-is : (r s : Row) → same_row r s ≡ true → r ≡ s
same_row-is [] [] e = refl
same_row-is [] (y ∷ s) e = grind arith
same_row-is (x ∷ r) [] e = grind arith
same_row-is (x ∷ r) (y ∷ s) e = elim (cases_Bool (nat_eq x y)) [
  | inl here ↦ let p : x ≡ y = grind (arith, nat_tests) in
      let q : r ≡ s = same_row-is r s (rw here at e) in λ i. p i ∷ q i
  | inr other ↦ let h : false ≡ true = rw other at e in grind (arith, h)
]

pub occurrences-append : (r : Row) (p q : List Row) → occurrences r (p ++ q) ≡ occurrences r p + occurrences r q
occurrences-append r [] q = omega arith
occurrences-append r (s ∷ p) q = rw (occurrences-append r p q) (omega arith)

occurrences-cond : (r : Row) (b : Bool) (s : Row) (rows : List Row) → occurrences r (cond b (s ∷ rows) rows) ≡ one_if b * one_if (same_row s r) + occurrences r rows
occurrences-cond r true s rows = omega arith
occurrences-cond r false s rows = omega arith

-- of the rows that a test keeps
agree : (p : Row → Bool) (r s : Row) → one_if (p s) * one_if (same_row s r) ≡ one_if (p r) * one_if (same_row s r)
agree p r s = elim (cases_Bool (same_row s r)) [
  | inl here ↦ let e : s ≡ r = same_row-is s r here in rw e refl
  | inr other ↦ rw other (omega arith)
]

pub occurrences-filter : (r : Row) (p : Row → Bool) (rows : List Row) → occurrences r (filter p rows) ≡ one_if (p r) * occurrences r rows
occurrences-filter r p [] = omega arith
occurrences-filter r p (s ∷ rows) = occurrences-cond r (p s) s (filter p rows) ∙ (rw (agree p r s, occurrences-filter r p rows) (omega arith))

pub squash-more : (m : ℕ) → squash (1 + m) ≡ 1
squash-more m = let e : 1 + m ≡ suc m = omega arith in rw e refl

squash-none : (m k : ℕ) → k ≡ 0 + m → squash k ≡ squash m
squash-none m k e = let d : k ≡ m = omega (arith, e) in ap squash d

by_first : (b : Bool) (m : ℕ) → one_if b + one_if (not b) * squash m ≡ squash (one_if b + m)
by_first true m = rw (squash-more m) (omega arith)
by_first false m = rw (squash-none m (0 + m) refl) (omega arith)

pub occurrences-distinct : (r : Row) (rows : List Row) → occurrences r (distinct rows) ≡ squash (occurrences r rows)
occurrences-distinct r [] = refl
occurrences-distinct r (s ∷ rows) =
    ap (λ m. one_if (same_row s r) + m) (occurrences-filter r (λ t. not (same_row s t)) (distinct rows) ∙ ap (λ m. one_if (not (same_row s r)) * m) (occurrences-distinct r rows))
    ∙ by_first (same_row s r) (occurrences r rows)

pub or_squash : (b c : Bool) (m : ℕ) → one_if c ≡ squash m → one_if (b || c) ≡ squash (one_if b + m)
or_squash true c m e = sym (squash-more m)
or_squash false c m e = e ∙ sym (squash-none m (0 + m) refl)

pub one_if-is_among : (r : Row) (rows : List Row) → one_if (is_among r rows) ≡ squash (occurrences r rows)
one_if-is_among r [] = refl
one_if-is_among r (s ∷ rows) = or_squash (same_row s r) (is_among r rows) (occurrences r rows) (one_if-is_among r rows)

pub negate-one_if : (b : Bool) → negate (one_if b) ≡ one_if (not b)
negate-one_if true = refl
negate-one_if false = refl

pub one_if-not : (b : Bool) (m : ℕ) → one_if b ≡ squash m → one_if (not b) ≡ negate m
one_if-not true zero e = grind arith
one_if-not true (suc m) e = refl
one_if-not false zero e = refl
one_if-not false (suc m) e = grind arith

-- where b tells whether there are k at all
pub squash-mul : (b : Bool) (m k : ℕ) → one_if b ≡ squash k → squash (one_if b * m) ≡ squash (m * k)
squash-mul true m zero e = grind arith
squash-mul true zero (suc k) e = let p : 1 * 0 ≡ 0 * suc k = omega arith in ap squash p
squash-mul true (suc m) (suc k) e = let p : suc m * suc k ≡ 1 + (k + m * suc k) = omega arith in let q : 1 * suc m ≡ 1 + m = omega arith in rw (p, q) (squash-more m ∙ sym (squash-more (k + m * suc k)))
squash-mul false m zero e = let p : 0 * m ≡ m * 0 = omega arith in ap squash p
squash-mul false m (suc k) e = grind arith

pub squash-not : (b : Bool) (m k : ℕ) → one_if b ≡ squash k → squash (one_if (not b) * m) ≡ squash m * negate k
squash-not true m zero e = grind arith
squash-not true m (suc k) e = let p : 0 * m ≡ 0 = omega arith in rw p (omega arith)
squash-not false m zero e = let p : 1 * m ≡ m = omega arith in rw p (omega arith)
squash-not false m (suc k) e = grind arith

-- of what a block makes of its combinations
made-cond : {X : Type 0} (r : Row) (g : X → Row) (b : Bool) (c : X) (cs : List X)
    → occurrences r (map g (cond b (c ∷ cs) cs)) ≡ one_if b * one_if (same_row (g c) r) + occurrences r (map g cs)
made-cond r g true c cs = omega arith
made-cond r g false c cs = omega arith

pub occurrences-made : {X : Type 0} (r : Row) (g : X → Row) (p : X → Bool) (cs : List X)
    → occurrences r (map g (filter p cs)) ≡ sum_over (λ c. one_if (p c) * one_if (same_row (g c) r)) cs
occurrences-made r g p [] = refl
occurrences-made r g p (c ∷ cs) = made-cond r g (p c) c (filter p cs) ∙ ap (λ m. one_if (p c) * one_if (same_row (g c) r) + m) (occurrences-made r g p cs)

pub sum_over-filter : {X : Type 0} (F : X → ℕ) (p : X → Bool) (xs : List X) → sum_over F (filter p xs) ≡ sum_over (λ x. one_if (p x) * F x) xs
sum_over-filter F p [] = refl
sum_over-filter F p (x ∷ xs) = over-cond (p x) ∙ ap (λ m. one_if (p x) * F x + m) (sum_over-filter F p xs)
  where
    over-cond : (b : Bool) → sum_over F (cond b (x ∷ filter p xs) (filter p xs)) ≡ one_if b * F x + sum_over F (filter p xs)
    over-cond true = omega arith
    over-cond false = omega arith

pub occurrences-map : {X : Type 0} (r : Row) (g : X → Row) (cs : List X) → occurrences r (map g cs) ≡ sum_over (λ c. one_if (same_row (g c) r)) cs
occurrences-map r g [] = refl
occurrences-map r g (c ∷ cs) = ap (λ m. one_if (same_row (g c) r) + m) (occurrences-map r g cs)

pub occurrences-framed : {X Y : Type 0} (r : Row) (g : Y → Row) (p : Y → Bool) (f : X → Y) (cs : List X)
    → occurrences r (map g (filter p (map f cs))) ≡ sum_over (λ c. one_if (p (f c)) * one_if (same_row (g (f c)) r)) cs
occurrences-framed r g p f [] = refl
occurrences-framed r g p f (c ∷ cs) = made-cond r g (p (f c)) (f c) (filter p (map f cs)) ∙ ap (λ m. one_if (p (f c)) * one_if (same_row (g (f c)) r) + m) (occurrences-framed r g p f cs)

pub count-over : {X : Type 0} (v : ℕ) (f : X → ℕ) (xs : List X) → count v (map f xs) ≡ sum_over (λ x. one_if (nat_eq (f x) v)) xs
count-over v f [] = refl
count-over v f (x ∷ xs) = one-more (nat_eq (f x) v) ∙ ap (λ m. one_if (nat_eq (f x) v) + m) (count-over v f xs)
  where
    one-more : (b : Bool) → (if b then suc (count v (map f xs)) else count v (map f xs)) ≡ one_if b + count v (map f xs)
    one-more true = omega arith
    one-more false = omega arith

pub squash-min : (m : ℕ) → squash m ≡ min m 1
squash-min zero = refl
squash-min (suc m) = omega arith

pub ruleset laws = (occurrences-append, occurrences-filter, occurrences-distinct)
