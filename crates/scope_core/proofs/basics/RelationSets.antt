-- Sets of relations by their bits.
use Rattle.std.proofs.Common.{◌≡◌, ◌<◌, ◌≤◌, ◌%◌, ℕ, Bool, true, false, cond, not, nat_eq, refl, ap, sym, subst, ◌∙◌, arith}
use Rattle.std.specs.Prelude.{◌&&◌, ◌||◌}
use Rattle.std.specs.Bool.{Decides}
use Rattle.std.specs.Int.{bit_at, w128}
use Rattle.std.specs.Int.RustNames.{bit_and, bit_or}
use Rattle.std.proofs.lemmas.Bool.Decides.{nat_tests}
use Rattle.std.proofs.lemmas.Nat.Bits.{bit_at-lt, bit_at-zero, bit_at_and, bit_at_or, bit_at_set_other, bit_at_set_same, same_from_bits}
use Rattle.scope_core.specs.declared.relation_set.RelationSet.{RelationSet}
use Rattle.scope_core.specs.RelationSets.{Has, Includes, bit_of, empty, has_number, is_low, meet_sets, same_set, union_of, with_number}
use Rattle.scope_core.proofs.basics.Booleans.{and-first, and-second, no, or-left, or-right}

-- ---- tests on numbers
equal : (n : ℕ) → nat_eq n n ≡ true
equal n = grind (arith, nat_tests)

same : (n k : ℕ) → nat_eq n k ≡ true → n ≡ k
same n k h = grind (arith, nat_tests, h)

-- ---- one bit
or-first : (a b bit : ℕ) → bit_at a bit ≡ 1 → bit_at (bit_or a b) bit ≡ 1
or-first a b bit h = omega (arith, bit_at_or a b bit, bit_at-lt a bit, bit_at-lt b bit)

or-second : (a b bit : ℕ) → bit_at b bit ≡ 1 → bit_at (bit_or a b) bit ≡ 1
or-second a b bit h = omega (arith, bit_at_or a b bit, bit_at-lt a bit, bit_at-lt b bit)

and-both : (a b bit : ℕ) → bit_at a bit ≡ 1 → bit_at b bit ≡ 1 → bit_and a b ≡ 0 → ⊥
and-both a b bit h g none =
    let nothing : bit_at (bit_and a b) bit ≡ 0 = ap (λ n. bit_at n bit) none ∙ bit_at-zero bit in
    omega (arith, bit_at_and a b bit)

-- ---- one relation more
-- by the half that it stands in
abbrev placed : RelationSet → ℕ → Bool → RelationSet
placed set bit low = record { low = cond low (bit_or set.low bit) set.low; high = cond low set.high (bit_or set.high bit) }

abbrev found : RelationSet → ℕ → Bool → Bool
found set bit low = cond low (not (nat_eq (bit_and set.low bit) 0)) (not (nat_eq (bit_and set.high bit) 0))

pub grows-low : (set : RelationSet) (more : ℕ) → Includes (record { low = bit_or set.low more; high = set.high }) set
grows-low set more true bit h = or-first set.low more bit h
grows-low set more false bit h = h

pub grows-high : (set : RelationSet) (more : ℕ) → Includes (record { low = set.low; high = bit_or set.high more }) set
grows-high set more true bit h = h
grows-high set more false bit h = or-first set.high more bit h

pub own-low : (set : RelationSet) (number : ℕ) → number % 256 < 128
    → Has (record { low = bit_or set.low (bit_of number); high = set.high }) (is_low number) (number % 128)
own-low set number h =
    let low : is_low number ≡ true = grind (arith, nat_tests) in
    subst (λ half. Has (record { low = bit_or set.low (bit_of number); high = set.high }) half (number % 128)) (sym low)
    (bit_at_set_same w128 set.low (number % 128) (omega arith))

pub own-high : (set : RelationSet) (number : ℕ) → 128 ≤ number % 256
    → Has (record { low = set.low; high = bit_or set.high (bit_of number) }) (is_low number) (number % 128)
own-high set number h =
    let high : is_low number ≡ false = grind (arith, nat_tests) in
    subst (λ half. Has (record { low = set.low; high = bit_or set.high (bit_of number) }) half (number % 128)) (sym high)
    (bit_at_set_same w128 set.high (number % 128) (omega arith))

pub with-low : (set : RelationSet) (number : ℕ) → number % 256 < 128
    → record { low = bit_or set.low (bit_of number); high = set.high } ≡ with_number set number
with-low set number h =
    let low : is_low number ≡ true = grind (arith, nat_tests) in
    sym (ap (λ b. placed set (bit_of number) b) low)

pub with-high : (set : RelationSet) (number : ℕ) → 128 ≤ number % 256
    → record { low = set.low; high = bit_or set.high (bit_of number) } ≡ with_number set number
with-high set number h =
    let high : is_low number ≡ false = grind (arith, nat_tests) in
    sym (ap (λ b. placed set (bit_of number) b) high)

pub has-low : (set : RelationSet) (number : ℕ) → number % 256 < 128 → not (nat_eq (bit_and set.low (bit_of number)) 0) ≡ has_number set number
has-low set number h =
    let low : is_low number ≡ true = grind (arith, nat_tests) in
    sym (ap (λ b. found set (bit_of number) b) low)

pub has-high : (set : RelationSet) (number : ℕ) → 128 ≤ number % 256 → not (nat_eq (bit_and set.high (bit_of number)) 0) ≡ has_number set number
has-high set number h =
    let high : is_low number ≡ false = grind (arith, nat_tests) in
    sym (ap (λ b. found set (bit_of number) b) high)

-- ---- two sets
abbrev joined : RelationSet → RelationSet → RelationSet
joined a b = record { low = bit_or a.low b.low; high = bit_or a.high b.high }

pub joined-first : (a b : RelationSet) → Includes (joined a b) a
joined-first a b true bit h = or-first a.low b.low bit h
joined-first a b false bit h = or-first a.high b.high bit h

pub joined-second : (a b : RelationSet) → Includes (joined a b) b
joined-second a b true bit h = or-second a.low b.low bit h
joined-second a b false bit h = or-second a.high b.high bit h

differs : (n : ℕ) → (n ≡ 0 → ⊥) → not (nat_eq n 0) ≡ true
differs n h = grind (arith, nat_tests, h)

pub meets-low : (a b : RelationSet) → (bit_and a.low b.low ≡ 0 → ⊥) → not (nat_eq (bit_and a.low b.low) 0) ≡ meet_sets a b
meets-low a b some =
    let there = differs (bit_and a.low b.low) some in
    there ∙ sym (ap (λ m. m || not (nat_eq (bit_and a.high b.high) 0)) there)

pub meets-high : (a b : RelationSet) → bit_and a.low b.low ≡ 0 → not (nat_eq (bit_and a.high b.high) 0) ≡ meet_sets a b
meets-high a b none = sym (ap (λ n. not (nat_eq n 0) || not (nat_eq (bit_and a.high b.high) 0)) none)

-- ---- sets that do not meet
none : (n : ℕ) → not (nat_eq n 0) ≡ false → n ≡ 0
none n h = grind (arith, nat_tests, h)

-- a number that has no bit of two others together has none of either
apart-or : (d a b : ℕ) → bit_and d (bit_or a b) ≡ 0 → (bit_and d a ≡ 0) × (bit_and d b ≡ 0)
apart-or d a b h = (
  same_from_bits (bit_and d a) 0 (λ i.
      omega (arith, nothing i, bit_at-zero i, bit_at_and d (bit_or a b) i, bit_at_or a b i, bit_at_and d a i, bit_at-lt a i, bit_at-lt b i, bit_at-lt d i)),
  same_from_bits (bit_and d b) 0 (λ i.
      omega (arith, nothing i, bit_at-zero i, bit_at_and d (bit_or a b) i, bit_at_or a b i, bit_at_and d b i, bit_at-lt a i, bit_at-lt b i, bit_at-lt d i)),
)
  where
    nothing : (i : ℕ) → bit_at (bit_and d (bit_or a b)) i ≡ 0
    nothing i = ap (λ n. bit_at n i) h ∙ bit_at-zero i

apart-halves : (a b : RelationSet) → meet_sets a b ≡ false → (bit_and a.low b.low ≡ 0) × (bit_and a.high b.high ≡ 0)
apart-halves a b h = (none (bit_and a.low b.low) (or-left _ _ h), none (bit_and a.high b.high) (or-right (not (nat_eq (bit_and a.low b.low) 0)) _ h))

from-halves : (a b : RelationSet) → bit_and a.low b.low ≡ 0 → bit_and a.high b.high ≡ 0 → meet_sets a b ≡ false
from-halves a b low high = λ i. not (nat_eq (low i) 0) || not (nat_eq (high i) 0)

pub apart-union : (set a b : RelationSet) → meet_sets set (union_of a b) ≡ false → (meet_sets set a ≡ false) × (meet_sets set b ≡ false)
apart-union set a b h =
    let halves = apart-halves set (union_of a b) h in
    let low = apart-or set.low a.low b.low halves.0 in
    let high = apart-or set.high a.high b.high halves.1 in
    (from-halves set a low.0 high.0, from-halves set b low.1 high.1)

apart-placed : (set a : RelationSet) (bit : ℕ) (low : Bool) → meet_sets set (placed a bit low) ≡ false → (meet_sets set a ≡ false) × (found set bit low ≡ false)
apart-placed set a bit true h =
    let halves = apart-halves set (placed a bit true) h in
    let low = apart-or set.low a.low bit halves.0 in
    (from-halves set a low.0 halves.1, ap (λ n. not (nat_eq n 0)) low.1)
apart-placed set a bit false h =
    let halves = apart-halves set (placed a bit false) h in
    let high = apart-or set.high a.high bit halves.1 in
    (from-halves set a halves.0 high.0, ap (λ n. not (nat_eq n 0)) high.1)

pub apart-with : (set a : RelationSet) (number : ℕ) → meet_sets set (with_number a number) ≡ false → (meet_sets set a ≡ false) × (has_number set number ≡ false)
apart-with set a number h = apart-placed set a (bit_of number) (is_low number) h

-- ---- whether a set has a relation
own-bit : (number : ℕ) → bit_at (bit_of number) (number % 128) ≡ 1
own-bit number =
    omega (arith, bit_at_set_same w128 0 (number % 128) (omega arith), bit_at_or 0 (bit_of number) (number % 128), bit_at-zero (number % 128), bit_at-lt (bit_of number) (number % 128))

no-other : (number i : ℕ) → (i ≡ number % 128 → ⊥) → bit_at (bit_of number) i ≡ 0
no-other number i h =
    omega (arith, bit_at_set_other w128 0 (number % 128) (omega arith) i h, bit_at_or 0 (bit_of number) i, bit_at-zero i, bit_at-lt (bit_of number) i)

-- the bit of a relation is set
and-own : (n number : ℕ) → bit_at n (number % 128) ≡ 1 → not (nat_eq (bit_and n (bit_of number)) 0) ≡ true
and-own n number h = differs (bit_and n (bit_of number)) (and-both n (bit_of number) (number % 128) h (own-bit number))

own-and : (n number : ℕ) → not (nat_eq (bit_and n (bit_of number)) 0) ≡ true → bit_at n (number % 128) ≡ 1
own-and n number h = by (nat_eq (bit_at n (number % 128)) 1) refl
  where
    by : (b : Bool) → nat_eq (bit_at n (number % 128)) 1 ≡ b → bit_at n (number % 128) ≡ 1
    by true e = same _ _ e
    by false e =
        let unset : bit_at n (number % 128) ≡ 0 = let l = bit_at-lt n (number % 128) in grind (arith, nat_tests, e, l) in
        let nothing : bit_and n (bit_of number) ≡ 0 = same_from_bits (bit_and n (bit_of number)) 0 (λ i. at i (nat_eq i (number % 128)) refl unset) in
        absurd (no (sym h ∙ ap (λ k. not (nat_eq k 0)) nothing))
      where
        at : (i : ℕ) (b : Bool) → nat_eq i (number % 128) ≡ b → bit_at n (number % 128) ≡ 0 → bit_at (bit_and n (bit_of number)) i ≡ bit_at 0 i
        at i true e unset =
            let here : i ≡ number % 128 = same _ _ e in
            let zero : bit_at n i ≡ 0 = ap (λ k. bit_at n k) here ∙ unset in
            omega (arith, bit_at_and n (bit_of number) i, bit_at-zero i, zero)
        at i false e unset = omega (arith, bit_at_and n (bit_of number) i, bit_at-zero i, no-other number i (λ h. no (sym (equal-at i h) ∙ e)))
          where
            equal-at : (i : ℕ) → i ≡ number % 128 → nat_eq i (number % 128) ≡ true
            equal-at i h = grind (arith, nat_tests, h)

-- by the half where it stands
has-found : (set : RelationSet) (number : ℕ) (low : Bool) → Has set low (number % 128) → found set (bit_of number) low ≡ true
has-found set number true h = and-own set.low number h
has-found set number false h = and-own set.high number h

found-has : (set : RelationSet) (number : ℕ) (low : Bool) → found set (bit_of number) low ≡ true → Has set low (number % 128)
found-has set number true h = own-and set.low number h
found-has set number false h = own-and set.high number h

pub has_number-decides : (set : RelationSet) (number : ℕ) → Decides (has_number set number) (Has set (is_low number) (number % 128))
has_number-decides set number = (found-has set number (is_low number), has-found set number (is_low number))

pub has_number-grows : (set more : RelationSet) (number : ℕ) → Includes more set → has_number set number ≡ true → has_number more number ≡ true
has_number-grows set more number includes h =
    has-found more number (is_low number) (includes (is_low number) (number % 128) (found-has set number (is_low number) h))

-- ---- equality
pub same_set-self : (a : RelationSet) → same_set a a ≡ true
same_set-self a = λ i. equal a.low i && equal a.high i

pub same_set-is : (a b : RelationSet) → same_set a b ≡ true → a ≡ b
same_set-is a b h =
    let low : a.low ≡ b.low = same _ _ (and-first _ _ h) in
    let high : a.high ≡ b.high = same _ _ (and-second (nat_eq a.low b.low) _ h) in
    λ i. record { low = low i; high = high i }

-- ---- unions of several
or-assoc : (a b c : ℕ) → bit_or (bit_or a b) c ≡ bit_or a (bit_or b c)
or-assoc a b c = same_from_bits _ _ (λ i. omega (arith, bit_at_or (bit_or a b) c i, bit_at_or a b i, bit_at_or a (bit_or b c) i, bit_at_or b c i))

or-nothing : (a : ℕ) → bit_or a 0 ≡ a
or-nothing a = same_from_bits _ _ (λ i. omega (arith, bit_at_or a 0 i, bit_at-zero i))

pub union-assoc : (a b c : RelationSet) → union_of (union_of a b) c ≡ union_of a (union_of b c)
union-assoc a b c = λ i. record { low = or-assoc a.low b.low c.low i; high = or-assoc a.high b.high c.high i }

pub union-empty : (a : RelationSet) → union_of a empty ≡ a
union-empty a = λ i. record { low = or-nothing a.low i; high = or-nothing a.high i }
