-- Nested sums: a sum over all rows, and two groups of sums exchanged.
use Rattle.std.proofs.Common.{◌≡◌, ℕ, zero, suc, ◌+◌, ◌-◌, ◌<◌, ◌≤◌, List, [], ◌∷◌, length, get_or, true, false, refl, ap, sym, ◌∙◌, arith, inl, inr}
use Rattle.std.specs.Prelude.{nat_lt}
use Rattle.std.proofs.lemmas.Bool.{cases_lt, lt-ltb, le-ltb}
use Rattle.std.proofs.lemmas.Bool.Decides.{nat_tests}
use Rattle.data_model.specs.Reading.{Reading}
use Rattle.data_model.specs.Database.{Database}
use Rattle.data_model.proofs.Sums.{sum_below-same, sum_rows, sum_rows-same, sum_rows-exchange}
use Rattle.u_terms.specs.Syntax.{U, constructors}
use Rattle.u_terms.specs.Meaning.{meaning, value_meaning}
use Rattle.u_terms.specs.Binding.{sums, same_name}
use Rattle.u_terms.proofs.Meanings.{list_meaning, meaning-Sum, meaning-Bound}
use Rattle.u_terms.proofs.Binding.{meaning-mapped}
use Rattle.u_binder.specs.Changes.{moved, moved_at}
use Rattle.u_rules.specs.Terms.{turned, places, S}

-- ---- places moved
-- q has at its places what p has where they were moved
pub record Moved (a b k : ℕ) (p q : List ℕ) : Type 0 where
  pub each : (i : ℕ) → get_or p (moved a b k i) 0 ≡ get_or q i 0

moved-inside : (a b k v : ℕ) (p q : List ℕ) → Moved a b k p q → Moved a b (k + 1) (v ∷ p) (v ∷ q)
moved-inside a b k v p q h = record { each = go }
  where
    first : moved a b (k + 1) 0 ≡ 0
    first = grind (arith, nat_tests)

    shifted : (j : ℕ) → moved a b (k + 1) (suc j) ≡ suc (moved a b k j)
    shifted j = grind (arith, nat_tests)

    go : (i : ℕ) → get_or (v ∷ p) (moved a b (k + 1) i) 0 ≡ get_or (v ∷ q) i 0
    go zero = rw first refl
    go (suc j) = rw (shifted j) (h.each j)

module _ (n : ℕ) (reading : Reading) (db : Database) (names : List ℕ) where
  moved-here : (a b k i : ℕ) (p q : List ℕ) → Moved a b k p q → value_meaning n reading db names p (moved_at a b k i) ≡ get_or q i 0
  unfolding meaning
  moved-here a b k i p q h = h.each i

  name-here : (a b k x : ℕ) (p q : List ℕ) → Moved a b k p q → value_meaning n reading db names p (same_name k x) ≡ get_or names x 0
  unfolding meaning
  name-here a b k x p q h = refl

  pub turned-means : (a b : ℕ) (f : U) (p q : List ℕ) → Moved a b 0 p q → meaning n reading db names p (turned a b f) ≡ meaning n reading db names q f
  turned-means a b f p q h =
      meaning-mapped n reading db names names (moved_at a b) same_name (Moved a b) (moved-here a b) (name-here a b) (moved-inside a b) f 0 p q h

-- the places p, and inside them those that a row's values were taken at, the last one innermost
abbrev pub onto : List ℕ → List ℕ → List ℕ
onto [] p = p
onto (v ∷ r) p = onto r (v ∷ p)

pub entry_past : (s q : List ℕ) (i : ℕ) → get_or (onto s q) (length s + i) 0 ≡ get_or q i 0
entry_past [] q i = let e : 0 + i ≡ i = omega arith in ap (λ i. get_or q i 0) e
entry_past (v ∷ s) q i = let e : suc (length s) + i ≡ length s + suc i = omega arith in rw e (entry_past s (v ∷ q) (suc i))

pub entry_within : (s p q : List ℕ) (i : ℕ) → i < length s → get_or (onto s p) i 0 ≡ get_or (onto s q) i 0
entry_within [] p q i h = absurd (omega arith)
entry_within (v ∷ s) p q i h = elim (cases_lt i (length s)) [
  | inl l ↦ entry_within s (v ∷ p) (v ∷ q) i l
  | inr g ↦ let e : i ≡ length s + 0 = omega (arith, g, h) in rw e (entry_past s (v ∷ p) 0 ∙ sym (entry_past s (v ∷ q) 0))
]

pub sums-add : (a b : ℕ) (f : U) → sums (a + b) f ≡ sums a (sums b f)
unfolding constructors
sums-add zero b f = let e : 0 + b ≡ b = omega arith in ap (λ (k : ℕ). sums k f) e
sums-add (suc a) b f = let e : suc a + b ≡ suc (a + b) = omega arith in rw e (ap S (sums-add a b f))

same_place : (i j : ℕ) (q : List ℕ) → i ≡ j → get_or q i 0 ≡ get_or q j 0
same_place i j q e = ap (λ i. get_or q i 0) e

rest : (s q : List ℕ) (i : ℕ) → length s ≤ i → get_or (onto s q) i 0 ≡ get_or q (i - length s) 0
rest s q i h = let e : i ≡ length s + (i - length s) = omega arith in same_place i (length s + (i - length s)) (onto s q) e ∙ entry_past s q (i - length s)

-- place i of two groups exchanged
exchanged : (s t p : List ℕ) (i : ℕ) → get_or (onto s (onto t p)) (moved (length s) (length t) 0 i) 0 ≡ get_or (onto t (onto s p)) i 0
exchanged s t p i = elim (cases_lt i (length t)) [
  | inl l ↦
      let c : nat_lt i (0 + length t) ≡ true = lt-ltb i (0 + length t) (omega arith) in
      let z : nat_lt i 0 ≡ false = le-ltb i 0 (omega arith) in
      let e : i + length s ≡ length s + i = omega arith in
      rw (z, c, e) (entry_past s (onto t p) i ∙ entry_within t p (onto s p) i l)
  | inr g ↦
      let c : nat_lt i (0 + length t) ≡ false = le-ltb i (0 + length t) (omega arith) in
      let z : nat_lt i 0 ≡ false = le-ltb i 0 (omega arith) in
      elim (cases_lt i (0 + length t + length s)) [
        | inl l ↦
            let d : nat_lt i (0 + length t + length s) ≡ true = lt-ltb i (0 + length t + length s) l in
            let e : get_or (onto t (onto s p)) i 0 ≡ get_or (onto s p) (i - length t) 0 = rest t (onto s p) i g in
            rw (z, c, d, e) (entry_within s (onto t p) p (i - length t) (omega (arith, l, g)))
        | inr k ↦
            let d : nat_lt i (0 + length t + length s) ≡ false = le-ltb i (0 + length t + length s) k in
            rw (z, c, d) (rest s (onto t p) i (omega (arith, k)) ∙ rest t p (i - length s) (omega (arith, k)) ∙ same_place (i - length s - length t) (i - length t - length s) p (omega arith)
            ∙ sym (rest t (onto s p) i g ∙ rest s p (i - length t) (omega (arith, k))))
      ]
]

exchanged_at : (a b : ℕ) (s t p : List ℕ) → length s ≡ a → length t ≡ b → (i : ℕ) → get_or (onto s (onto t p)) (moved a b 0 i) 0 ≡ get_or (onto t (onto s p)) i 0
exchanged_at a b s t p la lb i = rw (← la, ← lb) (exchanged s t p i)

module _ (n : ℕ) (reading : Reading) (db : Database) (names : List ℕ) where
  pub sums-mean : (k : ℕ) (f : U) (p : List ℕ) → meaning n reading db names p (sums k f) ≡ sum_rows n k (λ r. meaning n reading db names (onto r p) f)
  unfolding constructors
  sums-mean zero f p = refl
  sums-mean (suc k) f p = meaning-Sum n reading db names p (sums k f) ∙ sum_below-same n _ (λ v. sum_rows n k (λ r. meaning n reading db names (onto r (v ∷ p)) f)) (λ v l. sums-mean k f (v ∷ p))

  pub two_groups : (a b : ℕ) (f : U) (p : List ℕ) → meaning n reading db names p (sums (a + b) f) ≡ sum_rows n a (λ s. sum_rows n b (λ t. meaning n reading db names (onto t (onto s p)) f))
  two_groups a b f p =
      rw (sums-add a b f) (sums-mean a (sums b f) p ∙ sum_rows-same n a _ (λ s. sum_rows n b (λ t. meaning n reading db names (onto t (onto s p)) f)) (λ s l. sums-mean b f (onto s p)))

  turned_here : (a b : ℕ) (f : U) (p s t : List ℕ) → length s ≡ a → length t ≡ b → meaning n reading db names (onto s (onto t p)) (turned a b f) ≡ meaning n reading db names (onto t (onto s p)) f
  turned_here a b f p s t la lb = turned-means n reading db names a b f (onto s (onto t p)) (onto t (onto s p)) (record { each = exchanged_at a b s t p la lb })

  pub swapped_sums : (a b : ℕ) (f : U) (p : List ℕ) → meaning n reading db names p (sums (a + b) f) ≡ meaning n reading db names p (sums (a + b) (turned a b f))
  swapped_sums a b f p =
      let c : a + b ≡ b + a = omega arith in
      two_groups a b f p
      ∙ sum_rows-exchange n a b (λ s t. meaning n reading db names (onto t (onto s p)) f)
      ∙ sum_rows-same n b (λ t. sum_rows n a (λ s. meaning n reading db names (onto t (onto s p)) f)) (λ t. sum_rows n a (λ s. meaning n reading db names (onto s (onto t p)) (turned a b f)))
      (λ t lb. sum_rows-same n a (λ s. meaning n reading db names (onto t (onto s p)) f) (λ s. meaning n reading db names (onto s (onto t p)) (turned a b f)) (λ s la. sym (turned_here a b f p s t la.long lb.long)))
      ∙ sym (rw c (two_groups b a (turned a b f) p))

  -- the values of the places of w sums
  pub places-mean : (r p : List ℕ) → list_meaning n reading db names (onto r p) (places (length r)) ≡ r
  places-mean [] p = refl
  places-mean (v ∷ r) p =
      let e : get_or (onto r (v ∷ p)) (length r) 0 ≡ v = same_place (length r) (length r + 0) (onto r (v ∷ p)) (omega arith) ∙ entry_past r (v ∷ p) 0 in
      rw (meaning-Bound n reading db names (onto r (v ∷ p)) (length r), e, places-mean r (v ∷ p)) refl
