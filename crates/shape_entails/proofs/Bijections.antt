-- A list whose items stand at other places of another list, each at one of its own, is that list in another order.
use Rattle.std.proofs.Common.{◌≡◌, ℕ, zero, suc, ◌<◌, List, [], ◌∷◌, length, Some, refl, ap, sym, subst, arith}
use Rattle.std.specs.Prelude.{slice_get, IsPermutation}
use Rattle.std.proofs.lemmas.List.{nil_from_length}
use Rattle.std.proofs.lemmas.List.Sorted.{IsPermutation-refl, IsPermutation-sym, IsPermutation-trans, IsPermutation-cons, IsPermutation-middle}
use Rattle.std.proofs.lemmas.Option.{same_Some, none-some}

-- the place of an item after the one at place i was taken out
skipped : ℕ → ℕ → ℕ
skipped zero zero = 0
skipped zero (suc j) = j
skipped (suc i) zero = 0
skipped (suc i) (suc j) = suc (skipped i j)

skipped-apart : (i j k : ℕ) → (j ≡ i → ⊥) → (k ≡ i → ⊥) → skipped i j ≡ skipped i k → j ≡ k
unfolding skipped
skipped-apart zero zero k a b e = absurd (a refl)
skipped-apart zero (suc j) zero a b e = absurd (b refl)
skipped-apart zero (suc j) (suc k) a b e = ap suc e
skipped-apart (suc i) zero zero a b e = refl
skipped-apart (suc i) zero (suc k) a b e = absurd (omega (arith, e))
skipped-apart (suc i) (suc j) zero a b e = absurd (omega (arith, e))
skipped-apart (suc i) (suc j) (suc k) a b e = ap suc (skipped-apart i j k (λ d. a (ap suc d)) (λ d. b (ap suc d)) (omega (arith, e)))

module _ {X : Type 0} where
  record TakenOut (ys : List X) (i : ℕ) (x : X) : Type 0 where
    rest : List X
    order : IsPermutation (x ∷ rest) ys
    long : length ys ≡ suc (length rest)
    at : (j : ℕ) (y : X) → (j ≡ i → ⊥) → slice_get ys j ≡ Some y → slice_get rest (skipped i j) ≡ Some y

  taken-out : (ys : List X) (i : ℕ) (x : X) → slice_get ys i ≡ Some x → TakenOut ys i x
  unfolding skipped
  taken-out [] i x h = absurd (none-some x h)
  taken-out (y ∷ ys) zero x h = record {
    rest = ys;
    order = subst (λ z. IsPermutation (z ∷ ys) (y ∷ ys)) (same_Some y x h) (IsPermutation-refl (y ∷ ys));
    long = refl;
    at = first;
  }
    where
      first : (j : ℕ) (z : X) → (j ≡ 0 → ⊥) → slice_get (y ∷ ys) j ≡ Some z → slice_get ys (skipped 0 j) ≡ Some z
      first zero z a g = absurd (a refl)
      first (suc j) z a g = g
  taken-out (y ∷ ys) (suc i) x h =
      let k = taken-out ys i x h in
      record {
        rest = y ∷ k.rest;
        order = IsPermutation-trans (x ∷ (y ∷ k.rest)) (y ∷ (x ∷ k.rest)) (y ∷ ys)
            (IsPermutation-sym (y ∷ (x ∷ k.rest)) (x ∷ (y ∷ k.rest)) (IsPermutation-middle (y ∷ []) x k.rest)) (IsPermutation-cons y (x ∷ k.rest) ys k.order);
        long = ap suc k.long;
        at = later k;
      }
    where
      later : (k : TakenOut ys i x) (j : ℕ) (z : X) → (j ≡ suc i → ⊥) → slice_get (y ∷ ys) j ≡ Some z → slice_get (y ∷ k.rest) (skipped (suc i) j) ≡ Some z
      later k zero z a g = g
      later k (suc j) z a g = k.at j z (λ d. a (ap suc d)) g

  pub permuted : (xs ys : List X) (f : ℕ → ℕ) → length xs ≡ length ys → ((d e : ℕ) → d < length xs → e < length xs → f d ≡ f e → d ≡ e)
      → ((e : ℕ) (x : X) → slice_get xs e ≡ Some x → slice_get ys (f e) ≡ Some x) → IsPermutation xs ys
  permuted [] ys f long apart at = subst (IsPermutation []) (sym (nil_from_length ys (sym long))) (IsPermutation-refl [])
  permuted (x ∷ xs) ys f long apart at =
      let k = taken-out ys (f 0) x (at 0 x refl) in
      IsPermutation-trans (x ∷ xs) (x ∷ k.rest) ys
      (IsPermutation-cons x xs k.rest (permuted xs k.rest (λ e. skipped (f 0) (f (suc e))) (omega (arith, long, k.long))
      (λ d e less within same.
      let one : suc d ≡ suc e = apart (suc d) (suc e) (omega (arith, less)) (omega (arith, within)) (skipped-apart (f 0) (f (suc d)) (f (suc e)) (other d less) (other e within) same) in
      omega (arith, one))
      (λ e y g. k.at (f (suc e)) y (other e (inside xs e y g)) (at (suc e) y g))))
      k.order
    where
      inside : (zs : List X) (e : ℕ) (y : X) → slice_get zs e ≡ Some y → e < length zs
      inside [] e y g = absurd (none-some y g)
      inside (z ∷ zs) zero y g = omega arith
      inside (z ∷ zs) (suc e) y g = let less = inside zs e y g in omega (arith, less)

      other : (e : ℕ) → e < length xs → f (suc e) ≡ f 0 → ⊥
      other e less same = let one : suc e ≡ 0 = apart (suc e) 0 (omega (arith, less)) (omega arith) same in omega (arith, one)
