-- Sums over values, over rows of a width, and over one row for each of several lists of rows.
use Rattle.std.proofs.Common.{◌≡◌, ℕ, zero, suc, ◌+◌, ◌*◌, ◌<◌, ◌≤◌, Bool, true, false, List, [], ◌∷◌, ◌++◌, map, refl, ap, sym, ◌∙◌, arith, inl, inr}
use Rattle.std.specs.Prelude.{nat_eq, ◌&&◌}
use Rattle.std.specs.List.{flat_map}
use Rattle.std.proofs.Math.Nat.{mul_assoc}
use Rattle.std.proofs.lemmas.Bool.{cases_Bool, cases_eq}
use Rattle.std.proofs.lemmas.Bool.Decides.{nat_tests}
use Rattle.data_model.specs.Lists.{Each}
use Rattle.data_model.specs.Numbers.{one_if, sum_below}
use Rattle.data_model.specs.Rows.{Row, IsRow, same_row, occurrences, product}

-- ---- over the values below m
pub sum_below-same : (m : ℕ) (f g : ℕ → ℕ) → ((v : ℕ) → v < m → f v ≡ g v) → sum_below m f ≡ sum_below m g
sum_below-same zero f g e = refl
sum_below-same (suc m) f g e = rw (sum_below-same m f g (λ v h. e v (omega arith)), e m (omega arith)) refl

pub sum_below-zero : (m : ℕ) → sum_below m (λ v. 0) ≡ 0
sum_below-zero zero = refl
sum_below-zero (suc m) = rw (sum_below-zero m) refl

pub sum_below-none : (m : ℕ) (f : ℕ → ℕ) → ((v : ℕ) → v < m → f v ≡ 0) → sum_below m f ≡ 0
sum_below-none m f e = sum_below-same m f (λ v. 0) e ∙ sum_below-zero m

pub sum_below-add : (m : ℕ) (f g : ℕ → ℕ) → sum_below m (λ v. f v + g v) ≡ sum_below m f + sum_below m g
sum_below-add zero f g = refl
sum_below-add (suc m) f g = rw (sum_below-add m f g) (omega arith)

pub sum_below-scale : (m c : ℕ) (f : ℕ → ℕ) → sum_below m (λ v. c * f v) ≡ c * sum_below m f
sum_below-scale zero c f = grind arith
sum_below-scale (suc m) c f = rw (sum_below-scale m c f) (omega arith)

-- two sums in either order
pub sum_below-exchange : (m k : ℕ) (f : ℕ → ℕ → ℕ) → sum_below m (λ v. sum_below k (λ w. f v w)) ≡ sum_below k (λ w. sum_below m (λ v. f v w))
sum_below-exchange zero k f = sym (sum_below-zero k)
sum_below-exchange (suc m) k f = omega (arith, sum_below-exchange m k f, sum_below-add k (λ w. sum_below m (λ v. f v w)) (λ w. f m w))

-- a sum is no less than any of its parts
pub sum_below-part : (m x : ℕ) (f : ℕ → ℕ) → x < m → f x ≤ sum_below m f
sum_below-part zero x f h = absurd (omega arith)
sum_below-part (suc m) x f h = elim (cases_eq m x) [
  | inl here ↦ let k : f m ≡ f x = ap f here in omega (arith, k)
  | inr other ↦ omega (arith, sum_below-part m x f (omega (arith, other)))
]

differ : (x v : ℕ) → v < x → nat_eq x v ≡ false
differ x v h = grind (arith, nat_tests)

pub equal_self : (x : ℕ) → nat_eq x x ≡ true
equal_self x = grind (arith, nat_tests)

none : (m x : ℕ) (f : ℕ → ℕ) → m ≤ x → sum_below m (λ v. one_if (nat_eq x v) * f v) ≡ 0
none zero x f h = refl
none (suc m) x f h = rw (none m x f (omega arith), differ x m (omega arith)) (omega arith)

above : (x m : ℕ) → x < m → nat_eq x m ≡ false
above x m h = grind (arith, nat_tests)

pub sum_below-pick : (m x : ℕ) (f : ℕ → ℕ) → x < m → sum_below m (λ v. one_if (nat_eq x v) * f v) ≡ f x
sum_below-pick zero x f h = absurd (omega arith)
sum_below-pick (suc m) x f h = elim (cases_Bool (nat_eq x m)) [
  | inl here ↦
      let e : x ≡ m = grind (arith, nat_tests) in
      rw (e, none m m f (omega arith), equal_self m) (omega arith)
  | inr other ↦
      let lt : x < m = grind (arith, nat_tests) in
      rw (sum_below-pick m x f lt, other) (omega arith)
]

-- ---- over the vectors of k values below n
abbrev pub sum_rows : ℕ → ℕ → (List ℕ → ℕ) → ℕ
sum_rows n zero f = f []
sum_rows n (suc k) f = sum_below n (λ v. sum_rows n k (λ w. f (v ∷ w)))

pub sum_rows-same : (n k : ℕ) (f g : Row → ℕ) → ((w : Row) → IsRow n k w → f w ≡ g w) → sum_rows n k f ≡ sum_rows n k g
sum_rows-same n zero f g e = e [] (record { long = refl; small = tt })
sum_rows-same n (suc k) f g e =
    sum_below-same n _ _ (λ v h. sum_rows-same n k (λ w. f (v ∷ w)) (λ w. g (v ∷ w)) (λ w r. e (v ∷ w) (record { long = ap suc r.long; small = (h, r.small) })))

pub sum_rows-zero : (n k : ℕ) → sum_rows n k (λ w. 0) ≡ 0
sum_rows-zero n zero = refl
sum_rows-zero n (suc k) = sum_below-same n _ (λ v. 0) (λ v h. sum_rows-zero n k) ∙ sum_below-zero n

pub sum_rows-add : (n k : ℕ) (f g : Row → ℕ) → sum_rows n k (λ w. f w + g w) ≡ sum_rows n k f + sum_rows n k g
sum_rows-add n zero f g = refl
sum_rows-add n (suc k) f g =
    sum_below-same n _ (λ v. sum_rows n k (λ w. f (v ∷ w)) + sum_rows n k (λ w. g (v ∷ w))) (λ v h. sum_rows-add n k (λ w. f (v ∷ w)) (λ w. g (v ∷ w)))
    ∙ sum_below-add n (λ v. sum_rows n k (λ w. f (v ∷ w))) (λ v. sum_rows n k (λ w. g (v ∷ w)))

pub sum_rows-scale : (n k c : ℕ) (f : Row → ℕ) → sum_rows n k (λ w. c * f w) ≡ c * sum_rows n k f
sum_rows-scale n zero c f = refl
sum_rows-scale n (suc k) c f =
    sum_below-same n _ (λ v. c * sum_rows n k (λ w. f (v ∷ w))) (λ v h. sum_rows-scale n k c (λ w. f (v ∷ w)))
    ∙ sum_below-scale n c (λ v. sum_rows n k (λ w. f (v ∷ w)))

-- two sums over rows in either order
sum_rows-below : (n k m : ℕ) (f : ℕ → Row → ℕ) → sum_rows n k (λ w. sum_below m (λ v. f v w)) ≡ sum_below m (λ v. sum_rows n k (λ w. f v w))
sum_rows-below n zero m f = refl
sum_rows-below n (suc k) m f =
    sum_below-same n _ (λ x. sum_below m (λ v. sum_rows n k (λ w. f v (x ∷ w)))) (λ x h. sum_rows-below n k m (λ v w. f v (x ∷ w)))
    ∙ sum_below-exchange n m (λ x v. sum_rows n k (λ w. f v (x ∷ w)))

pub sum_rows-exchange : (n k j : ℕ) (f : Row → Row → ℕ) → sum_rows n k (λ w. sum_rows n j (λ u. f w u)) ≡ sum_rows n j (λ u. sum_rows n k (λ w. f w u))
sum_rows-exchange n k zero f = refl
sum_rows-exchange n k (suc j) f =
    sum_rows-below n k n (λ v w. sum_rows n j (λ u. f w (v ∷ u)))
    ∙ sum_below-same n _ (λ v. sum_rows n j (λ u. sum_rows n k (λ w. f w (v ∷ u)))) (λ v h. sum_rows-exchange n k j (λ w u. f w (v ∷ u)))

pub one_if-and : (a b : Bool) → one_if (a && b) ≡ one_if a * one_if b
one_if-and true b = omega arith
one_if-and false b = omega arith

pub sum_rows-pick : (n k : ℕ) (r : Row) (f : Row → ℕ) → IsRow n k r → sum_rows n k (λ w. one_if (same_row r w) * f w) ≡ f r
sum_rows-pick n zero [] f h = omega arith
sum_rows-pick n zero (x ∷ r) f h = absurd (omega (arith, h.long))
sum_rows-pick n (suc k) [] f h = absurd (omega (arith, h.long))
sum_rows-pick n (suc k) (x ∷ r) f h =
    sum_below-same n _ (λ v. one_if (nat_eq x v) * f (v ∷ r)) (λ v lt.
    sum_rows-same n k _ (λ w. one_if (nat_eq x v) * (one_if (same_row r w) * f (v ∷ w))) (λ w i. rw (one_if-and (nat_eq x v) (same_row r w)) (mul_assoc (one_if (nat_eq x v)) (one_if (same_row r w)) (f (v ∷ w))))
    ∙ sum_rows-scale n k (one_if (nat_eq x v)) (λ w. one_if (same_row r w) * f (v ∷ w))
    ∙ ap (λ s. one_if (nat_eq x v) * s) (sum_rows-pick n k r (λ w. f (v ∷ w)) (record { long = omega (arith, h.long); small = h.small.1 })))
    ∙ sum_below-pick n x (λ v. f (v ∷ r)) h.small.0

-- going through a list
abbrev pub sum_over : {X : Type 0} → (X → ℕ) → List X → ℕ
sum_over f [] = 0
sum_over f (x ∷ xs) = f x + sum_over f xs

-- counting each vector among the rows is going through the rows
pub sum_rows-rows : (n k : ℕ) (R : List Row) (f : Row → ℕ) → Each (IsRow n k) R → sum_rows n k (λ w. occurrences w R * f w) ≡ sum_over f R
sum_rows-rows n k [] f h = sum_rows-same n k _ (λ w. 0) (λ w i. omega arith) ∙ sum_rows-zero n k
sum_rows-rows n k (s ∷ R) f h =
    sum_rows-same n k _ (λ w. one_if (same_row s w) * f w + occurrences w R * f w) (λ w i. omega arith)
    ∙ sum_rows-add n k (λ w. one_if (same_row s w) * f w) (λ w. occurrences w R * f w)
    ∙ (rw (sum_rows-pick n k s f h.0, sum_rows-rows n k R f h.1) refl)

-- ---- over one vector for each entry
abbrev pub sum_row_lists : ℕ → List ℕ → (List Row → ℕ) → ℕ
sum_row_lists n [] f = f []
sum_row_lists n (k ∷ ks) f = sum_rows n k (λ u. sum_row_lists n ks (λ c. f (u ∷ c)))

-- one row of each width
abbrev pub AreRows : ℕ → List ℕ → List Row → Type 0
AreRows n [] [] = Unit {0}
AreRows n (k ∷ ks) (r ∷ c) = IsRow n k r × AreRows n ks c
AreRows n _ _ = ⊥

pub sum_row_lists-same : (n : ℕ) (ks : List ℕ) (f g : List Row → ℕ) → ((c : List Row) → AreRows n ks c → f c ≡ g c) → sum_row_lists n ks f ≡ sum_row_lists n ks g
sum_row_lists-same n [] f g e = e [] tt
sum_row_lists-same n (k ∷ ks) f g e = sum_rows-same n k _ _ (λ u h. sum_row_lists-same n ks (λ c. f (u ∷ c)) (λ c. g (u ∷ c)) (λ c hs. e (u ∷ c) (h, hs)))

pub sum_row_lists-scale : (n : ℕ) (ks : List ℕ) (c : ℕ) (f : List Row → ℕ) → sum_row_lists n ks (λ w. c * f w) ≡ c * sum_row_lists n ks f
sum_row_lists-scale n [] c f = refl
sum_row_lists-scale n (k ∷ ks) c f =
    sum_rows-same n k _ (λ u. c * sum_row_lists n ks (λ w. f (u ∷ w))) (λ u h. sum_row_lists-scale n ks c (λ w. f (u ∷ w))) ∙ sum_rows-scale n k c (λ u. sum_row_lists n ks (λ w. f (u ∷ w)))

-- how often a combination occurs in the product
abbrev pub weight : List (List Row) → List Row → ℕ
weight [] c = 1
weight (R ∷ Rs) [] = 0
weight (R ∷ Rs) (r ∷ c) = occurrences r R * weight Rs c

-- lists of rows of these widths
abbrev pub AreTables : ℕ → List ℕ → List (List Row) → Type 0
AreTables n [] [] = Unit {0}
AreTables n (k ∷ ks) (R ∷ Rs) = Each (IsRow n k) R × AreTables n ks Rs
AreTables n _ _ = ⊥

pub sum_over-append : {X : Type 0} (f : X → ℕ) (xs ys : List X) → sum_over f (xs ++ ys) ≡ sum_over f xs + sum_over f ys
sum_over-append f [] ys = omega arith
sum_over-append f (x ∷ xs) ys = rw (sum_over-append f xs ys) (omega arith)

pub sum_over-same : {X : Type 0} (f g : X → ℕ) → ((x : X) → f x ≡ g x) → (xs : List X) → sum_over f xs ≡ sum_over g xs
sum_over-same f g e [] = refl
sum_over-same f g e (x ∷ xs) = rw (e x, sum_over-same f g e xs) refl

pub sum_over-map : {X Y : Type 0} (f : Y → ℕ) (h : X → Y) (xs : List X) → sum_over f (map h xs) ≡ sum_over (λ x. f (h x)) xs
sum_over-map f h [] = refl
sum_over-map f h (x ∷ xs) = rw (sum_over-map f h xs) refl

pub sum_over-flat : {X Y : Type 0} (f : Y → ℕ) (h : X → List Y) (xs : List X) → sum_over f (flat_map h xs) ≡ sum_over (λ x. sum_over f (h x)) xs
sum_over-flat f h [] = refl
sum_over-flat f h (x ∷ xs) = sum_over-append f (h x) (flat_map h xs) ∙ (rw (sum_over-flat f h xs) refl)

-- going through the product is summing over all combinations of vectors, each as often as it occurs
pub sum_row_lists-product : (n : ℕ) (ks : List ℕ) (Rs : List (List Row)) (f : List Row → ℕ) → AreTables n ks Rs → sum_row_lists n ks (λ c. weight Rs c * f c) ≡ sum_over f (product Rs)
sum_row_lists-product n [] [] f h = omega arith
sum_row_lists-product n [] (R ∷ Rs) f h = absurd h
sum_row_lists-product n (k ∷ ks) [] f h = absurd h
sum_row_lists-product n (k ∷ ks) (R ∷ Rs) f h =
    sum_rows-same n k _ (λ u. occurrences u R * sum_row_lists n ks (λ c. weight Rs c * f (u ∷ c))) (λ u i.
    sum_row_lists-same n ks _ (λ c. occurrences u R * (weight Rs c * f (u ∷ c))) (λ c is. mul_assoc (occurrences u R) (weight Rs c) (f (u ∷ c)))
    ∙ sum_row_lists-scale n ks (occurrences u R) (λ c. weight Rs c * f (u ∷ c)))
    ∙ sum_rows-rows n k R (λ u. sum_row_lists n ks (λ c. weight Rs c * f (u ∷ c))) h.0
    ∙ sum_over-same _ (λ u. sum_over f (map (λ c. u ∷ c) (product Rs))) (λ u. sum_row_lists-product n ks Rs (λ c. f (u ∷ c)) h.1 ∙ sym (sum_over-map f (λ c. u ∷ c) (product Rs))) R
    ∙ sym (sum_over-flat f (λ u. map (λ c. u ∷ c) (product Rs)) R)
