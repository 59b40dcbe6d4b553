-- Lists in order: two that have the same members, each as often, are one list.
use Rattle.std.proofs.Common.{◌≡◌, ℕ, suc, ◌+◌, ◌<◌, Bool, true, false, List, [], ◌∷◌, length, map, get_or, set, refl, ap, sym, ◌∙◌, subst, arith}
use Rattle.std.specs.Prelude.{IsSorted, nat_eq, ◌&&◌}
use Rattle.std.specs.declared.cmp.Ordering.{Ordering}
use Rattle.std.specs.declared.cmp.Ordering.TheVariants.{Less, Equal, Greater}
use Rattle.std.specs.Ordering.{nat_cmp}
use Rattle.std.specs.Ordering.{is_lt, ordering_then, ordering_reverse}
use Rattle.std.specs.Cmp.{IsTotalOrder}
use Rattle.std.specs.Cmp.Lexicographic.{slice_cmp, pointwise, pointwise_decides, bytes_decides}
use Rattle.std.specs.List.{Contains, swap}
use Rattle.std.specs.List.Sorted.{IsPermutation, IsSortedBy}
use Rattle.std.proofs.lemmas.Cmp.{ranked, by_ranked, nat_list_cmp_total}
use Rattle.std.proofs.lemmas.List.{map-set, get_or-map, length-map}
use Rattle.std.proofs.lemmas.List.Sorted.{IsPermutation-keeps, IsPermutation-refl, IsPermutation-sym, IsPermutation-trans, IsPermutation-swap, IsPermutation-map, length_permutation, Contains-permutation, sorted_far, ranks_by}
use Rattle.u_terms.specs.Syntax.{U}
use Rattle.u_rules.specs.Terms.{TellsSame}
use Rattle.u_rules.specs.Codes.{code, AreSortedCodes}
use Rattle.u_rules.proofs.multisets.LeavesCancel.{IsPermutation-cancel}
use Rattle.u_rules.proofs.multisets.CodesDiffer.{code-injective}

-- ---- lists of numbers
pub same_numbers : (xs ys : List ℕ) → slice_cmp nat_cmp xs ys ≡ Equal → xs ≡ ys
same_numbers [] [] e = refl
same_numbers [] (y ∷ ys) e = absurd (cc)
same_numbers (x ∷ xs) [] e = absurd (cc)
same_numbers (x ∷ xs) (y ∷ ys) e = by_ranked (x < y) (x ≡ y) (y < x) (nat_cmp x y) (ranked x y (nat_cmp x y) refl)
    (λ o l. absurd (less (rw o at e)))
    (λ o l. let tail : xs ≡ ys = same_numbers xs ys (rw o at e) in cc)
    (λ o l. absurd (greater (rw o at e)))
  where
    less : ordering_then Less (slice_cmp nat_cmp xs ys) ≡ Equal → ⊥
    less z = cc

    greater : ordering_then Greater (slice_cmp nat_cmp xs ys) ≡ Equal → ⊥
    greater z = cc

module _ {K : Type 0} (R : K → K → Ordering) (o : IsTotalOrder R) (exact : (x y : K) → R x y ≡ Equal → x ≡ y) where
  abbrev lt : K → K → Bool
  lt x y = is_lt (R x y)

  -- nothing in a list in order is below its first member
  least : (y : K) (ys : List K) (x : K) → IsSortedBy lt (y ∷ ys) → Contains (y ∷ ys) x → lt x y ≡ false
  least y ys x up in_it = ap (λ z. lt z y) (sym in_it.2) ∙ sorted_far lt (ranks_by o (λ z. z)) (y ∷ ys) up 0 in_it.0 x (omega arith) in_it.1

  level : (r s : Ordering) → r ≡ ordering_reverse s → is_lt r ≡ false → is_lt s ≡ false → r ≡ Equal
  level Less s e a b = absurd (cc)
  level Equal s e a b = refl
  level Greater Less e a b = absurd (cc)
  level Greater Equal e a b = absurd (cc)
  level Greater Greater e a b = absurd (cc)

  later : (x : K) (xs : List K) → IsSortedBy lt (x ∷ xs) → IsSortedBy lt xs
  later x xs up k d low h = let e : suc k + 1 ≡ suc (k + 1) = omega arith in rw e at (up (suc k) d (omega arith) (omega (arith, h)))

  here : (x : K) (xs : List K) → Contains (x ∷ xs) x
  here x xs = (0, omega arith, refl)

  pub one_order : (xs ys : List K) → IsSortedBy lt xs → IsSortedBy lt ys → IsPermutation xs ys → xs ≡ ys
  one_order [] [] up vp p = refl
  one_order [] (y ∷ ys) up vp p = absurd (let e = length_permutation [] (y ∷ ys) p in omega (arith, e))
  one_order (x ∷ xs) [] up vp p = absurd (let e = length_permutation (x ∷ xs) [] p in omega (arith, e))
  one_order (x ∷ xs) (y ∷ ys) up vp p =
      let a : lt x y ≡ false = least y ys x vp (Contains-permutation (x ∷ xs) (y ∷ ys) x p (here x xs)) in
      let b : lt y x ≡ false = least x xs y up (Contains-permutation (y ∷ ys) (x ∷ xs) y (IsPermutation-sym (x ∷ xs) (y ∷ ys) p) (here y ys)) in
      let e : x ≡ y = exact x y (level (R x y) (R y x) (o.antisymm x y) a b) in
      let q : IsPermutation (x ∷ xs) (x ∷ ys) = subst (λ z. IsPermutation (x ∷ xs) (z ∷ ys)) (sym e) p in
      let tail : xs ≡ ys = one_order xs ys (later x xs up) (later y ys vp) (IsPermutation-cancel x xs ys q) in
      cc

-- ---- what an injective function gives of two lists
module _ {X Y : Type 0} (f : X → Y) where
  swap-map : (zs : List X) (i j : ℕ) → i < length zs → j < length zs → swap (map f zs) i j ≡ map f (swap zs i j)
  swap-map [] i j h k = refl
  swap-map (z ∷ zs) i j h k =
      let a : get_or (map f (z ∷ zs)) j (f z) ≡ f (get_or (z ∷ zs) j z) = get_or-map f (z ∷ zs) j z (f z) k in
      let b : get_or (map f (z ∷ zs)) i (f z) ≡ f (get_or (z ∷ zs) i z) = get_or-map f (z ∷ zs) i z (f z) h in
      rw (a, b, map-set f (set (z ∷ zs) i (get_or (z ∷ zs) j z)) j (get_or (z ∷ zs) i z), map-set f (z ∷ zs) i (get_or (z ∷ zs) j z)) refl

  record IsImage (xs : List X) (l : List Y) : Type 0 where
    pub items : List X
    pub is : l ≡ map f items
    pub moved : IsPermutation xs items

  moved_image : (xs : List X) (l : List Y) (i j : ℕ) → i < length l → j < length l → IsImage xs l → IsImage xs (swap l i j)
  moved_image xs l i j h k image =
      let a : i < length image.items = rw (image.is, length-map) at h in
      let b : j < length image.items = rw (image.is, length-map) at k in
      record {
        items = swap image.items i j;
        is = ap (λ (m : List Y). swap m i j) image.is ∙ swap-map image.items i j a b;
        moved = IsPermutation-trans xs image.items (swap image.items i j) image.moved (IsPermutation-swap image.items (swap image.items i j) i j a b refl);
      }

  module _ (injective : (x y : X) → f x ≡ f y → x ≡ y) where
    same_lists : (xs ys : List X) → map f xs ≡ map f ys → xs ≡ ys
    same_lists [] [] e = refl
    same_lists [] (y ∷ ys) e = absurd (cc)
    same_lists (x ∷ xs) [] e = absurd (cc)
    same_lists (x ∷ xs) (y ∷ ys) e =
        let first : x ≡ y = injective x y cc in
        let tail : xs ≡ ys = same_lists xs ys cc in
        cc

    pub unmapped : (xs ys : List X) → IsPermutation (map f xs) (map f ys) → IsPermutation xs ys
    unmapped xs ys p =
        let image = IsPermutation-keeps (map f xs) (IsImage xs) (record { items = xs; is = refl; moved = IsPermutation-refl xs }) (moved_image xs) (map f ys) p in
        subst (IsPermutation xs) (sym (same_lists ys image.items image.is)) image.moved

-- ---- sorted codes
module _ (ts us : List U) (xs ys : List (List ℕ)) (left : AreSortedCodes ts xs) (right : AreSortedCodes us ys) where
  pub codes_same : IsPermutation ts us → xs ≡ ys
  codes_same p =
      one_order (slice_cmp nat_cmp) nat_list_cmp_total same_numbers xs ys left.ascend right.ascend
      (IsPermutation-trans xs (map code ts) ys (IsPermutation-sym (map code ts) xs left.of) (IsPermutation-trans (map code ts) (map code us) ys (IsPermutation-map code ts us p) right.of))

  pub codes_tell : xs ≡ ys → IsPermutation ts us
  codes_tell e =
      unmapped code code-injective ts us
      (IsPermutation-trans (map code ts) xs (map code us) left.of (rw e (IsPermutation-sym (map code us) ys right.of)))

-- what a function gives of a list in order by it
pub ascends : {X K : Type 0} (f : X → K) (R : K → K → Ordering) (xs : List X) → IsSorted (λ x y. R (f x) (f y)) xs → IsSorted R (map f xs)
ascends f R [] up k d low h = absurd (omega arith)
ascends f R (x ∷ xs) up k d low h =
    let n : length (map f (x ∷ xs)) ≡ length (x ∷ xs) = length-map (x ∷ xs) f in
    let a : get_or (map f (x ∷ xs)) (k + 1) d ≡ f (get_or (x ∷ xs) (k + 1) x) = get_or-map f (x ∷ xs) (k + 1) x d (omega (arith, h, n)) in
    let b : get_or (map f (x ∷ xs)) k d ≡ f (get_or (x ∷ xs) k x) = get_or-map f (x ∷ xs) k x d (omega (arith, h, n)) in
    rw (a, b) (up k x low (omega (arith, h, n)))

-- ---- what `==` says of them
module _ {X : Type 0} (f : X → List ℕ) where
  pairwise : (xs ys : List X) → pointwise (λ x y. pointwise nat_eq (f x) (f y)) xs ys ≡ pointwise (pointwise nat_eq) (map f xs) (map f ys)
  pairwise [] [] = refl
  pairwise [] (y ∷ ys) = refl
  pairwise (x ∷ xs) [] = refl
  pairwise (x ∷ xs) (y ∷ ys) = ap (λ (b : Bool). pointwise nat_eq (f x) (f y) && b) (pairwise xs ys)

  equal_lists : (xs ys : List X) → pointwise (λ x y. pointwise nat_eq (f x) (f y)) xs ys ≡ true → map f xs ≡ map f ys
  equal_lists xs ys e = (pointwise_decides bytes_decides (map f xs) (map f ys)).0 (sym (pairwise xs ys) ∙ e)

  lists_equal : (xs ys : List X) → map f xs ≡ map f ys → pointwise (λ x y. pointwise nat_eq (f x) (f y)) xs ys ≡ true
  lists_equal xs ys e = pairwise xs ys ∙ (pointwise_decides bytes_decides (map f xs) (map f ys)).1 e

  pub tells : (same : Bool) (ts us : List U) (xs ys : List X) → AreSortedCodes ts (map f xs) → AreSortedCodes us (map f ys)
      → same ≡ pointwise (λ x y. pointwise nat_eq (f x) (f y)) xs ys → TellsSame same ts us
  tells true ts us xs ys left right e = codes_tell ts us (map f xs) (map f ys) left right (equal_lists xs ys (sym e))
  tells false ts us xs ys left right e = λ p.
      let t : pointwise (λ x y. pointwise nat_eq (f x) (f y)) xs ys ≡ true = lists_equal xs ys (codes_same ts us (map f xs) (map f ys) left right p) in
      absurd (never (e ∙ t))
    where
      never : false ≡ true → ⊥
      never z = cc
