-- Where products say the same, each entails what the other one has beside their common factors: none of those is an atom.
use Rattle.std.proofs.Common.{inl, inr, Bool, true, false, cond, List, [], ◌∷◌, ◌++◌, Some, ap, sym, ◌∙◌, subst}
use Rattle.std.specs.Prelude.{IsPermutation}
use Rattle.std.specs.List.{filter, Contains}
use Rattle.std.proofs.lemmas.Bool.{cases_Bool}
use Rattle.std.proofs.lemmas.List.{nil_from_length}
use Rattle.std.proofs.lemmas.List.Elements.{filter-append}
use Rattle.std.proofs.lemmas.List.Sorted.{IsPermutation-refl, IsPermutation-sym, IsPermutation-trans, IsPermutation-cons, IsPermutation-middle, Contains-permutation, length_permutation}
use Rattle.std.proofs.lemmas.Option.{slice_get_within, slice_get-get_or, get_or_from_slice_get}
use Rattle.u_terms.specs.Syntax.{U}
use Rattle.u_rules.specs.Terms.{mul_leaves}
use Rattle.u_rules.proofs.multisets.LeavesCancel.{IsPermutation-cancel, IsPermutation-cancel_front}
use Rattle.u_equal.specs.Standing.{IsIn}
use Rattle.u_equal.proofs.products.Members.{in-rest, in-cons, in-none, in-head, in-right}
use Rattle.shape_entails.specs.Values.{is_atom, atoms}
use Rattle.shape_entails.specs.Matched.{EntailsFactor, SayTheSame, AreApart}
use Rattle.shape_entails.proofs.Shaped.{in-filtered}

-- ---- lists in another order
pub in-permuted : {X : Type 0} (xs ys : List X) (x : X) → IsPermutation xs ys → IsIn x xs → IsIn x ys
in-permuted xs ys x h i =
    let there : Contains xs x = (i.place, slice_get_within xs i.place x i.here, get_or_from_slice_get xs i.place x x i.here) in
    let k = Contains-permutation xs ys x h there in
    record { place = k.0; here = slice_get-get_or ys k.0 x k.1 ∙ ap Some k.2 }

module _ {X : Type 0} (test : X → Bool) where
  -- an item taken out of a list, and of what the test keeps of it
  record TakenFrom (ys : List X) (x : X) : Type 0 where
    rest : List X
    order : IsPermutation (x ∷ rest) ys
    kept : IsPermutation (filter test (x ∷ rest)) (filter test ys)

  first-two : (x y : X) (rest : List X) → IsPermutation (filter test (x ∷ (y ∷ rest))) (filter test (y ∷ (x ∷ rest)))
  first-two x y rest = at (test x) (test y)
    where
      at : (b c : Bool) → IsPermutation (cond b (x ∷ cond c (y ∷ filter test rest) (filter test rest)) (cond c (y ∷ filter test rest) (filter test rest)))
          (cond c (y ∷ cond b (x ∷ filter test rest) (filter test rest)) (cond b (x ∷ filter test rest) (filter test rest)))
      at true true = IsPermutation-sym (y ∷ (x ∷ filter test rest)) (x ∷ (y ∷ filter test rest)) (IsPermutation-middle (y ∷ []) x (filter test rest))
      at true false = IsPermutation-refl (x ∷ filter test rest)
      at false true = IsPermutation-refl (y ∷ filter test rest)
      at false false = IsPermutation-refl (filter test rest)

  filter-cons : (y : X) (xs ys : List X) → IsPermutation (filter test xs) (filter test ys) → IsPermutation (filter test (y ∷ xs)) (filter test (y ∷ ys))
  filter-cons y xs ys h = at (test y)
    where
      at : (b : Bool) → IsPermutation (cond b (y ∷ filter test xs) (filter test xs)) (cond b (y ∷ filter test ys) (filter test ys))
      at true = IsPermutation-cons y (filter test xs) (filter test ys) h
      at false = h

  taken-from : (ys : List X) (x : X) → IsIn x ys → TakenFrom ys x
  taken-from [] x i = absurd (in-none x i)
  taken-from (y ∷ ys) x i = elim (in-cons y ys x i) [
    | inl same ↦ subst (TakenFrom (y ∷ ys)) (sym same) (record { rest = ys; order = IsPermutation-refl (y ∷ ys); kept = IsPermutation-refl (filter test (y ∷ ys)) })
    | inr later ↦
        let k = taken-from ys x later in
        record {
          rest = y ∷ k.rest;
          order = IsPermutation-trans (x ∷ (y ∷ k.rest)) (y ∷ (x ∷ k.rest)) (y ∷ ys)
              (IsPermutation-sym (y ∷ (x ∷ k.rest)) (x ∷ (y ∷ k.rest)) (IsPermutation-middle (y ∷ []) x k.rest)) (IsPermutation-cons y (x ∷ k.rest) ys k.order);
          kept = IsPermutation-trans (filter test (x ∷ (y ∷ k.rest))) (filter test (y ∷ (x ∷ k.rest))) (filter test (y ∷ ys)) (first-two x y k.rest) (filter-cons y (x ∷ k.rest) ys k.kept);
        }
  ]

  pub filter-permuted : (xs ys : List X) → IsPermutation xs ys → IsPermutation (filter test xs) (filter test ys)
  filter-permuted [] ys h = subst (λ l. IsPermutation [] (filter test l)) (sym (nil_from_length ys (length_permutation [] ys h))) (IsPermutation-refl [])
  filter-permuted (x ∷ xs) ys h =
      let k = taken-from ys x (in-permuted (x ∷ xs) ys x h (in-head x xs)) in
      let same : IsPermutation xs k.rest = IsPermutation-cancel x xs k.rest (IsPermutation-trans (x ∷ xs) ys (x ∷ k.rest) h (IsPermutation-sym (x ∷ k.rest) ys k.order)) in
      IsPermutation-trans (filter test (x ∷ xs)) (filter test (x ∷ k.rest)) (filter test ys) (filter-cons x xs k.rest (filter-permuted xs k.rest same)) k.kept

  pub filter-beside : (xs ys common left right : List X) → IsPermutation xs (common ++ left) → IsPermutation ys (common ++ right) → IsPermutation (filter test xs) (filter test ys)
      → IsPermutation (filter test left) (filter test right)
  filter-beside xs ys common left right l r h =
      IsPermutation-cancel_front (filter test common) (filter test left) (filter test right)
      (subst (λ zs. IsPermutation zs (filter test common ++ filter test right)) (filter-append test common left)
      (subst (IsPermutation (filter test (common ++ left))) (filter-append test common right)
      (IsPermutation-trans (filter test (common ++ left)) (filter test xs) (filter test (common ++ right)) (IsPermutation-sym (filter test xs) (filter test (common ++ left)) (filter-permuted xs (common ++ left) l))
      (IsPermutation-trans (filter test xs) (filter test ys) (filter test (common ++ right)) h (filter-permuted ys (common ++ right) r)))))

  of-filtered : (xs : List X) (x : X) → IsIn x (filter test xs) → IsIn x xs
  of-filtered [] x i = i
  of-filtered (y ∷ xs) x i = at (test y) (λ j. of-filtered xs x j) i
    where
      at : (b : Bool) → (IsIn x (filter test xs) → IsIn x xs) → IsIn x (cond b (y ∷ filter test xs) (filter test xs)) → IsIn x (y ∷ xs)
      at true rest i = elim (in-cons y (filter test xs) x i) [
        | inl same ↦ subst (λ z. IsIn z (y ∷ xs)) (sym same) (in-head y xs)
        | inr later ↦ in-rest y xs x (rest later)
      ]
      at false rest i = in-rest y xs x (rest i)

-- ---- products that say the same
module _ (left right : U) (common only_left only_right : List U) (parted : AreApart left right common only_left only_right) where
  atoms-beside : IsPermutation (atoms left) (atoms right) → IsPermutation (filter is_atom only_left) (filter is_atom only_right)
  atoms-beside = filter-beside is_atom (mul_leaves left) (mul_leaves right) common only_left only_right parted.left_is parted.right_is

  pub right-gives : SayTheSame left right → (x : U) → IsIn x only_right → EntailsFactor left x
  right-gives h x i = elim (cases_Bool (is_atom x)) [
    | inl is ↦ absurd (parted.apart x (of-filtered is_atom only_left x
        (in-permuted (filter is_atom only_right) (filter is_atom only_left) x
        (IsPermutation-sym (filter is_atom only_left) (filter is_atom only_right) (atoms-beside h.atoms_are)) (in-filtered is_atom only_right x is i))) i)
    | inr isnt ↦ h.forth x (in-permuted (common ++ only_right) (mul_leaves right) x (IsPermutation-sym (mul_leaves right) (common ++ only_right) parted.right_is) (in-right common only_right x i)) isnt
  ]

  pub left-gives : SayTheSame left right → (x : U) → IsIn x only_left → EntailsFactor right x
  left-gives h x i = elim (cases_Bool (is_atom x)) [
    | inl is ↦ absurd (parted.apart x i (of-filtered is_atom only_right x
        (in-permuted (filter is_atom only_left) (filter is_atom only_right) x (atoms-beside h.atoms_are) (in-filtered is_atom only_left x is i))))
    | inr isnt ↦ h.back x (in-permuted (common ++ only_left) (mul_leaves left) x (IsPermutation-sym (mul_leaves left) (common ++ only_left) parted.left_is) (in-right common only_left x i)) isnt
  ]
