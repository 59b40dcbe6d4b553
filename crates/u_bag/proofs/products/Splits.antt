-- What two lists have in common, found member by member of the second one.
use Rattle.std.proofs.Common.{◌≡◌, ℕ, zero, suc, ◌<◌, inl, inr, List, [], ◌∷◌, ◌++◌, length, map, get_or, Some, refl, ap, sym, subst, ◌∙◌, arith}
use Rattle.std.specs.Prelude.{IsPermutation, remove, slice_get}
use Rattle.std.proofs.lemmas.Option.{none-some, same_Some}
use Rattle.u_equal.specs.Standing.{IsIn}
use Rattle.u_equal.proofs.products.Members.{in-head, in-rest, in-cons, in-none, in-push}
use Rattle.std.proofs.lemmas.List.{append_assoc, map-append}
use Rattle.std.proofs.lemmas.List.Sorted.{IsPermutation-refl, IsPermutation-sym, IsPermutation-append, IsPermutation-middle, IsPermutation-more, IsPermutation-push_more, IsPermutation-map}

module _ {X Y : Type 0} (f : X → Y) where
  -- the first list and so far the second one have members in common, by what they are worth, and these beside them
  pub record IsSplit (left done only_left only_right : List X) : Type 0 where
    pub of_left : List X
    pub of_right : List X
    pub same : map f of_left ≡ map f of_right
    pub left_is : IsPermutation left (of_left ++ only_left)
    pub right_is : IsPermutation done (of_right ++ only_right)

  pub split-none : (left : List X) → IsSplit left [] left []
  split-none left = record { of_left = []; of_right = []; same = refl; left_is = IsPermutation-refl left; right_is = IsPermutation-refl [] }

  -- one more that they have in common
  pub split-same : (left done only_left only_right : List X) (i : ℕ) (x y : X) → IsSplit left done only_left only_right
      → i < length only_left → x ≡ get_or only_left i x → f x ≡ f y → IsSplit left (done ++ y ∷ []) (remove only_left i) only_right
  split-same left done only_left only_right i x y s lt is e = record {
    of_left = s.of_left ++ x ∷ [];
    of_right = s.of_right ++ y ∷ [];
    same = map-append f s.of_left (x ∷ []) ∙ ap (λ (l : List Y). l ++ f x ∷ []) s.same ∙ ap (λ (z : Y). map f s.of_right ++ z ∷ []) e ∙ sym (map-append f s.of_right (y ∷ []));
    left_is = IsPermutation-more left s.of_left only_left i x lt is s.left_is;
    right_is = IsPermutation-push_more done (s.of_right ++ only_right) ((s.of_right ++ y ∷ []) ++ only_right) y s.right_is
        (IsPermutation-sym ((s.of_right ++ y ∷ []) ++ only_right) (y ∷ (s.of_right ++ only_right))
        (subst (λ (l : List X). IsPermutation l (y ∷ (s.of_right ++ only_right))) (sym (append_assoc s.of_right (y ∷ []) only_right)) (IsPermutation-middle s.of_right y only_right)));
  }

  -- one more of the second alone
  pub split-new : (left done only_left only_right : List X) (y : X) → IsSplit left done only_left only_right → IsSplit left (done ++ y ∷ []) only_left (only_right ++ y ∷ [])
  split-new left done only_left only_right y s = record {
    of_left = s.of_left;
    of_right = s.of_right;
    same = s.same;
    left_is = s.left_is;
    right_is = subst (λ (l : List X). IsPermutation (done ++ y ∷ []) l) (append_assoc s.of_right only_right (y ∷ []))
        (IsPermutation-append done (s.of_right ++ only_right) (y ∷ []) (y ∷ []) s.right_is (IsPermutation-refl (y ∷ [])));
  }

  pub split-left : (left done only_left only_right : List X) (s : IsSplit left done only_left only_right) → IsPermutation (map f left) (map f s.of_left ++ map f only_left)
  split-left left done only_left only_right s =
      subst (λ (l : List Y). IsPermutation (map f left) l) (map-append f s.of_left only_left) (IsPermutation-map f left (s.of_left ++ only_left) s.left_is)

  pub split-right : (left done only_left only_right : List X) (s : IsSplit left done only_left only_right) → IsPermutation (map f done) (map f s.of_left ++ map f only_right)
  split-right left done only_left only_right s =
      subst (λ (l : List Y). IsPermutation (map f done) (l ++ map f only_right)) (sym s.same)
      (subst (λ (l : List Y). IsPermutation (map f done) l) (map-append f s.of_right only_right) (IsPermutation-map f done (s.of_right ++ only_right) s.right_is))

-- ---- members that are beside the common ones in one list alone
module _ {X Y : Type 0} (f : X → Y) where
  abbrev pub AreDisjoint : List X → List X → Type 0
  AreDisjoint only_left only_right = (y : Y) → IsIn y (map f only_left) → IsIn y (map f only_right) → ⊥

  pub disjoint-none : (left : List X) → AreDisjoint left []
  disjoint-none left y i j = in-none y j

  -- one fewer on the left
  pub disjoint-same : (only_left only_right : List X) (i : ℕ) → AreDisjoint only_left only_right → AreDisjoint (remove only_left i) only_right
  disjoint-same only_left only_right i h y in_left in_right = h y (in-removed only_left i y in_left) in_right
    where
      in-removed : (xs : List X) (i : ℕ) (y : Y) → IsIn y (map f (remove xs i)) → IsIn y (map f xs)
      in-removed [] zero y k = k
      in-removed [] (suc i) y k = k
      in-removed (x ∷ xs) zero y k = in-rest (f x) (map f xs) y k
      in-removed (x ∷ xs) (suc i) y k = elim (in-cons (f x) (map f (remove xs i)) y k) [
        | inl is ↦ subst (λ (z : Y). IsIn z (map f (x ∷ xs))) (sym is) (in-head (f x) (map f xs))
        | inr more ↦ in-rest (f x) (map f xs) y (in-removed xs i y more)
      ]

  -- one more on the right that is not on the left
  pub disjoint-new : (only_left only_right : List X) (y : X) → AreDisjoint only_left only_right → (IsIn (f y) (map f only_left) → ⊥) → AreDisjoint only_left (only_right ++ y ∷ [])
  disjoint-new only_left only_right y h apart z in_left in_right =
      elim (in-push (map f only_right) (f y) z (subst (λ (l : List Y). IsIn z l) (map-append f only_right (y ∷ [])) in_right)) [
        | inl before ↦ h z in_left before
        | inr last ↦ apart (subst (λ (w : Y). IsIn w (map f only_left)) last in_left)
      ]

  -- ---- the member that stands at a place
  get-any : (xs : List X) (i : ℕ) (d e : X) → i < length xs → get_or xs i d ≡ get_or xs i e
  get-any [] i d e less = absurd (omega (arith, less))
  get-any (x ∷ xs) zero d e less = refl
  get-any (x ∷ xs) (suc i) d e less = get-any xs i d e (omega (arith, less))

  worth-at : (xs : List X) (i : ℕ) (d : X) (y : Y) → slice_get (map f xs) i ≡ Some y → (i < length xs) × (f (get_or xs i d) ≡ y)
  worth-at [] i d y at = absurd (none-some y at)
  worth-at (x ∷ xs) zero d y at = (omega arith, same_Some (f x) y at)
  worth-at (x ∷ xs) (suc i) d y at = let k = worth-at xs i d y at in (omega (arith, k.0), k.1)

  pub split-at : (left done only_left only_right : List X) (i : ℕ) (y : X) → slice_get (map f only_left) i ≡ Some (f y) → IsSplit f left done only_left only_right
      → IsSplit f left (done ++ y ∷ []) (remove only_left i) only_right
  split-at left done only_left only_right i y at s =
      let k = worth-at only_left i y (f y) at in
      split-same f left done only_left only_right i (get_or only_left i y) y s k.0 (get-any only_left i y (get_or only_left i y) k.0) k.1
