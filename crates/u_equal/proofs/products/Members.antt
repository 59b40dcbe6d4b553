-- Where items stand in lists.
use Rattle.std.proofs.Common.{◌≡◌, ℕ, zero, suc, List, [], ◌∷◌, ◌++◌, inl, inr, refl, sym, subst}
use Rattle.std.specs.Prelude.{◌⊎◌, Some, slice_get}
use Rattle.std.proofs.lemmas.Option.{same_Some, none-some}
use Rattle.u_equal.specs.Standing.{IsIn}

module _ {X : Type 0} where
  pub in-head : (x : X) (xs : List X) → IsIn x (x ∷ xs)
  in-head x xs = record { place = 0; here = refl }

  pub in-rest : (y : X) (xs : List X) (x : X) → IsIn x xs → IsIn x (y ∷ xs)
  in-rest y xs x h = record { place = suc h.place; here = h.here }

  -- the first item or one of the rest
  at-cons : (y : X) (xs : List X) (x : X) (i : ℕ) → slice_get (y ∷ xs) i ≡ Some x → (x ≡ y) ⊎ IsIn x xs
  at-cons y xs x zero at = inl (sym (same_Some y x at))
  at-cons y xs x (suc i) at = inr (record { place = i; here = at })

  pub in-cons : (y : X) (xs : List X) (x : X) → IsIn x (y ∷ xs) → (x ≡ y) ⊎ IsIn x xs
  in-cons y xs x h = at-cons y xs x h.place h.here

  pub in-none : (x : X) → IsIn x [] → ⊥
  in-none x h = none-some x h.here

  pub in-left : (xs ys : List X) (x : X) → IsIn x xs → IsIn x (xs ++ ys)
  in-left [] ys x h = absurd (in-none x h)
  in-left (y ∷ xs) ys x h = elim (in-cons y xs x h) [
    | inl is ↦ subst (λ (z : X). IsIn z (y ∷ (xs ++ ys))) (sym is) (in-head y (xs ++ ys))
    | inr more ↦ in-rest y (xs ++ ys) x (in-left xs ys x more)
  ]

  pub in-right : (xs ys : List X) (x : X) → IsIn x ys → IsIn x (xs ++ ys)
  in-right [] ys x h = h
  in-right (y ∷ xs) ys x h = in-rest y (xs ++ ys) x (in-right xs ys x h)

  pub in-either : (xs ys : List X) (x : X) → IsIn x (xs ++ ys) → IsIn x xs ⊎ IsIn x ys
  in-either [] ys x h = inr h
  in-either (y ∷ xs) ys x h = elim (in-cons y (xs ++ ys) x h) [
    | inl is ↦ inl (subst (λ (z : X). IsIn z (y ∷ xs)) (sym is) (in-head y xs))
    | inr more ↦ elim (in-either xs ys x more) [
      | inl here ↦ inl (in-rest y xs x here)
      | inr there ↦ inr there
    ]
  ]

  pub in-last : (xs : List X) (x : X) → IsIn x (xs ++ x ∷ [])
  in-last xs x = in-right xs (x ∷ []) x (in-head x [])

  pub in-push : (xs : List X) (y x : X) → IsIn x (xs ++ y ∷ []) → IsIn x xs ⊎ (x ≡ y)
  in-push xs y x h = elim (in-either xs (y ∷ []) x h) [
    | inl here ↦ inl here
    | inr last ↦ elim (in-cons y [] x last) [
      | inl is ↦ inr is
      | inr none ↦ absurd (in-none x none)
    ]
  ]
