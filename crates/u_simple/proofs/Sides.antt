-- Places that are sides of equalities under sums and in products.
use Rattle.std.proofs.Common.{◌≡◌, ℕ, ◌⊎◌, inl, inr, refl, sym, subst, ◌∙◌, ap}
use Rattle.u_terms.specs.declared.term.U.TheVariants as u
use Rattle.u_terms.specs.declared.term.Val.TheVariants as v
use Rattle.u_terms.specs.Syntax.{U, Val, constructors}
use Rattle.u_simple.specs.Sums.{HasSide, first_side, second_side, in_left, in_right, under_sum}

module _ (place : ℕ) where
  module _ (t : U) where
    module _ (a b : U) (is : t ≡ u.Mul a b) where
      pub side-left : HasSide place a → HasSide place t
      unfolding constructors
      side-left h = subst (λ x. HasSide place x) (sym is) (in_left h)

      pub side-right : HasSide place b → HasSide place t
      unfolding constructors
      side-right h = subst (λ x. HasSide place x) (sym is) (in_right h)

    pub side-under : (f : U) → t ≡ u.Sum f → HasSide place f → HasSide place t
    unfolding constructors
    side-under f is h = subst (λ x. HasSide place x) (sym is) (under_sum h)

    module _ (a b : Val) (is : t ≡ u.Eq a b) where
      pub side-first : a ≡ v.Bound place → HasSide place t
      unfolding constructors
      side-first e = subst (λ x. HasSide place x) (sym (is ∙ ap (λ (x : Val). u.Eq x b) e)) first_side

      pub side-second : b ≡ v.Bound place → HasSide place t
      unfolding constructors
      side-second e = subst (λ x. HasSide place x) (sym (is ∙ ap (λ (x : Val). u.Eq a x) e)) second_side

  of-product : (a b : U) → HasSide place (u.Mul a b) → HasSide place a ⊎ HasSide place b
  unfolding constructors
  of-product a b (in_left h) = inl h
  of-product a b (in_right h) = inr h

  of-sum : (f : U) → HasSide place (u.Sum f) → HasSide place f
  unfolding constructors
  of-sum f (under_sum h) = h

  of-equality : (a b : Val) → HasSide place (u.Eq a b) → (a ≡ v.Bound place) ⊎ (b ≡ v.Bound place)
  unfolding constructors
  of-equality a b first_side = inl refl
  of-equality a b second_side = inr refl

  module _ (t : U) (h : HasSide place t) where
    pub side-of_product : (a b : U) → t ≡ u.Mul a b → (HasSide place a → ⊥) → HasSide place b
    side-of_product a b is not = elim (of-product a b (subst (λ x. HasSide place x) is h)) [ inl k ↦ absurd (not k) | inr k ↦ k ]

    pub side-of_sum : (f : U) → t ≡ u.Sum f → HasSide place f
    side-of_sum f is = of-sum f (subst (λ x. HasSide place x) is h)

    pub side-of_equality : (a b : Val) → t ≡ u.Eq a b → (a ≡ v.Bound place → ⊥) → b ≡ v.Bound place
    side-of_equality a b is not = elim (of-equality a b (subst (λ x. HasSide place x) is h)) [ inl k ↦ absurd (not k) | inr k ↦ k ]
