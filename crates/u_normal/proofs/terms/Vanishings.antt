-- Terms of which nothing is left: their parts, and bodies that are opened.
use Rattle.std.proofs.Common.{◌≡◌, ℕ, ◌+◌, List, ◌++◌, refl, ap, sym, subst, ◌∙◌}
use Rattle.u_terms.specs.declared.term.U.TheVariants as u
use Rattle.u_terms.specs.Syntax.{U, Val, constructors}
use Rattle.u_terms.specs.Binding.{mapped, closed_at, opened, same_name, value_for_place}
use Rattle.u_terms.specs.declared.term.Val.TheVariants as v
use Rattle.u_rules.specs.Terms.{◌⊕◌, O, add_leaves}
use Rattle.u_rules.proofs.multisets.LeavesAt.{add_leaves-Add, add_leaves-Zero}
use Rattle.normal_form.specs.NormalTerms.{sum_of}
use Rattle.u_normal.specs.Vanishing.{Vanishes, zero_vanishes, sum_vanishes, left_vanishes, right_vanishes, body_vanishes}

-- ---- wholes
module _ (t : U) where
  pub vanishes-Zero : t ≡ u.Zero → Vanishes t
  unfolding constructors
  vanishes-Zero e = subst (λ x. Vanishes x) (sym e) zero_vanishes

  module _ (a b : U) where
    pub vanishes-Add : t ≡ u.Add a b → Vanishes a → Vanishes b → Vanishes t
    unfolding constructors
    vanishes-Add e h k = subst (λ x. Vanishes x) (sym e) (sum_vanishes h k)

    pub vanishes-Mul_left : t ≡ u.Mul a b → Vanishes a → Vanishes t
    unfolding constructors
    vanishes-Mul_left e h = subst (λ x. Vanishes x) (sym e) (left_vanishes h)

    pub vanishes-Mul_right : t ≡ u.Mul a b → Vanishes b → Vanishes t
    unfolding constructors
    vanishes-Mul_right e h = subst (λ x. Vanishes x) (sym e) (right_vanishes h)

  pub vanishes-Sum : (f : U) → t ≡ u.Sum f → Vanishes f → Vanishes t
  unfolding constructors
  vanishes-Sum f e h = subst (λ x. Vanishes x) (sym e) (body_vanishes h)

-- ---- parts
first-of : (a b : U) → Vanishes (u.Add a b) → Vanishes a
unfolding constructors
first-of a b (sum_vanishes h k) = h

second-of : (a b : U) → Vanishes (u.Add a b) → Vanishes b
unfolding constructors
second-of a b (sum_vanishes h k) = k

other-of : (a b : U) → (Vanishes a → ⊥) → Vanishes (u.Mul a b) → Vanishes b
unfolding constructors
other-of a b not (left_vanishes h) = absurd (not h)
other-of a b not (right_vanishes h) = h

body-of : (f : U) → Vanishes (u.Sum f) → Vanishes f
unfolding constructors
body-of f (body_vanishes h) = h

module _ (t : U) (h : Vanishes t) where
  module _ (a b : U) where
    pub first-vanishes : t ≡ u.Add a b → Vanishes a
    first-vanishes e = first-of a b (subst (λ x. Vanishes x) e h)

    pub second-vanishes : t ≡ u.Add a b → Vanishes b
    second-vanishes e = second-of a b (subst (λ x. Vanishes x) e h)

    pub other-vanishes : t ≡ u.Mul a b → (Vanishes a → ⊥) → Vanishes b
    other-vanishes e not = other-of a b not (subst (λ x. Vanishes x) e h)

  pub body-vanishes : (f : U) → t ≡ u.Sum f → Vanishes f
  body-vanishes f e = body-of f (subst (λ x. Vanishes x) e h)

nothing-else : (t : U) → Vanishes t → ((a b : U) → t ≡ u.Add a b → ⊥) → ((a b : U) → t ≡ u.Mul a b → ⊥) → ((f : U) → t ≡ u.Sum f → ⊥) → t ≡ u.Zero
unfolding constructors
nothing-else t zero_vanishes not_sum not_product not_over = refl
nothing-else t (sum_vanishes {a = a} {b = b} h k) not_sum not_product not_over = absurd (not_sum a b refl)
nothing-else t (left_vanishes {a = a} {b = b} h) not_sum not_product not_over = absurd (not_product a b refl)
nothing-else t (right_vanishes {a = a} {b = b} h) not_sum not_product not_over = absurd (not_product a b refl)
nothing-else t (body_vanishes {body = f} h) not_sum not_product not_over = absurd (not_over f refl)

pub only-zero : (t : U) → Vanishes t → ((a b : U) → t ≡ u.Add a b → ⊥) → ((a b : U) → t ≡ u.Mul a b → ⊥) → ((f : U) → t ≡ u.Sum f → ⊥) → t ≡ u.Zero
only-zero = nothing-else

-- ---- a body that is opened
module _ (f g : ℕ → ℕ → Val) where
  mapped-vanishes : (k : ℕ) (t : U) → Vanishes t → Vanishes (mapped f g k t)
  unfolding mapped
  mapped-vanishes k t zero_vanishes = zero_vanishes
  mapped-vanishes k t (sum_vanishes {a = a} {b = b} h l) = sum_vanishes (mapped-vanishes k a h) (mapped-vanishes k b l)
  mapped-vanishes k t (left_vanishes {a = a} {b = b} h) = left_vanishes {b = mapped f g k b} (mapped-vanishes k a h)
  mapped-vanishes k t (right_vanishes {a = a} {b = b} h) = right_vanishes {a = mapped f g k a} (mapped-vanishes k b h)
  mapped-vanishes k t (body_vanishes {body = body} h) = body_vanishes (mapped-vanishes (k + 1) body h)

pub opened-vanishes : (t : U) (x : ℕ) → Vanishes t → Vanishes (opened t x)
opened-vanishes t x h = mapped-vanishes (value_for_place (v.Free x)) same_name 0 t h

-- ---- sums of nothing
pub nothing-added : sum_of (add_leaves (O ⊕ O)) ≡ O
nothing-added = ap sum_of (add_leaves-Add O O ∙ ap (λ (us : List U). us ++ add_leaves O) add_leaves-Zero ∙ add_leaves-Zero)

pub zero-closed : (x : ℕ) → closed_at O x ≡ O
unfolding mapped constructors
zero-closed x = refl
