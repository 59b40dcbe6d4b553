-- Whether two values are equal, as a factor.
use Rattle.std.proofs.Common.{◌≡◌, ℕ, ◌*◌, refl, ap, sym, ◌∙◌, arith, inl, inr}
use Rattle.std.specs.Prelude.{nat_eq}
use Rattle.std.proofs.lemmas.Bool.{cases_eq, eq-eqb, ne_eqb}
use Rattle.data_model.specs.Numbers.{one_if}

pub point-same : (v w : ℕ) → v ≡ w → one_if (nat_eq v w) ≡ 1
point-same v w e = rw (eq-eqb v w e) refl

pub point-other : (v w : ℕ) → (v ≡ w → ⊥) → one_if (nat_eq v w) ≡ 0
point-other v w e = rw (ne_eqb v w e) refl

pub point-sym : (v w : ℕ) → one_if (nat_eq v w) ≡ one_if (nat_eq w v)
point-sym v w = elim (cases_eq v w) [
  | inl here ↦ point-same v w here ∙ sym (point-same w v (sym here))
  | inr other ↦ point-other v w other ∙ sym (point-other w v (λ e. other (sym e)))
]

off : (v w m : ℕ) → (v ≡ w → ⊥) → one_if (nat_eq v w) * m ≡ 0
off v w m e = rw (point-other v w e) (omega arith)

-- where two values are equal, what depends on the one may depend on the other
pub point-moves : (v w : ℕ) (f : ℕ → ℕ) → one_if (nat_eq v w) * f v ≡ one_if (nat_eq v w) * f w
point-moves v w f = elim (cases_eq v w) [
  | inl here ↦ ap (λ (x : ℕ). one_if (nat_eq v w) * f x) here
  | inr other ↦ off v w (f v) other ∙ sym (off v w (f w) other)
]
