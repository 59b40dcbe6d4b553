-- Places of a list.
use Rattle.std.proofs.Common.{◌≡◌, ℕ, zero, suc, ◌≤◌, List, [], ◌∷◌, length, get_or, Option, Some, None, refl, arith, ◌∙◌, inl, inr, subst}
use Rattle.std.specs.Prelude.{slice_get}
use Rattle.std.proofs.lemmas.Option.{slice_get_cases}

some-is-no-none : {X : Type 0} (x : X) → None ≡ Some x → ⊥
some-is-no-none {X} x e = subst is_none e tt
  where
    is_none : Option X → Type 0
    is_none None = Unit {0}
    is_none (Some y) = ⊥

pub none-past : {X : Type 0} (xs : List X) (place : ℕ) → None ≡ slice_get xs place → length xs ≤ place
none-past xs place is = elim ((slice_get_cases xs place).1) [
  | inl there ↦ absurd (some-is-no-none there.0 (is ∙ there.2))
  | inr past ↦ past.0
]

pub past-end : {X : Type 0} (xs : List X) (i : ℕ) (d : X) → length xs ≤ i → get_or xs i d ≡ d
past-end [] i d h = refl
past-end (x ∷ xs) zero d h = absurd (omega (arith, h))
past-end (x ∷ xs) (suc i) d h = past-end xs i d (omega (arith, h))
