-- Terms that meet turn by turn. Contracts of private functions alone cite this.
use Rattle.std.specs.Prelude.{◌≡◌, ℕ, List, Option, Some, None}
use denote.Ref.{Bor}
use Rattle.u_terms.specs.Binding.{opened, sums}
use Rattle.u_terms.specs.Syntax.{U}
use Rattle.u_terms.specs.declared.facts.Facts.{Facts}
use Rattle.u_binder.specs.Changes.{exchanged}
use Rattle.u_rules.specs.Terms.{S}
use Rattle.u_moves.specs.Derivations.{Derivation}
use Rattle.u_congruence.specs.Congruence.{IsFromTo}
use Rattle.u_simple.specs.Passes.{IsFrom}
use Rattle.shapes.specs.Shapes.{Shape}
use Rattle.shape_entails.specs.Places.{IsAround}
use Rattle.shape_entails.specs.Turning.{AreTurning}

-- by these turns their products come to say the same
pub record Turn (turns : List ℕ) (left right : U) : Type 0 where
  pub s : Shape
  pub t : Shape
  pub forth : ℕ → ℕ
  pub back : ℕ → ℕ
  pub turning : AreTurning s t forth back turns left right

-- from the one term to the other, unless the turns do not lead there
abbrev pub IsMeeting : Facts → ℕ → List ℕ → U → U → Option Derivation → Type 0
IsMeeting F names turns left right None = Turn turns left right → ⊥
IsMeeting F names turns left right (Some d) = IsFromTo F names left right d

-- the same of two sums, by the turns of what they sum
abbrev pub IsMeetingInside : Facts → ℕ → List ℕ → U → U → Option Derivation → Type 0
IsMeetingInside F names turns f g None = Turn turns (opened f names) (opened g names) → ⊥
IsMeetingInside F names turns f g (Some d) = IsFromTo F names (S f) (S g) d

-- and where a derivation leads to the first sum
abbrev pub IsMeetingAfter : Facts → ℕ → List ℕ → Derivation → U → Option Derivation → Type 0
IsMeetingAfter F names turns first g None = (f : U) → first.to ≡ S f → Turn turns (opened f names) (opened g names) → ⊥
IsMeetingAfter F names turns first g (Some d) = IsFromTo F names first.from (S g) d

-- the sum that stood inside so many others stands outside them
pub record GoesOutward (F : Facts) (names turn : ℕ) (f : U) (d : Derivation) : Type 0 where
  pub from : IsFrom F names (S f) d
  pub body : U
  pub is : f ≡ sums turn body
  pub to : d.to ≡ S (sums turn (exchanged turn 1 body))

abbrev pub IsOutward : Facts → ℕ → ℕ → U → Option Derivation → Type 0
IsOutward F names turn f None = IsAround turn f → ⊥
IsOutward F names turn f (Some d) = GoesOutward F names turn f d

-- what stands inside so many sums
abbrev pub IsInsideSums : ℕ → U → Option (Bor U) → Type 0
IsInsideSums count u None = IsAround count u → ⊥
IsInsideSums count u (Some body) = u ≡ sums count body.now
