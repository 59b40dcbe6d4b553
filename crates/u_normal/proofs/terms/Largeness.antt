-- When a term is too large.
use Rattle.std.proofs.Common.{◌≡◌, ℕ, ◌*◌, ◌<◌, min, ap, subst, ◌∙◌, arith}
use Rattle.u_terms.specs.declared.facts.Facts.{Facts}
use Rattle.u_terms.specs.Syntax.{U}
use Rattle.u_terms.specs.Size.{nodes}
use Rattle.u_deriv.specs.Steps.{Replays}
use Rattle.u_deriv.proofs.steps.Arguments.{nodes-positive}
use Rattle.u_moves.specs.Derivations.{Derivation}
use Rattle.u_moves.proofs.derivations.Sound.{sound-plain}
use Rattle.normal_form.specs.Ways.{ways}
use Rattle.normal_form.proofs.WaysAt.{capped, ways-positive}
use Rattle.u_normal.specs.Leading.{Leads}
use Rattle.u_normal.specs.Limits.{IsTooLarge, IsRoomFor, for_any, for_most, spread, unlimited}
use Rattle.u_normal.specs.Rooms.{IsExcess}
use Rattle.u_normal.specs.Shaped.{IsShaped, KeepsShapes, sum_of_shapes, squash_of_shape}

-- ---- how much may come of a term
module _ (t : U) (w n p most : ℕ) (is_w : w ≡ min (ways t) most) (is_n : n ≡ min (nodes t) most) (is_p : p ≡ min (w * n) most) (large : unlimited < most) where
  product-is : p ≡ min (spread t) most
  product-is =
      is_p ∙ ap (λ (x : ℕ). min (x * n) most) is_w ∙ ap (λ (x : ℕ). min (min (ways t) most * x) most) is_n
      ∙ capped (ways t) (nodes t) most (ways-positive t) (nodes-positive t) (omega (arith, large))

  pub spreads : unlimited < p → unlimited < spread t
  spreads h = less p (spread t) most product-is h
    where
      less : (p s m : ℕ) → p ≡ min s m → unlimited < p → unlimited < s
      less p s m e h = omega (arith, e, h)

-- ---- what is reached
pub too-large : (F : Facts) (outs : ℕ) (t : U) (P : U → Type 0) (room count : ℕ) (d : Derivation) → IsRoomFor t room → Leads P F outs t d → IsExcess room d count → (IsShaped outs t → ⊥) → IsTooLarge F outs t count
too-large F outs t P room count d (for_any any) h over shapeless = absurd (omega (arith, any, over.more, over.fits))
too-large F outs t P room count d (for_most spreads is) h over shapeless = record {
  reached = d.to;
  steps = d.steps;
  replays = subst (λ (first : U). Replays F outs first d.steps d.to) h.from
      (subst (λ (n : ℕ). Replays F n d.from d.steps d.to) h.outs
      (subst (λ (G : Facts). Replays G d.outs d.from d.steps d.to) h.facts (sound-plain d over.sound)));
  counted = over.counted;
  many = omega (arith, over.more, is);
  spreads = spreads;
  shapeless = shapeless;
}

pub shapeless-keeps : (outs : ℕ) (t : U) (d : Derivation) → (IsShaped outs t → ⊥) → KeepsShapes outs t d
shapeless-keeps outs t d shapeless = record { sum = λ ss h. absurd (shapeless (sum_of_shapes ss h)); squash = λ s h. absurd (shapeless (squash_of_shape s h)) }
