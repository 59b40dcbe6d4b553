-- How often a row is among those that a block makes of its frames.
use Rattle.std.proofs.Common.{◌≡◌, ◌*◌, Bool, true, List, [], ◌∷◌, map, filter, refl, ap, ◌∙◌, arith}
use Rattle.data_model.specs.Numbers.{one_if}
use Rattle.data_model.specs.Rows.{Row, same_row, occurrences}
use Rattle.data_model.proofs.Occurrences.{occurrences-made}

-- a block without groups keeps each combination as a frame
pub all-frames : {X Y : Type 0} (g : Y → Row) (f : X → Y) (cs : List X) → map g (filter (λ y. true) (map f cs)) ≡ map (λ c. g (f c)) cs
all-frames g f [] = refl
all-frames g f (c ∷ cs) = ap (λ rows. g (f c) ∷ rows) (all-frames g f cs)

-- a block that is one group has one
pub occurrences-one : {X : Type 0} (r : Row) (g : X → Row) (p : X → Bool) (f : X) → occurrences r (map g (filter p (f ∷ []))) ≡ one_if (p f) * one_if (same_row (g f) r)
occurrences-one r g p f = occurrences-made r g p (f ∷ []) ∙ (omega arith)
