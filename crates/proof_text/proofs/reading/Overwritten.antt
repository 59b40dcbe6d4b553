-- A list that is written over from its first place on.
use Rattle.std.proofs.Common.{◌≡◌, ℕ, ◌+◌, ◌<◌, List, [], ◌∷◌, ◌++◌, length, take, refl, ap, ◌∙◌}
use Rattle.std.specs.Prelude.{set}
use Rattle.std.proofs.lemmas.Grind.{take-set_at}

-- the item at this place was written, where the list was lengthened before if it had none there
pub written : {A : Type 0} (kept ready : List A) (at : ℕ) (item : A) → at < length ready → take at ready ≡ take at kept → take (at + 1) (set ready at item) ≡ take at kept ++ item ∷ []
written kept ready at item h e = take-set_at ready at (at + 1) item refl h ∙ ap (λ (prefix : List _). prefix ++ item ∷ []) e
