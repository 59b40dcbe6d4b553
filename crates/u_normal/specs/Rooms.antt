-- Terms that have a property as long as there is room for them.
use Rattle.std.specs.Prelude.{◌≡◌, ℕ, ◌-◌, ◌^◌, ◌<◌, ◌≤◌}
use Rattle.u_terms.specs.Syntax.{U}
use Rattle.u_terms.specs.Size.{nodes}
use Rattle.u_moves.specs.Derivations.{Derivation, IsSound}

-- of a term with more nodes than there is room for nothing is said
pub record InRoom (room : ℕ) (P : U → Type 0) (u : U) : Type 0 where
  pub fits : nodes u ≤ room → P u

pub record BecomesInRoom (room : ℕ) (P : U → U → Type 0) (before after : U) : Type 0 where
  pub fits : nodes after ≤ room → P before after

-- what is left of the room for the other part of a sum or of a product
abbrev pub beside : ℕ → U → ℕ
beside room part = room - nodes part - 1

-- ---- contracts of private functions alone cite this
-- the last term has so many nodes, and they are more
pub record IsExcess (room : ℕ) (d : Derivation) (count : ℕ) : Type 0 where
  pub counted : count ≡ nodes d.to
  pub more : room < count
  pub fits : count < 2 ^ 64
  pub sound : IsSound d
