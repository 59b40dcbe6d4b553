-- Where a term has no derivation to its normal form.
use Rattle.std.specs.Prelude.{◌≡◌, ℕ, ◌+◌, ◌*◌, ◌^◌, ◌<◌, ◌≤◌, List, Result, Ok, Err}
use Rattle.u_terms.specs.Syntax.{U}
use Rattle.u_terms.specs.Size as size
use Rattle.u_terms.specs.declared.facts.Facts.{Facts}
use Rattle.u_deriv.specs.declared.step.Step.{Step}
use Rattle.u_deriv.specs.Steps.{Replays}
use Rattle.u_moves.specs.Derivations.{Derivation}
use Rattle.normal_form.specs.Ways.{ways}
use Rattle.u_normal.specs.declared.limits.NormalFault.{NormalFault}
use Rattle.u_normal.specs.declared.limits.NormalFault.TheVariants.{TooLarge, NoMemory}
use Rattle.u_normal.specs.Shaped.{IsShaped}

abbrev pub most_nodes : ℕ
most_nodes = 200000

-- how many nodes all blocks may have in normal form, about
abbrev pub spread : U → ℕ
spread u = ways u * size.nodes u

abbrev pub unlimited : ℕ
unlimited = 20000

-- The steps lead from the term to one that has this many nodes, which are more than a term may have. The term's blocks may be many, and it
-- is no sum of blocks that have shapes, nor one squash of such a block.
pub record IsTooLarge (F : Facts) (names : ℕ) (u : U) (nodes : ℕ) : Type 0 where
  pub reached : U
  pub steps : List Step
  pub replays : Replays F names u steps reached
  pub counted : nodes ≡ size.nodes reached
  pub many : most_nodes < nodes
  pub spreads : unlimited < spread u
  pub shapeless : IsShaped names u → ⊥

-- where the call says so
abbrev pub IsLarge : Facts → ℕ → U → Result Derivation NormalFault → Type 0
IsLarge F names u (Ok d) = Unit {0}
IsLarge F names u (Err (TooLarge nodes)) = IsTooLarge F names u nodes
IsLarge F names u (Err NoMemory) = Unit {0}

-- ---- contracts of private functions alone cite this
pub data IsRoomFor (u : U) : ℕ → Type 0 where
  for_any : {room : ℕ} → 2 ^ 64 ≤ room + 1 → IsRoomFor u room
  for_most : {room : ℕ} → unlimited < spread u → room ≡ most_nodes → IsRoomFor u room
