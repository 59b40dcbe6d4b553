-- Why no derivation between the terms of two filtered unions is known.
use Rattle.std.specs.Prelude.{◌≡◌, ℕ, Bool, true, List}
use Rattle.shapes.specs.Shapes.{Shape}
use Rattle.shapes.specs.Small.{Small}
use Rattle.shapes.specs.Unions.{AllAlike}
use Rattle.u_prover.specs.Proving.{SomeSearchPasses}

-- That the budget is spent is said only where some search for a pairing of two of the blocks passes it. Of small unions that are alike nothing
-- else is said.
pub record IsUnknownOf (ss ts : List Shape) (budget : ℕ) (spent : Bool) : Type 0 where
  pub passes : spent ≡ true → SomeSearchPasses ss ts budget
  pub alike : AllAlike ss ts → Small ss ts → spent ≡ true
