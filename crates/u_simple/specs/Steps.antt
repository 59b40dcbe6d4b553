-- Derivations of one step.
use Rattle.std.specs.Prelude.{◌≡◌, ◌+◌, ◌*◌, max, length}
use Rattle.u_terms.specs.Syntax.{U}
use Rattle.u_terms.specs.Size as size
use Rattle.u_deriv.specs.LineBounds.{lines_bound}
use Rattle.u_moves.specs.Derivations.{Derivation, HasPlainSteps}

-- one plain step between these terms, and no term but these on the way
pub record IsOnePlainStep (first last : U) (d : Derivation) : Type 0 where
  pub steps : length d.steps ≡ 1
  pub nodes : d.nodes ≡ max (size.nodes first) (size.nodes last)
  pub depth : d.depth ≡ max (size.depth first) (size.depth last)
  pub bytes : lines_bound d.steps ≡ 18 + 14 * (size.nodes first + size.nodes last)
  pub plain : HasPlainSteps d
