-- What a derivation leads to.
use Rattle.std.specs.Prelude.{◌≡◌, ℕ, ◌+◌, ◌≤◌, max, length}
use Rattle.u_terms.specs.Syntax.{U}
use Rattle.u_terms.specs.Size.{nodes, depth}
use Rattle.u_terms.specs.declared.facts.Facts.{Facts}
use Rattle.u_moves.specs.Derivations.{Derivation, HasPlainSteps}

-- from the term to one that has the property
pub record Leads (P : U → Type 0) (F : Facts) (names : ℕ) (first : U) (d : Derivation) : Type 0 where
  pub facts : d.facts ≡ F
  pub outs : d.outs ≡ names
  pub from : d.from ≡ first
  pub reached : P d.to

-- one step more at most, a plain one, that leads to the last term
pub record IsOneMore (before d : Derivation) : Type 0 where
  pub few : length d.steps ≤ length before.steps + 1
  pub small : d.nodes ≤ max before.nodes (nodes d.to)
  pub shallow : d.depth ≤ max before.depth (depth d.to)
  pub plain : HasPlainSteps before → HasPlainSteps d
