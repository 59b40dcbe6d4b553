-- Products that lean to the right, and what is made in them.
use Rattle.std.specs.Prelude.{◌≡◌, ℕ, ◌+◌, max, List, [], ◌∷◌, length, sum_by}
use Rattle.u_terms.specs.Syntax.{U}
use Rattle.u_terms.specs.Size.{nodes}
use Rattle.u_rules.specs.Terms.{◌⊗◌}
use Rattle.u_moves.specs.Derivations.{Derivation, HasPlainSteps}

-- the factors in order and then the last one, to the right
abbrev pub spine : List U → U → U
spine [] last = last
spine (factor ∷ factors) last = factor ⊗ spine factors last

-- the nodes that a spine of these factors has beside those of its last one
abbrev pub weight : List U → ℕ
weight factors = sum_by nodes factors + length factors

-- the first derivation, and then the other one made behind these factors of its last term
pub record IsMadeBehind (front : List U) (first part d : Derivation) : Type 0 where
  pub facts : d.facts ≡ first.facts
  pub outs : d.outs ≡ first.outs
  pub from : d.from ≡ first.from
  pub to : d.to ≡ spine front part.to
  pub steps : length d.steps ≡ length first.steps + length part.steps
  pub nodes : d.nodes ≡ max first.nodes (weight front + part.nodes)
  pub depth : d.depth ≡ max first.depth (length front + part.depth)
  pub plain : HasPlainSteps first → HasPlainSteps part → HasPlainSteps d
