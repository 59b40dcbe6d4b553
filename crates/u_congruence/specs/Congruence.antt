-- Between which terms a derivation leads, and what it costs by those that it is made of.
use Rattle.std.specs.Prelude.{◌≡◌, ℕ, ◌+◌, ◌≤◌, max, [], ◌∷◌, ◌++◌}
use Rattle.u_terms.specs.Syntax.{U}
use Rattle.u_terms.specs.declared.facts.Facts.{Facts}
use Rattle.u_deriv.specs.declared.run.Run.TheVariants.{Left, Right, Inside}
use Rattle.u_moves.specs.Derivations.{Derivation, IsJoined}
use Rattle.u_moves.specs.Lifting.{lifted}

pub record IsFromTo (F : Facts) (names : ℕ) (first last : U) (d : Derivation) : Type 0 where
  pub facts : d.facts ≡ F
  pub outs : d.outs ≡ names
  pub from : d.from ≡ first
  pub to : d.to ≡ last

-- by these facts, with the names from this one on for binders
pub record IsBy (F : Facts) (names : ℕ) (d : Derivation) : Type 0 where
  pub facts : d.facts ≡ F
  pub outs : d.outs ≡ names

-- ---- what it is made of
-- the steps of the one and then those of the other
pub record IsSequence (first rest d : Derivation) : Type 0 where
  pub steps : d.steps ≡ first.steps ++ rest.steps
  pub bounds : IsJoined first rest d

-- those of the part, in terms that have one node more above it
pub record IsOneDown (part d : Derivation) : Type 0 where
  pub steps : d.steps ≡ lifted (Inside 1 ∷ []) part.steps
  pub nodes : d.nodes ≡ 1 + part.nodes
  pub depth : d.depth ≡ 1 + part.depth

-- those of the left part and then those of the right one, in terms that have one node more above both
pub record AreBeside (left right d : Derivation) : Type 0 where
  pub steps : d.steps ≡ lifted (Left 1 ∷ []) left.steps ++ lifted (Right 1 ∷ []) right.steps
  pub nodes : d.nodes ≤ 1 + left.nodes + right.nodes
  pub depth : d.depth ≡ 1 + max left.depth right.depth
