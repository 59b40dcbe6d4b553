-- Derivations: steps that lead from a term to a term, through terms of a bounded size.
use Rattle.std.specs.Prelude.{◌≡◌, ℕ, ◌+◌, ◌≤◌, ◌<◌, ◌^◌, max, List, [], ◌∷◌, Result, Ok, Err}
use Rattle.data_model.specs.Lists.{Each}
use Rattle.u_terms.specs.Syntax.{U}
use Rattle.u_terms.specs.Size as size
use Rattle.u_terms.specs.Size.{nodes, depth}
use Rattle.u_terms.specs.Places.{IsClosed}
use Rattle.u_terms.specs.Names.{IsFreeBelow}
use Rattle.u_terms.specs.declared.facts.Facts.{Facts}
use Rattle.u_deriv.specs.declared.fault.StepFault.{StepFault}
use Rattle.u_deriv.specs.declared.fault.StepFault.TheVariants.{NoResult, NoMemory}
use Rattle.u_deriv.specs.declared.step.Step.{Step}
use Rattle.u_deriv.specs.LineBounds.{IsPlain}
use Rattle.u_deriv.specs.Steps.{Rewrites}

-- closed but for that many places, with names below `outs` alone
pub record IsKnown (places outs : ℕ) (u : U) : Type 0 where
  pub closed : IsClosed places u
  pub named : IsFreeBelow outs u

-- at most these nodes and this depth
pub record IsWithin (most_nodes most_depth : ℕ) (u : U) : Type 0 where
  pub few : nodes u ≤ most_nodes
  pub shallow : depth u ≤ most_depth

-- the steps lead from the one term to the other, one after the other, and P holds of each term on the way, both ends included
pub data ReplaysThrough (P : U → Type 0) (facts : Facts) (outs : ℕ) : U → List Step → U → Type 0 where
  no_step : {u : U} → P u → ReplaysThrough P facts outs u [] u
  first_then : {before middle after : U} {step : Step} {rest : List Step}
      → P before
      → Rewrites facts outs before step middle
      → ReplaysThrough P facts outs middle rest after
      → ReplaysThrough P facts outs before (step ∷ rest) after

-- what a derivation shows, and the nodes and the depth that each term on the way has at most
pub record Derivation : Type 0 where
  pub facts : Facts
  pub outs : ℕ
  pub from : U
  pub to : U
  pub steps : List Step
  pub nodes : ℕ
  pub depth : ℕ

-- the steps lead from the first term to the last, and each term on the way is within the bounds; the first term is known, and there is
-- room for names behind those of the deepest one
pub record IsSound (d : Derivation) : Type 0 where
  pub replays : ReplaysThrough (IsWithin d.nodes d.depth) d.facts d.outs d.from d.steps d.to
  pub known : IsKnown 0 d.outs d.from
  pub room : d.outs + d.depth < 2 ^ 32

-- ---- derivations without a step, and with one
pub record IsStill (F : Facts) (names : ℕ) (u : U) (d : Derivation) : Type 0 where
  pub facts : d.facts ≡ F
  pub outs : d.outs ≡ names
  pub from : d.from ≡ u
  pub to : d.to ≡ u
  pub steps : d.steps ≡ []
  pub nodes : d.nodes ≡ size.nodes u
  pub depth : d.depth ≡ size.depth u

pub record IsOneStep (F : Facts) (names : ℕ) (first : U) (step : Step) (last : U) (d : Derivation) : Type 0 where
  pub facts : d.facts ≡ F
  pub outs : d.outs ≡ names
  pub from : d.from ≡ first
  pub to : d.to ≡ last
  pub steps : d.steps ≡ step ∷ []
  pub nodes : d.nodes ≡ max (size.nodes first) (size.nodes last)
  pub depth : d.depth ≡ max (size.depth first) (size.depth last)

-- the step has no result, where the call says so
abbrev pub HasNoResult : Facts → ℕ → U → Step → Result Derivation StepFault → Type 0
HasNoResult facts outs before step (Ok d) = Unit {0}
HasNoResult facts outs before step (Err NoResult) = (other : U) → Rewrites facts outs before step other → ⊥
HasNoResult facts outs before step (Err NoMemory) = Unit {0}

-- ---- one derivation after another
pub record IsJoined (first rest d : Derivation) : Type 0 where
  pub nodes : d.nodes ≡ max first.nodes rest.nodes
  pub depth : d.depth ≡ max first.depth rest.depth

-- ---- steps that take nothing but what stands in their sides
abbrev pub HasPlainSteps : Derivation → Type 0
HasPlainSteps d = Each IsPlain d.steps
