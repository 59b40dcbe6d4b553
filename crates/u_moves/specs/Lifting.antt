-- Derivations of a part, in the whole term.
use Rattle.std.specs.Prelude.{◌≡◌, ℕ, ◌+◌, ◌-◌, ◌<◌, ◌^◌, max, List, ◌++◌, map, fold, length}
use Rattle.u_terms.specs.Syntax.{U}
use Rattle.u_terms.specs.Size as size
use Rattle.u_terms.specs.Size.{depth}
use Rattle.u_terms.specs.Binding.{closed_path}
use Rattle.u_deriv.specs.declared.run.Run.{Run}
use Rattle.u_deriv.specs.declared.step.Step.{Step, out-Step, roll-Step}
use Rattle.u_deriv.specs.Contexts.{Context, filled, way, binders}
use Rattle.u_deriv.specs.Normal.{pushed}
use Rattle.u_deriv.specs.Opening.{opened_path}
use Rattle.u_deriv.specs.Steps.{Replaced}
use Rattle.u_deriv.specs.Turns.{turns}
use Rattle.u_moves.specs.Derivations.{Derivation, IsKnown}

-- ---- the same steps at the end of a path
-- the one path and then the other
abbrev pub after : List Run → List Run → List Run
after = fold pushed

-- Arguments and inner steps stay: names are counted by all binders on the way to them.
abbrev pub lifted_step : List Run → Step → Step
lifted_step path s =
    let d = out-Step s in
    roll-Step (record { path = after path d.path; forward = d.forward; rule = d.rule; args = d.args; inner = d.inner })

abbrev pub lifted : List Run → List Step → List Step
lifted path = map (lifted_step path)

-- ---- where a part stands
-- what stands at the path, opened by names from `outs` on for the binders on the path, is the part, and its own names begin behind these
pub record IsPart (outs : ℕ) (path : List Run) (whole : U) (inner_outs : ℕ) (part : U) : Type 0 where
  pub context : Context
  pub inside : U
  pub at_path : way context ≡ turns path
  pub is : whole ≡ filled context inside
  pub names : inner_outs ≡ outs + binders context
  pub opened : part ≡ opened_path inside outs (binders context)

-- the same of a whole term that is known itself, for some names of its own
pub record IsPartOfKnown (path : List Run) (whole : U) (inner_outs : ℕ) (inner : U) : Type 0 where
  pub outs : ℕ
  pub known : IsKnown 0 outs whole
  pub shallow : outs + depth whole < 2 ^ 32
  pub part : IsPart outs path whole inner_outs inner

-- ---- a derivation of the part, made in the whole
-- The last term with the part's derivation made at the path. Each term on the way has at most the nodes of the last term with the largest
-- term in place of the part, and is at most as deep as the deepest one at the path's end.
pub record IsMadeIn (path : List Run) (whole inner d : Derivation) : Type 0 where
  pub facts : d.facts ≡ whole.facts
  pub outs : d.outs ≡ whole.outs
  pub from : d.from ≡ whole.from
  pub replaced : Replaced whole.outs path whole.to inner.from inner.to d.to
  pub names : inner.outs ≡ whole.outs + binders replaced.context
  pub steps : d.steps ≡ whole.steps ++ lifted path inner.steps
  pub nodes : d.nodes ≡ max whole.nodes (size.nodes whole.to + inner.nodes - size.nodes inner.from)
  pub depth : d.depth ≡ max whole.depth (length (turns path) + inner.depth)

-- the same of a whole term without steps of its own
pub record IsUnder (path : List Run) (whole : U) (inner d : Derivation) : Type 0 where
  pub facts : d.facts ≡ inner.facts
  pub from : d.from ≡ whole
  pub replaced : Replaced d.outs path whole inner.from inner.to d.to
  pub names : inner.outs ≡ d.outs + binders replaced.context
  pub steps : d.steps ≡ lifted path inner.steps
  pub nodes : d.nodes ≡ max (size.nodes whole) (size.nodes whole + inner.nodes - size.nodes inner.from)
  pub depth : d.depth ≡ max (size.depth whole) (length (turns path) + inner.depth)

-- ---- contracts of private functions alone cite this
-- the part stands at the path, its names for the binders on it closed
pub record Stands (outs : ℕ) (path : List Run) (whole part : U) : Type 0 where
  pub context : Context
  pub at_path : way context ≡ turns path
  pub is : whole ≡ filled context (closed_path part outs (binders context))
