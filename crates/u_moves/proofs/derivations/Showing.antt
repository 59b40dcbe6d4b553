-- What derivations show.
use Rattle.std.proofs.Common.{◌≡◌, List, ◌++◌, subst}
use Rattle.u_terms.specs.Syntax.{U}
use Rattle.u_terms.specs.Facts.{FactsOk}
use Rattle.u_rules.specs.Sides.{SameMeaning}
use Rattle.u_deriv.specs.declared.step.Step.{Step}
use Rattle.u_deriv.specs.Steps.{Replays}
use Rattle.u_deriv.proofs.steps.Soundness.{replays-mean}
use Rattle.u_moves.specs.Derivations.{Derivation, IsKnown, IsSound, IsWithin, ReplaysThrough}
use Rattle.u_moves.proofs.steps.Chains.{replays-within}
use Rattle.u_moves.proofs.derivations.Sound.{sound-plain, last-known}

pub term-within : (d : Derivation) → IsSound d → (first rest : List Step) (u : U) → d.steps ≡ first ++ rest → Replays d.facts d.outs d.from first u → IsWithin d.nodes d.depth u
term-within d h first rest u is leads =
    replays-within d.facts (IsWithin d.nodes d.depth) d.outs d.from d.to u first rest
    (subst (λ (ss : List Step). ReplaysThrough (IsWithin d.nodes d.depth) d.facts d.outs d.from ss d.to) is h.replays) leads

pub ruleset replayed = (sound-plain, term-within)

pub ends-mean : (d : Derivation) → FactsOk d.facts → IsSound d → SameMeaning d.facts d.from d.to
ends-mean d ok h = replays-mean d.facts ok d.outs d.from d.steps d.to (sound-plain d h)

pub first-known : (d : Derivation) → IsSound d → IsKnown 0 d.outs d.from
first-known d h = h.known

pub ruleset kept = (ends-mean, first-known, last-known)
