-- What a step that is made gives, and what its parts find.
use Rattle.std.specs.Prelude.{◌≡◌, ℕ, ◌+◌, ◌<◌, ◌≤◌, ◌^◌, Bool, true, false, List, [], ◌∷◌, length, Option, Some, None, Result, Ok, Err}
use Rattle.u_terms.specs.Syntax.{U}
use Rattle.u_terms.specs.Size.{depth}
use Rattle.u_terms.specs.declared.facts.Facts.{Facts}
use Rattle.u_rules.specs.declared.rule.Arg.{Arg}
use Rattle.u_rules.specs.declared.rule.Arg.TheVariants.{Term}
use Rattle.u_deriv.specs.declared.fault.StepFault.{StepFault}
use Rattle.u_deriv.specs.declared.fault.StepFault.TheVariants.{NoResult, NoMemory}
use Rattle.u_deriv.specs.declared.place.Place.{Place}
use Rattle.u_deriv.specs.declared.run.Run.{Run}
use Rattle.u_deriv.specs.declared.step.Step.{Step, out-Step}
use Rattle.u_deriv.specs.Turns.{turns}
use Rattle.u_deriv.specs.Contexts.{Context, filled, way, binders}
use Rattle.u_deriv.specs.Steps.{Replaced, Exchanged, Rewrites, Replays}

-- the names for the binders on the path are numbers of 32 bits, and so are places in the new term there
abbrev pub HasRoomAt : ℕ → List Run → U → U → Type 0
HasRoomAt outs path before to = (c : Context) (part : U) → way c ≡ turns path → before ≡ filled c part → outs + binders c + depth to < 2 ^ 32

-- the one closed term stands there, and the other one is written in its place; or it does not stand there, and the term stays
abbrev pub Replaces : ℕ → List Run → U → U → U → U → Result (Unit {0}) StepFault → Type 0
Replaces outs path before from to after (Ok _) = Replaced outs path before from to after
Replaces outs path before from to after (Err NoResult) = ((other : U) → Replaced outs path before from to other → ⊥) × (after ≡ before)
Replaces outs path before from to after (Err NoMemory) = ⊥

-- where the hole is
abbrev pub place_of : Context → Place
place_of c = record { binders = binders c; turns = length (way c) }

-- the sides are exchanged at this place; or they are not exchanged anywhere, and the term stays; or memory ran out and it stays
abbrev pub IsExchanged : Facts → ℕ → U → Step → U → Result Place StepFault → Type 0
IsExchanged facts outs before step after (Ok place) = (t : Exchanged facts outs before step after) × (place ≡ place_of t.replaced.context)
IsExchanged facts outs before step after (Err NoResult) = ((other : U) → Exchanged facts outs before step other → ⊥) × (after ≡ before)
IsExchanged facts outs before step after (Err NoMemory) = after ≡ before

-- the step is made, or it has no result and the term stays, or memory ran out and it stays
abbrev pub IsApplied : Facts → ℕ → U → Step → U → Result (Unit {0}) StepFault → Type 0
IsApplied facts outs before step after (Ok _) = Rewrites facts outs before step after
IsApplied facts outs before step after (Err NoResult) = ((other : U) → Rewrites facts outs before step other → ⊥) × (after ≡ before)
IsApplied facts outs before step after (Err NoMemory) = after ≡ before

-- ---- its parts: contracts of private functions alone cite these
-- the one closed term is written in the place of the other one, where there are so many names; no memory is taken
abbrev pub Writes : ℕ → List Run → ℕ → U → U → U → U → Result Place StepFault → Type 0
Writes outs path names before from to after (Ok place) = (t : Replaced outs path before from to after) × (place ≡ place_of t.context) × (names ≤ outs + binders t.context)
Writes outs path names before from to after (Err NoResult) = ((other : U) (t : Replaced outs path before from to other) → names ≤ outs + binders t.context → ⊥) × (after ≡ before)
Writes outs path names before from to after (Err NoMemory) = ⊥

-- where the sides could be exchanged
abbrev pub Finds : Facts → ℕ → U → Step → Result Place StepFault → Type 0
Finds facts outs before step (Ok place) = (other : U) × (t : Exchanged facts outs before step other) × (place ≡ place_of t.replaced.context)
Finds facts outs before step (Err NoResult) = (other : U) → Exchanged facts outs before step other → ⊥
Finds facts outs before step (Err NoMemory) = Unit {0}

-- the step is made at this place
abbrev pub IsMade : Facts → ℕ → U → Step → U → Result Place StepFault → Type 0
IsMade facts outs before step after (Ok place) = Rewrites facts outs before step after × (place.turns ≡ length (turns (out-Step step).path))
IsMade facts outs before step after (Err NoResult) = ((other : U) → Rewrites facts outs before step other → ⊥) × (after ≡ before)
IsMade facts outs before step after (Err NoMemory) = after ≡ before

abbrev pub IsOnlyTerm : List Arg → Option U → Type 0
IsOnlyTerm args (Some x) = args ≡ Term x ∷ []
IsOnlyTerm args None = (x : U) → args ≡ Term x ∷ [] → ⊥

-- whether P holds, unless memory ran out
abbrev pub Tells : Type 0 → Result Bool StepFault → Type 0
Tells P (Ok true) = P
Tells P (Ok false) = P → ⊥
Tells P (Err NoMemory) = Unit {0}
Tells P (Err NoResult) = ⊥

abbrev pub IsReplayed : Facts → ℕ → U → List Step → U → Result Bool StepFault → Type 0
IsReplayed facts outs before steps after (Ok true) = Replays facts outs before steps after
IsReplayed facts outs before steps after (Ok false) = (end : U) → Replays facts outs before steps end → ⊥
IsReplayed facts outs before steps after (Err NoMemory) = Unit {0}
IsReplayed facts outs before steps after (Err NoResult) = ⊥
