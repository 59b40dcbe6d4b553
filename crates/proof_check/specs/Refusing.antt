-- What is refused before and after a step: contracts of private functions alone cite this.
use Rattle.std.specs.Prelude.{◌≡◌, ℕ, ◌+◌, ◌<◌, ◌≤◌, ◌⊎◌, Result, Ok, Err}
use Rattle.u_terms.specs.Syntax.{U}
use Rattle.u_terms.specs.declared.facts.Facts.{Facts}
use Rattle.u_rules.specs.declared.side_sizes.Sizes.{Sizes}
use Rattle.u_deriv.specs.declared.place.Place.{Place}
use Rattle.u_deriv.specs.declared.spending.Measured.{Measured}
use Rattle.u_deriv.specs.declared.step.Step.{Step}
use Rattle.u_deriv.specs.Applying.{place_of}
use Rattle.u_deriv.specs.Steps.{Exchanged}
use Rattle.proof_text.specs.declared.limits.LimitKind.{LimitKind}
use Rattle.proof_check.specs.declared.answers.ProofFault.TheVariants.{NoMemory}
use Rattle.proof_check.specs.declared.answers.Stop.{Stop}
use Rattle.proof_check.specs.declared.answers.Stop.TheVariants.{Fails, Fault}
use Rattle.proof_check.specs.declared.limits.Passed.{Passed}
use Rattle.proof_check.specs.Limits.{IsWithin, Passes, IsSmall, TermPasses, SidesAreSmall, SidesPass}

-- there may be one more, or there are as many as there may be
abbrev pub LeavesRoom : LimitKind → ℕ → ℕ → Result (Unit {0}) Passed → Type 0
LeavesRoom what count most (Ok _) = count < most
LeavesRoom what count most (Err passed) = (most ≤ count) × (passed ≡ record { what = what; count = most + 1 })

-- the counts are within the limits, or one passes its own
abbrev pub Keeps : ℕ → ℕ → Result (Unit {0}) Passed → Type 0
Keeps nodes depth (Ok _) = IsWithin nodes depth
Keeps nodes depth (Err passed) = Passes nodes depth passed.what passed.count

-- those of a term
abbrev pub KeepsTerm : U → Result (Unit {0}) Passed → Type 0
KeepsTerm u (Ok _) = IsSmall u
KeepsTerm u (Err passed) = TermPasses u passed.what passed.count

-- those of both sides
abbrev pub KeepsSides : Sizes → Result Measured Passed → Type 0
KeepsSides sizes (Ok _) = SidesAreSmall sizes
KeepsSides sizes (Err passed) = SidesPass sizes passed.what passed.count

-- the sides are exchanged at this place, or they are not exchanged anywhere, or memory ran out
abbrev pub ExchangesAt : Facts → ℕ → ℕ → U → Step → U → Result Place Stop → Type 0
ExchangesAt facts outs line before step after (Ok place) = (t : Exchanged facts outs before step after) × (place ≡ place_of t.replaced.context)
ExchangesAt facts outs line before step after (Err stop) =
    (((other : U) → Exchanged facts outs before step other → ⊥) × (stop ≡ Fails line)) ⊎ (stop ≡ Fault NoMemory)
