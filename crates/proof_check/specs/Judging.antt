-- What comes of the lines of a proof, one after the other: what each one adds, or why it is the last that is judged. A line is judged in this
-- order: its reading, the count of steps, the inner proofs that are open, the sides of its step's row, whether the step has a result, and the
-- term after it. The term after a step of `sq_fix` is looked at on the line that closes its inner steps, after these are seen to end as they must.
use Rattle.std.specs.Prelude.{◌≡◌, ◌≢◌, ℕ, ◌+◌, ◌<◌, ◌≤◌, ◌^◌, Bool, true, false, List, [], ◌∷◌, length, codes}
use Rattle.u_terms.specs.Syntax.{U}
use Rattle.u_terms.specs.declared.facts.Facts.{Facts}
use Rattle.u_rules.specs.declared.rule.Arg.TheVariants.{Term}
use Rattle.u_rules.specs.Terms.{◌⊗◌}
use Rattle.u_deriv.specs.declared.step.Step.{Step, out-Step}
use Rattle.u_deriv.specs.Contexts.{binders}
use Rattle.u_deriv.specs.Steps.{Exchanged, Rewrites}
use Rattle.proof_text.specs.declared.limits.LimitKind.{LimitKind}
use Rattle.proof_text.specs.declared.limits.LimitKind.TheVariants as limit
use Rattle.proof_text.specs.declared.line.LineStep.{LineStep}
use Rattle.proof_text.specs.declared.line.LineStep.TheVariants.{Whole, Opens, Closes, Ends}
use Rattle.proof_text.specs.Heading.{numbered_line}
use Rattle.proof_text.specs.ReadingLines.{IsBad, IsLimit, IsRead}
use Rattle.proof_check.specs.declared.answers.ProofFault.TheVariants.{BadHeader, BadVersion, BadOuts, BadLine, AfterEnd, Limit}
use Rattle.proof_check.specs.declared.answers.Stop.{Stop}
use Rattle.proof_check.specs.declared.answers.Stop.TheVariants.{Fails, Fault}
use Rattle.proof_check.specs.Limits.{IsSmall, TermPasses, SidesAreSmall, SidesPass, sizes_for, most_steps, most_nesting}

-- where steps are made: their names are below a number, and they have led to a term
pub record Level : Type 0 where
  pub outs : ℕ
  pub term : U

-- a step of `sq_fix` whose inner steps are not at their end: the level behind it, and the term that they must end with
pub record Waiting : Type 0 where
  pub behind : Level
  pub root : U

-- how far a proof has come
pub data Progress : Type 0 where
  -- before its first line, and before its second one, from this term on
  begun : U → Progress
  versioned : U → Progress
  -- among its steps: the innermost level, the steps that wait, the innermost first, and how many steps there were, inner ones too
  among : Level → List Waiting → ℕ → Progress
  -- behind the line `end`, with this term
  ended : U → Progress

abbrev pub header : ℕ → List ℕ
header version = numbered_line (codes "udp-proof ") version

abbrev pub width_line : ℕ → List ℕ
width_line outs = numbered_line (codes "outs ") outs

-- the line of a step, which opens inner steps or does not
abbrev pub step_line : Bool → Step → LineStep
step_line true step = Opens step
step_line false step = Whole step

-- so many steps and open inner proofs leave room for one more
abbrev pub HasRoom : Bool → ℕ → ℕ → Type 0
HasRoom true count nesting = (count < most_steps) × (nesting < most_nesting)
HasRoom false count nesting = count < most_steps

-- the line is that of a step, which passes no limit before it is made
pub record IsAdmitted (facts : Facts) (opens : Bool) (text : List ℕ) (step : Step) (count nesting : ℕ) : Type 0 where
  pub read : IsRead text (step_line opens step)
  pub room : HasRoom opens count nesting
  pub sides : SidesAreSmall (sizes_for facts step)

-- A step of `sq_fix` has a result but for its inner steps: these lead from the square of `x` to `x`, with names below `inner_outs`.
pub record OpensProof (facts : Facts) (level : Level) (step : Step) (x after : U) (inner_outs : ℕ) : Type 0 where
  pub args : (out-Step step).args ≡ Term x ∷ []
  pub exchanged : Exchanged facts level.outs level.term step after
  pub outs : inner_outs ≡ level.outs + binders exchanged.replaced.context

abbrev pub behind_step : Level → U → Level
behind_step level after = record { outs = level.outs; term = after }

abbrev pub square_of : U → ℕ → Level
square_of x outs = record { outs = outs; term = x ⊗ x }

module _ (facts : Facts) (outs : ℕ) where
  -- the line is taken
  pub data Takes : Progress → List ℕ → Progress → Type 0 where
    version : {u : U} {text : List ℕ} → text ≡ header 1 → Takes (begun u) text (versioned u)
    width : {u : U} {text : List ℕ} → text ≡ width_line outs → Takes (versioned u) text (among (record { outs = outs; term = u }) [] 0)
    makes : {level : Level} {waiting : List Waiting} {count : ℕ} {text : List ℕ} {step : Step} {after : U}
        → IsAdmitted facts false text step count (length waiting)
        → Rewrites facts level.outs level.term step after
        → IsSmall after
        → Takes (among level waiting count) text (among (behind_step level after) waiting (count + 1))
    opens : {level : Level} {waiting : List Waiting} {count : ℕ} {text : List ℕ} {step : Step} {x after : U} {inner_outs : ℕ}
        → IsAdmitted facts true text step count (length waiting)
        → OpensProof facts level step x after inner_outs
        → Takes (among level waiting count) text (among (square_of x inner_outs) (record { behind = behind_step level after; root = x } ∷ waiting) (count + 1))
    closes : {level : Level} {inner : Waiting} {waiting : List Waiting} {count : ℕ} {text : List ℕ}
        → IsRead text Closes
        → level.term ≡ inner.root
        → IsSmall inner.behind.term
        → Takes (among level (inner ∷ waiting) count) text (among inner.behind waiting count)
    ends : {level : Level} {count : ℕ} {text : List ℕ} → IsRead text Ends → Takes (among level [] count) text (ended level.term)

  -- the line, of this number, is the last that is judged
  pub data Stops (number : ℕ) : Progress → List ℕ → Stop → Type 0 where
    -- the two lines of heading
    no_header : {u : U} {text : List ℕ} → ((version : ℕ) → version < 2 ^ 32 → text ≡ header version → ⊥) → Stops number (begun u) text (Fault BadHeader)
    other_version : {u : U} {text : List ℕ} (version : ℕ) → version < 2 ^ 32 → text ≡ header version → version ≢ 1 → Stops number (begun u) text (Fault BadVersion)
    other_width : {u : U} {text : List ℕ} → text ≢ width_line outs → Stops number (versioned u) text (Fault BadOuts)
    -- its reading
    bad : {level : Level} {waiting : List Waiting} {count : ℕ} {text : List ℕ} {column : ℕ}
        → IsBad text column → Stops number (among level waiting count) text (Fault (BadLine number column))
    argument_passes : {level : Level} {waiting : List Waiting} {count : ℕ} {text : List ℕ} {what : LimitKind} {passing : ℕ}
        → IsLimit text what passing → Stops number (among level waiting count) text (Fault (Limit what passing))
    closes_nothing : {level : Level} {count : ℕ} {text : List ℕ}
        → IsRead text Closes → Stops number (among level [] count) text (Fault (BadLine number 1))
    ends_within : {level : Level} {inner : Waiting} {waiting : List Waiting} {count : ℕ} {text : List ℕ}
        → IsRead text Ends → Stops number (among level (inner ∷ waiting) count) text (Fault (BadLine number 1))
    late : {u : U} {text : List ℕ} → Stops number (ended u) text (Fault AfterEnd)
    -- the line of a step
    too_many : {level : Level} {waiting : List Waiting} {count : ℕ} {text : List ℕ} (opens : Bool) (step : Step)
        → IsRead text (step_line opens step) → most_steps ≤ count
        → Stops number (among level waiting count) text (Fault (Limit limit.Steps (most_steps + 1)))
    too_nested : {level : Level} {waiting : List Waiting} {count : ℕ} {text : List ℕ} {step : Step}
        → IsRead text (Opens step) → count < most_steps → most_nesting ≤ length waiting
        → Stops number (among level waiting count) text (Fault (Limit limit.Nesting (most_nesting + 1)))
    side_passes : {level : Level} {waiting : List Waiting} {count : ℕ} {text : List ℕ} {what : LimitKind} {passing : ℕ} (opens : Bool) (step : Step)
        → IsRead text (step_line opens step) → HasRoom opens count (length waiting) → SidesPass (sizes_for facts step) what passing
        → Stops number (among level waiting count) text (Fault (Limit what passing))
    fails : {level : Level} {waiting : List Waiting} {count : ℕ} {text : List ℕ} {step : Step}
        → IsAdmitted facts false text step count (length waiting)
        → ((after : U) → Rewrites facts level.outs level.term step after → ⊥)
        → Stops number (among level waiting count) text (Fails number)
    opens_nothing : {level : Level} {waiting : List Waiting} {count : ℕ} {text : List ℕ} {step : Step}
        → IsAdmitted facts true text step count (length waiting)
        → ((x after : U) (inner_outs : ℕ) → OpensProof facts level step x after inner_outs → ⊥)
        → Stops number (among level waiting count) text (Fails number)
    passes : {level : Level} {waiting : List Waiting} {count : ℕ} {text : List ℕ} {step : Step} {after : U} {what : LimitKind} {passing : ℕ}
        → IsAdmitted facts false text step count (length waiting)
        → Rewrites facts level.outs level.term step after → TermPasses after what passing
        → Stops number (among level waiting count) text (Fault (Limit what passing))
    -- the line that closes inner steps
    inner_end_differs : {level : Level} {inner : Waiting} {waiting : List Waiting} {count : ℕ} {text : List ℕ}
        → IsRead text Closes → level.term ≢ inner.root → Stops number (among level (inner ∷ waiting) count) text (Fails number)
    passes_behind : {level : Level} {inner : Waiting} {waiting : List Waiting} {count : ℕ} {text : List ℕ} {what : LimitKind} {passing : ℕ}
        → IsRead text Closes → level.term ≡ inner.root → TermPasses inner.behind.term what passing
        → Stops number (among level (inner ∷ waiting) count) text (Fault (Limit what passing))
