-- What a checker stands for, and what a proof shows of two terms.
use Rattle.std.specs.Prelude.{◌≡◌, ◌≢◌, ℕ, ◌+◌, ◌⊎◌, List, [], ◌∷◌, ◌++◌, Result, Ok, Err}
use Rattle.u_terms.specs.Syntax.{U}
use Rattle.u_terms.specs.declared.facts.Facts.{Facts}
use Rattle.proof_text.specs.LinesOfText.{AreLines}
use Rattle.proof_check.specs.declared.answers.ProofFault.{ProofFault}
use Rattle.proof_check.specs.declared.answers.ProofFault.TheVariants.{BadHeader, BadOuts, NoEnd, NoMemory}
use Rattle.proof_check.specs.declared.answers.Stop.{Stop}
use Rattle.proof_check.specs.declared.answers.Stop.TheVariants.{Fails, Fault}
use Rattle.proof_check.specs.declared.answers.Verdict.{Verdict}
use Rattle.proof_check.specs.declared.answers.Verdict.TheVariants.{Proved, StepFails, EndDiffers}
use Rattle.proof_check.specs.Judging.{Progress, begun, versioned, among, ended, Takes, Stops}

-- what the lines so far have come to: so many were taken, or one stopped all that follow
pub data State : Type 0 where
  on : ℕ → Progress → State
  stopped : Stop → State

module _ (facts : Facts) (outs : ℕ) where
  -- what one line more does; want of memory may come with any
  abbrev pub IsFed : State → List ℕ → State → Type 0
  IsFed (on lines before) text (on more after) = (more ≡ lines + 1) × Takes facts outs before text after
  IsFed (on lines before) text (stopped stop) = Stops facts outs (lines + 1) before text stop ⊎ (stop ≡ Fault NoMemory)
  IsFed (stopped stop) text after = after ≡ stopped stop

  -- these lines, each with its line feed, come to this from the term on; want of memory stands for all of them
  pub data Stands (left : U) : List (List ℕ) → State → Type 0 where
    none : Stands left [] (on 0 (begun left))
    takes : {texts : List (List ℕ)} {lines : ℕ} {before after : Progress} {text : List ℕ}
        → Stands left texts (on lines before) → Takes facts outs before text after → Stands left (texts ++ text ∷ []) (on (lines + 1) after)
    stops : {texts : List (List ℕ)} {lines : ℕ} {before : Progress} {text : List ℕ} {stop : Stop}
        → Stands left texts (on lines before) → Stops facts outs (lines + 1) before text stop → Stands left (texts ++ text ∷ []) (stopped stop)
    stays : {texts : List (List ℕ)} {stop : Stop} (text : List ℕ) → Stands left texts (stopped stop) → Stands left (texts ++ text ∷ []) (stopped stop)
    no_memory : {texts : List (List ℕ)} → Stands left texts (stopped (Fault NoMemory))

-- how a text ends whose lines come to this
abbrev pub Finishes : U → State → Result Verdict ProofFault → Type 0
Finishes right (on lines (begun u)) answer = answer ≡ Err BadHeader
Finishes right (on lines (versioned u)) answer = answer ≡ Err BadOuts
Finishes right (on lines (among level waiting count)) answer = answer ≡ Err NoEnd
Finishes right (on lines (ended u)) answer = ((u ≡ right) × (answer ≡ Ok Proved)) ⊎ ((u ≢ right) × (answer ≡ Ok EndDiffers))
Finishes right (stopped (Fails line)) answer = answer ≡ Ok (StepFails line)
Finishes right (stopped (Fault fault)) answer = answer ≡ Err fault

-- what the bytes show of the two terms
pub record Shows (facts : Facts) (outs : ℕ) (left right : U) (bytes : List ℕ) (answer : Result Verdict ProofFault) : Type 0 where
  pub lines : List (List ℕ)
  pub are_lines : AreLines bytes lines
  pub state : State
  pub stands : Stands facts outs left lines state
  pub finishes : Finishes right state answer
