-- A check of a proof that is under way.
use Rattle.std.specs.Prelude.{◌≡◌, ◌≢◌, ℕ, ◌+◌, ◌++◌, List, Option, Some, None, Result, Ok, Err}
use Rattle.u_terms.specs.Syntax.{U}
use Rattle.u_terms.specs.declared.facts.Facts.{Facts}
use Rattle.proof_check.specs.declared.answers.Stop.{Stop}
use Rattle.proof_text.specs.LinesOfText.{Unread, AreLines}
use Rattle.proof_check.specs.declared.answers.Verdict.{Verdict}
use Rattle.proof_check.specs.declared.answers.Verdict.TheVariants.{Proved, StepFails, EndDiffers}
use Rattle.proof_check.specs.Checking.{State, on, stopped, Stands}

-- what it is made by, and what the lines so far have come to
pub record Check : Type 0 where
  pub facts : Facts
  pub outs : ℕ
  pub state : State

-- the number is that of the next line, if any is judged
abbrev pub IsNext : State → ℕ → Type 0
IsNext (on lines progress) number = number ≡ lines + 1
IsNext (stopped stop) number = Unit {0}

-- whether the lines so far were taken, or what stopped them
abbrev pub Tells : State → Result (Unit {0}) Stop → Type 0
Tells (on lines progress) answer = answer ≡ Ok tt
Tells (stopped stop) answer = answer ≡ Err stop

-- the lines have stopped by this, and nothing else changed
pub record HasStopped (before : Check) (stop : Stop) (after : Check) : Type 0 where
  pub facts : after.facts ≡ before.facts
  pub outs : after.outs ≡ before.outs
  pub state : after.state ≡ stopped stop

-- ---- contracts of private functions alone cite these
-- what stopped the lines, if one did
abbrev pub stop_of : State → Option Stop
stop_of (on lines progress) = None
stop_of (stopped stop) = Some stop

-- what steps show that lead to the one term, where they are to lead to the other
abbrev pub EndsAs : U → U → Verdict → Type 0
EndsAs end right Proved = end ≡ right
EndsAs end right EndDiffers = end ≢ right
EndsAs end right (StepFails line) = ⊥

-- the lines of the bytes come to this
pub record Reads (facts : Facts) (outs : ℕ) (left : U) (bytes : List ℕ) (state : State) : Type 0 where
  pub lines : List (List ℕ)
  pub are_lines : AreLines bytes lines
  pub stands : Stands facts outs left lines state

-- the lines of the bytes but for what is left of them come to this
pub record ReadsSoFar (facts : Facts) (outs : ℕ) (left : U) (bytes : List ℕ) (state : State) (unread : Unread) : Type 0 where
  pub lines : List (List ℕ)
  pub are_lines : (others : List (List ℕ)) → AreLines unread.text others → AreLines bytes (lines ++ others)
  pub stands : Stands facts outs left lines state
