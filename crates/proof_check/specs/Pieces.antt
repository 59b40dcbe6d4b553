-- A proof that comes in pieces: what the lines come to that end in them.
use Rattle.std.specs.Prelude.{◌≡◌, ℕ, ◌⊎◌, true, List, [], ◌∷◌, ◌++◌, Result, Ok, Err}
use Rattle.data_model.specs.Lists.{Each}
use Rattle.u_terms.specs.Syntax.{U}
use Rattle.u_terms.specs.declared.facts.Facts.{Facts}
use Rattle.proof_text.specs.LinesOfText.{AreEnded, fed}
use Rattle.proof_check.specs.declared.answers.ProofFault.{ProofFault}
use Rattle.proof_check.specs.declared.answers.ProofFault.TheVariants.{NoMemory}
use Rattle.proof_check.specs.declared.answers.Stop.{Stop}
use Rattle.proof_check.specs.declared.answers.Stop.TheVariants.{Fault}
use Rattle.proof_check.specs.declared.answers.Verdict.{Verdict}
use Rattle.proof_check.specs.Checking.{State, on, stopped, IsFed, Finishes}
use Rattle.proof_check.specs.Check.{Check, HasStopped}

-- what the lines so far have come to, and the bytes behind the last line feed
pub record Partial : Type 0 where
  pub check : Check
  pub bytes : List ℕ

abbrev pub IsUnbroken : List ℕ → Type 0
IsUnbroken = Each (λ byte. byte ≡ 10 → ⊥)

-- what lines do one after the other, each with its line feed; want of memory may come before any
pub data Feeds (facts : Facts) (outs : ℕ) : State → List (List ℕ) → State → Type 0 where
  none : {state : State} → Feeds facts outs state [] state
  first : {before middle after : State} {text : List ℕ} {lines : List (List ℕ)} → IsFed facts outs before text middle → Feeds facts outs middle lines after → Feeds facts outs before (text ∷ lines) after
  no_memory : {before : State} {lines : List (List ℕ)} → Feeds facts outs before lines (stopped (Fault NoMemory))

abbrev pub IsOn : State → Type 0
IsOn (on lines progress) = Unit {0}
IsOn (stopped stop) = ⊥

-- what lines that end in it do, where none of them stops
pub record GoesOn (before : Check) (lines : List (List ℕ)) (after : Check) : Type 0 where
  pub facts : after.facts ≡ before.facts
  pub outs : after.outs ≡ before.outs
  pub feeds : Feeds before.facts before.outs before.state lines after.state
  pub on : IsOn before.state → IsOn after.state

abbrev pub StopsBy : Check → List (List ℕ) → Stop → Type 0
StopsBy before lines stop = Feeds before.facts before.outs before.state lines (stopped stop)

-- all lines that end in the piece are fed, and what is behind the last one is kept
pub record IsTaken (before : Partial) (piece : List ℕ) (after : Partial) : Type 0 where
  pub lines : List (List ℕ)
  pub ended : AreEnded (before.bytes ++ piece) lines after.bytes
  pub unbroken : IsUnbroken before.bytes → IsUnbroken after.bytes
  pub goes_on : GoesOn before.check lines after.check

-- or the last of these lines stops them
pub record IsStoppedIn (before : Partial) (piece : List ℕ) (stop : Stop) : Type 0 where
  pub lines : List (List ℕ)
  pub rest : List ℕ
  pub ended : AreEnded (before.bytes ++ piece) lines rest
  pub stops : StopsBy before.check lines stop

abbrev pub Takes : Partial → List ℕ → Partial → Result (Unit {0}) Stop → Type 0
Takes before piece after (Ok _) = IsTaken before piece after
Takes before piece after (Err stop) = IsStoppedIn before piece stop × HasStopped before.check stop after.check

-- what a last line without a line feed does, where there is one
abbrev pub IsLastFed : Partial → State → Type 0
IsLastFed before after =
    ((before.bytes ≡ []) × (after ≡ before.check.state))
    ⊎ ((before.bytes ≡ [] → ⊥) × Feeds before.check.facts before.check.outs before.check.state (before.bytes ∷ []) after)

-- what a text that ends here shows of the two terms
pub record IsFinished (before : Partial) (right : U) (answer : Result Verdict ProofFault) : Type 0 where
  pub state : State
  pub last : IsLastFed before state
  pub finishes : Finishes right state answer

-- ---- its parts: contracts of private functions alone cite these
-- one line was fed, and taken or not
abbrev pub IsFedBy : Check → List ℕ → Check → Result (Unit {0}) Stop → Type 0
IsFedBy before line after (Ok _) = GoesOn before (line ∷ []) after
IsFedBy before line after (Err stop) = StopsBy before (line ∷ []) stop × HasStopped before stop after

-- the line that begins with what was kept, and ends here
abbrev pub EndsLine : Partial → List ℕ → Partial → Result (Unit {0}) Stop → Type 0
EndsLine before bytes after (Ok _) = GoesOn before.check (fed (before.bytes ++ bytes) true ∷ []) after.check × (after.bytes ≡ [])
EndsLine before bytes after (Err stop) = StopsBy before.check (fed (before.bytes ++ bytes) true ∷ []) stop × HasStopped before.check stop after.check

-- the line that goes on
abbrev pub KeepsLine : Partial → List ℕ → Partial → Result (Unit {0}) Stop → Type 0
KeepsLine before bytes after (Ok _) = (after.check ≡ before.check) × (after.bytes ≡ before.bytes ++ bytes)
KeepsLine before bytes after (Err stop) = (stop ≡ Fault NoMemory) × HasStopped before.check stop after.check

-- so much of the piece was taken
pub record IsTakenSoFar (before : Partial) (piece rest : List ℕ) (now : Partial) : Type 0 where
  pub prefix : List ℕ
  pub parts : piece ≡ prefix ++ rest
  pub lines : List (List ℕ)
  pub ended : AreEnded (before.bytes ++ prefix) lines now.bytes
  pub unbroken : IsUnbroken before.bytes → IsUnbroken now.bytes
  pub goes_on : GoesOn before.check lines now.check
