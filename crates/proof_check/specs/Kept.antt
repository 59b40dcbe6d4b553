-- What a checker keeps, and what it stands for.
use Rattle.std.specs.Prelude.{◌≡◌, ◌≢◌, ℕ, ◌+◌, ◌≤◌, ◌⊎◌, List, [], ◌∷◌, length, fold, Option, Some, None, Result, Ok, Err}
use Rattle.u_terms.specs.Syntax.{U}
use Rattle.u_terms.specs.declared.facts.Facts.{Facts}
use Rattle.proof_text.specs.declared.line.LineFault.{LineFault}
use Rattle.proof_text.specs.declared.line.LineFault.TheVariants as line_fault
use Rattle.proof_text.specs.Limits.{most_depth}
use Rattle.proof_check.specs.declared.answers.ProofFault.TheVariants as fault
use Rattle.proof_check.specs.declared.answers.Stop.{Stop}
use Rattle.proof_check.specs.declared.answers.Stop.TheVariants.{Fails, Fault}
use Rattle.proof_check.specs.declared.limits.Passed.{Passed}
use Rattle.proof_check.specs.declared.level.Level.{Level as KeptLevel}
use Rattle.proof_check.specs.declared.part.Part.{Part}
use Rattle.proof_check.specs.declared.part.Part.TheVariants as part
use Rattle.proof_check.specs.declared.steps.Steps.{Steps}
use Rattle.proof_check.specs.declared.steps.Waiting.{Waiting as KeptWaiting}
use Rattle.proof_check.specs.Checking.{State, on, stopped}
use Rattle.proof_check.specs.Judging.{Level, Waiting, Progress, begun, versioned, among, ended, Takes, Stops}
use Rattle.proof_check.specs.Limits.{IsSmall, TermPasses, most_nesting}
use Rattle.proof_check.specs.TermSize.{IsSteppable}

-- the most names of a query
abbrev pub most_outs : ℕ
most_outs = 2048

-- ---- what is kept stands for this
abbrev pub level_of : KeptLevel → Level
level_of level = record { outs = level.outs; term = level.term }

abbrev pub waiting_of : KeptWaiting → Waiting
waiting_of waiting = record { behind = level_of waiting.behind; root = waiting.root }

-- the innermost is kept last
abbrev pub waiting_in : List KeptWaiting → List Waiting
waiting_in = fold (λ outer inner. waiting_of inner ∷ outer) []

-- how far a proof has come whose next line is to be of this part
abbrev pub progress_of : Part → Steps → Progress
progress_of part.Version steps = begun steps.level.term
progress_of part.Width steps = versioned steps.level.term
progress_of part.Steps steps = among (level_of steps.level) (waiting_in steps.waiting.items) steps.count
progress_of part.Ended steps = ended steps.level.term

-- so many lines were taken, if none stopped the rest
abbrev pub state_of : Option Stop → ℕ → Progress → State
state_of None lines progress = on lines progress
state_of (Some stop) lines progress = stopped stop

-- ---- what holds of it
-- each level has at most as many names more than the one behind it as a path has binders
abbrev pub AreNear : ℕ → List Waiting → Type 0
AreNear outs [] = outs ≤ most_outs
AreNear outs (inner ∷ waiting) = (outs ≤ inner.behind.outs + most_depth) × AreNear inner.behind.outs waiting

-- steps can be made on the level, with these behind it
pub record CanStep (level : Level) (waiting : List Waiting) : Type 0 where
  pub term : IsSteppable level.term
  pub names : AreNear level.outs waiting
  pub few : length waiting ≤ most_nesting

abbrev pub AreSteppable : Steps → Type 0
AreSteppable steps = CanStep (level_of steps.level) (waiting_in steps.waiting.items)

-- no step was made on the term, whose names are below `outs`
pub record AreFresh (outs : ℕ) (steps : Steps) : Type 0 where
  pub names : steps.level.outs ≡ outs
  pub few : outs ≤ most_outs
  pub small : IsSmall steps.level.term
  pub none : steps.waiting.items ≡ []
  pub count : steps.count ≡ 0

-- before a line of this part
abbrev pub AreKept : ℕ → Part → Steps → Type 0
AreKept outs part.Version steps = AreFresh outs steps
AreKept outs part.Width steps = AreFresh outs steps
AreKept outs part.Steps steps = AreSteppable steps
AreKept outs part.Ended steps = Unit {0}

-- behind the line of a step, or the last one
abbrev pub GoOn : Part → Steps → Type 0
GoOn part.Version steps = ⊥
GoOn part.Width steps = ⊥
GoOn part.Steps steps = AreSteppable steps
GoOn part.Ended steps = Unit {0}

-- until a line stops the rest
abbrev pub AreKeptOn : ℕ → Option Stop → Part → Steps → Type 0
AreKeptOn outs None part steps = AreKept outs part steps
AreKeptOn outs (Some stop) part steps = Unit {0}

-- ---- contracts of private functions alone cite these
-- The line, of this number, is taken, and the next one is to be of the part that is told; or it is the last that is judged, or memory ran out.
abbrev pub IsTaken : Facts → ℕ → ℕ → Progress → List ℕ → Steps → Result Part Stop → Type 0
IsTaken facts outs number before text steps (Ok part) = Takes facts outs before text (progress_of part steps)
IsTaken facts outs number before text steps (Err stop) = Stops facts outs number before text stop ⊎ (stop ≡ Fault fault.NoMemory)

-- why a line of this number is none
abbrev pub refused_line : ℕ → LineFault → Stop
refused_line number (line_fault.Bad column) = Fault (fault.BadLine number column)
refused_line number (line_fault.Limit what count) = Fault (fault.Limit what count)
refused_line number line_fault.NoMemory = Fault fault.NoMemory

-- a line that stands where none of its kind may
abbrev pub misplaced_line : ℕ → Stop
misplaced_line number = Fault (fault.BadLine number 1)

-- whether the inner steps end on this term as they must, and the term behind them passes no limit
abbrev pub GoesOut : ℕ → U → Waiting → Result (Unit {0}) Stop → Type 0
GoesOut number term inner (Ok _) = (term ≡ inner.root) × IsSmall inner.behind.term
GoesOut number term inner (Err stop) =
    ((term ≢ inner.root) × (stop ≡ Fails number))
    ⊎ ((passed : Passed) × (term ≡ inner.root) × TermPasses inner.behind.term passed.what passed.count × (stop ≡ Fault (fault.Limit passed.what passed.count)))
