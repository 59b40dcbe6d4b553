-- What is read over a kept value: contracts of private functions alone cite what is not `said_over`.
use Rattle.std.specs.Prelude.{◌≡◌, Result, Ok, Err}
use Rattle.u_deriv.specs.declared.step.Step.{Step}
use Rattle.proof_text.specs.declared.cursor.Stop.{Stop}
use Rattle.proof_text.specs.declared.line.LineStep.{LineStep}
use Rattle.proof_text.specs.declared.line.LineStep.TheVariants as line
use Rattle.proof_text.specs.declared.line.LineKind.{LineKind}
use Rattle.proof_text.specs.declared.line.LineKind.TheVariants.{Whole, Opens, Closes, Ends}
use Rattle.proof_text.specs.Reading.{Rest, Reading, Stops}

-- Code left there what reading gives, unless memory ran out.
abbrev pub GivesOver : {A : Type 0} → Result (Unit {0}) Stop → A → Rest → Reading A → Type 0
GivesOver (Ok done) kept rest reading = reading ≡ (Ok kept, rest)
GivesOver (Err stop) kept rest reading = Stops stop rest reading

-- what a line of this kind says that was read over this step
abbrev pub line_over : LineKind → Step → LineStep
line_over Whole kept = line.Whole kept
line_over Opens kept = line.Opens kept
line_over Closes kept = line.Closes
line_over Ends kept = line.Ends

abbrev pub said_over : {E : Type 0} → Result LineKind E → Step → Result LineStep E
said_over (Ok kind) kept = Ok (line_over kind kept)
said_over (Err fault) kept = Err fault
