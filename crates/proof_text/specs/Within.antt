-- Steps whose arguments are within the limits, and texts that are read line by line.
use Rattle.std.specs.Prelude.{ℕ, List, [], ◌∷◌}
use Rattle.data_model.specs.Lists.{Each}
use Rattle.u_deriv.specs.declared.step.Step as step
use Rattle.proof_text.specs.declared.line.LineStep.{LineStep}
use Rattle.proof_text.specs.ReadingLines.{IsRead}
use Rattle.proof_text.specs.Written.{IsSmall}

-- no argument of the step or of an inner one is too large or too deep
unfoldable mutual
  pub IsWithin : step.Step → Type 0
  IsWithin (step.Step' path forward q args shape inner) = Each IsSmall args × AreWithin inner

  pub AreWithin : {n : _} → step.Row_of-Step n → Type 0
  AreWithin step.end_of-Step = Unit {0}
  AreWithin (step.more_of-Step first rest) = IsWithin first × AreWithin rest

-- the texts are these lines, in order
abbrev pub AreRead : List (List ℕ) → List LineStep → Type 0
AreRead [] [] = Unit {0}
AreRead [] (says ∷ lines) = ⊥
AreRead (text ∷ texts) [] = ⊥
AreRead (text ∷ texts) (says ∷ lines) = IsRead text says × AreRead texts lines
