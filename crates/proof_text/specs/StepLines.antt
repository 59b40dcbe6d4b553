-- The lines of steps: the inner steps of a step of `sq_fix` stand between the line that opens them and a brace.
use Rattle.std.specs.Prelude.{ℕ, ◌+◌, Bool, true, false, List, [], ◌∷◌, ◌++◌, map, codes}
use Rattle.std.specs.List.{flat_map}
use Rattle.u_rules.specs.declared.rule.Rule.{Rule}
use Rattle.u_rules.specs.declared.rule.Arg.{Arg}
use Rattle.u_deriv.specs.declared.run.Run.{Run}
use Rattle.u_deriv.specs.declared.step.Step as step
use Rattle.proof_text.specs.declared.line.LineStep.{LineStep}
use Rattle.proof_text.specs.declared.line.LineStep.TheVariants.{Whole, Opens, Closes, Ends}
use Rattle.proof_text.specs.Heading.{numbered_line}
use Rattle.proof_text.specs.RuleNames.{has_inner}
use Rattle.proof_text.specs.Written.{text_of}

-- the step without its inner steps, as its line says it
abbrev pub bare_step : List Run → Bool → Rule → List Arg → step.Step
bare_step path forward q args = step.roll-Step (record { path = path; forward = forward; rule = q; args = args; inner = [] })

abbrev pub lines_with : Bool → step.Step → List LineStep → List LineStep
lines_with true s inner = Opens s ∷ inner ++ Closes ∷ []
lines_with false s inner = Whole s ∷ []

unfoldable mutual
  pub step_lines : step.Step → List LineStep
  step_lines (step.Step' path forward q args shape inner) = lines_with (has_inner q) (bare_step path forward q args) (row_lines inner)

  pub row_lines : {n : _} → step.Row_of-Step n → List LineStep
  row_lines step.end_of-Step = []
  row_lines (step.more_of-Step first rest) = step_lines first ++ row_lines rest

abbrev pub lines_of : List step.Step → List LineStep
lines_of = flat_map step_lines

-- how many of the lines are those of steps, inner ones too
abbrev pub steps_in : List LineStep → ℕ
steps_in [] = 0
steps_in (Whole s ∷ lines) = steps_in lines + 1
steps_in (Opens s ∷ lines) = steps_in lines + 1
steps_in (Closes ∷ lines) = steps_in lines
steps_in (Ends ∷ lines) = steps_in lines

-- the lines of the text of a proof: a header, the width of the queries, the steps, and the end
abbrev pub proof_lines : ℕ → List step.Step → List (List ℕ)
proof_lines outs steps = numbered_line (codes "udp-proof ") 1 ∷ numbered_line (codes "outs ") outs ∷ map text_of (lines_of steps) ++ text_of Ends ∷ []
