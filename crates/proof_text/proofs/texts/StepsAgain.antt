-- The lines of steps within the limits are read again.
use Rattle.std.proofs.Common.{◌≡◌, ℕ, Bool, true, false, List, [], ◌∷◌, ◌++◌, map, drop, refl, sym, ap, subst, ◌∙◌, append-nil}
use Rattle.data_model.specs.Lists.{Each}
use Rattle.u_deriv.specs.declared.step.Step as step
use Rattle.u_deriv.specs.declared.step.Step.{Step, out-Step}
use Rattle.u_deriv.specs.declared.step.Step.TheOpen.{Step-F}
use Rattle.u_deriv.specs.declared.step.Step.TheViews.{out-roll-Step}
use Rattle.u_deriv.specs.StepText.{steps_text}
use Rattle.proof_text.specs.declared.line.LineStep.{LineStep}
use Rattle.proof_text.specs.declared.line.LineStep.TheVariants.{Whole, Opens, Closes, Ends}
use Rattle.proof_text.specs.LinesOfText.{AreLines}
use Rattle.proof_text.specs.RuleNames.{has_inner}
use Rattle.proof_text.specs.StepLines.{bare_step, lines_with, step_lines, row_lines, lines_of, proof_lines}
use Rattle.proof_text.specs.Within.{IsWithin, AreWithin, AreRead}
use Rattle.proof_text.specs.Written.{SaysStep, Says, text_of, IsWritable, AreWritable, ProofText}
use Rattle.proof_text.proofs.spelled.LinesAgain.{says_read}
use Rattle.proof_text.proofs.texts.TextLines.{one_lines, lines_of_proof, lines_of_steps}

-- ---- each line of the steps is within the limits
say-append : (x y : List LineStep) → Each Says x → Each Says y → Each Says (x ++ y)
say-append [] y u v = v
say-append (says ∷ x) y u v = (u.0, say-append x y u.1 v)

with_says : (b : Bool) (s : Step) (inner : List LineStep) → SaysStep b (out-Step s) → Each Says inner → Each Says (lines_with b s inner)
with_says true s inner says i = (says, say-append inner (Closes ∷ []) i (tt, tt))
with_says false s inner says i = (says, tt)

mutual
  unfolding IsWritable IsWithin step_lines

  step_says : (s : Step) → IsWritable s → IsWithin s → Each Says (step_lines s)
  step_says (step.Step' path forward q args shape inner) w h =
      with_says (has_inner q) (bare_step path forward q args) (row_lines inner)
      (subst (λ (d : Step-F Step). SaysStep (has_inner q) d) (sym (out-roll-Step (record { path = path; forward = forward; rule = q; args = args; inner = [] })))
      (record { parts = w.0; small = h.0; opens = refl; none = refl }))
      (row_says inner w.2 h.1)

  row_says : {n : _} (row : step.Row_of-Step n) → AreWritable row → AreWithin row → Each Says (row_lines row)
  row_says step.end_of-Step w h = tt
  row_says (step.more_of-Step s rest) w h = say-append (step_lines s) (row_lines rest) (step_says s w.0 h.0) (row_says rest w.1 h.1)

steps_say : (steps : List Step) → Each IsWritable steps → Each IsWithin steps → Each Says (lines_of steps)
steps_say [] w h = tt
steps_say (s ∷ steps) w h = say-append (step_lines s) (lines_of steps) (step_says s w.0 h.0) (steps_say steps w.1 h.1)

-- ---- and is read of its text
all_read : (lines : List LineStep) → Each Says lines → AreRead (map text_of lines) lines
all_read [] s = tt
all_read (says ∷ lines) s = (says_read says s.0, all_read lines s.1)

read_up_to_end : (lines : List LineStep) → Each Says lines → AreRead (map text_of lines ++ text_of Ends ∷ []) (lines ++ Ends ∷ [])
read_up_to_end [] s = (says_read Ends tt, tt)
read_up_to_end (says ∷ lines) s = (says_read says s.0, read_up_to_end lines s.1)

pub steps_read : (steps : List Step) (texts : List (List ℕ)) → Each IsWritable steps → Each IsWithin steps → AreLines (steps_text steps) texts → AreRead texts (lines_of steps)
steps_read steps texts w h lines =
    subst (λ (z : List (List ℕ)). AreRead z (lines_of steps)) (one_lines (steps_text steps) (steps_text steps) (map text_of (lines_of steps)) texts refl (lines_of_steps steps w) lines)
    (all_read (lines_of steps) (steps_say steps w h))

pub proof_read : (bytes : List ℕ) (outs : ℕ) (steps : List Step) (texts : List (List ℕ)) → ProofText bytes outs steps → Each IsWithin steps → AreLines bytes texts
    → AreRead (drop 2 texts) (lines_of steps ++ Ends ∷ [])
proof_read bytes outs steps texts p h lines =
    subst (λ (z : List (List ℕ)). AreRead (drop 2 z) (lines_of steps ++ Ends ∷ [])) (one_lines bytes bytes (proof_lines outs steps) texts refl (lines_of_proof bytes outs steps p) lines)
    (read_up_to_end (lines_of steps) (steps_say steps p.writable h))
