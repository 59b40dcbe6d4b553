-- The lines of steps: their texts, one after the other, are the text of the steps.
use Rattle.std.proofs.Common.{◌≡◌, ℕ, ◌+◌, Bool, true, false, List, [], ◌∷◌, ◌++◌, refl, sym, ap, subst, ◌∙◌, arith, append_assoc, append-nil}
use Rattle.std.specs.List.{flat_map}
use Rattle.std.proofs.lemmas.List.Concat.{flat_map-append}
use denote.Hole.Carrier.{roll}
use Rattle.data_model.specs.Lists.{Each}
use Rattle.u_rules.specs.declared.rule.Rule.{Rule}
use Rattle.u_rules.specs.declared.rule.Rule.TheVariants as rule
use Rattle.u_deriv.specs.declared.step.Step as step
use Rattle.u_deriv.specs.declared.step.Step.{Step, out-Step, roll-Step}
use Rattle.u_deriv.specs.declared.step.Step.TheViews.{out-roll-Step, roll-out-Step}
use Rattle.u_deriv.specs.declared.step.Step.TheBlock.{hidden-the_row-Step-0}
use Rattle.u_deriv.specs.declared.step.Step.TheOpen.{Step-F}
use Rattle.u_deriv.specs.StepHeight.{step_constructors}
use Rattle.u_deriv.specs.StepText.{head_text, tail_text, step_text, row_text, steps_text}
use Rattle.proof_text.specs.declared.line.LineStep.{LineStep}
use Rattle.proof_text.specs.declared.line.LineStep.TheVariants.{Whole, Opens, Closes, Ends}
use Rattle.proof_text.specs.RuleNames.{has_inner}
use Rattle.proof_text.specs.Written.{HasLine, end_text, text_of, IsWritable, AreWritable, HasInner}
use Rattle.proof_text.specs.StepLines.{bare_step, lines_with, step_lines, row_lines, lines_of, steps_in}
use Rattle.proof_text.proofs.spelled.LinesAgain.{same_step}
use Rattle.proof_text.proofs.spelled.OneText.{inner_text, tail_parts, line_of_step}

-- ---- rules with inner steps
pub only_fix : (q : Rule) → has_inner q ≡ true → q ≡ rule.SqFix
only_fix rule.SqFix e = refl
only_fix _ e = absurd (cc e)

pub never_fix : (q : Rule) → has_inner q ≡ false → q ≡ rule.SqFix → ⊥
never_fix rule.SqFix e i = cc e
never_fix _ e i = absurd (cc i)

pub no_inner : (q : Rule) → (q ≡ rule.SqFix → ⊥) → has_inner q ≡ false
no_inner rule.SqFix e = absurd (e refl)
no_inner _ e = refl

-- ---- texts
with_text : (b : Bool) (s : Step) (inner : List LineStep) → flat_map text_of (lines_with b s inner) ≡ line_of_step (out-Step s) ++ inner_text b (flat_map text_of inner)
with_text true s inner = ap (λ (z : List ℕ). line_of_step (out-Step s) ++ z) (flat_map-append text_of inner (Closes ∷ []))
with_text false s inner = refl

mutual
  unfolding step_text step_lines

  step_says : (s : Step) → step_text s ≡ flat_map text_of (step_lines s)
  step_says (step.Step' path forward q args shape inner) =
      let head : List ℕ = head_text path forward q args in
      let lines : List LineStep = row_lines inner in
      ap (λ (z : List ℕ). head ++ tail_text q z) (row_says inner)
      ∙ ap (λ (z : List ℕ). head ++ z) (tail_parts q (flat_map text_of lines))
      ∙ sym (append_assoc head (end_text (has_inner q)) (inner_text (has_inner q) (flat_map text_of lines)))
      ∙ ap (λ (d : Step-F Step). line_of_step d ++ inner_text (has_inner q) (flat_map text_of lines)) (sym (out-roll-Step (record { path = path; forward = forward; rule = q; args = args; inner = [] })))
      ∙ sym (with_text (has_inner q) (bare_step path forward q args) lines)

  row_says : {n : _} (row : step.Row_of-Step n) → row_text row ≡ flat_map text_of (row_lines row)
  row_says step.end_of-Step = refl
  row_says (step.more_of-Step first rest) =
      ap (λ (z : List ℕ). z ++ row_text rest) (step_says first) ∙ ap (λ (z : List ℕ). flat_map text_of (step_lines first) ++ z) (row_says rest)
      ∙ sym (flat_map-append text_of (step_lines first) (row_lines rest))

pub steps_say : (steps : List Step) → steps_text steps ≡ flat_map text_of (lines_of steps)
steps_say [] = refl
steps_say (s ∷ steps) =
    ap (λ (z : List ℕ). z ++ steps_text steps) (step_says s) ∙ ap (λ (z : List ℕ). flat_map text_of (step_lines s) ++ z) (steps_say steps)
    ∙ sym (flat_map-append text_of (step_lines s) (lines_of steps))

-- ---- the lines of one step
rows_lines : (steps : List Step) → row_lines (hidden-the_row-Step-0 steps) ≡ lines_of steps
unfolding step_lines step_constructors
rows_lines [] = refl
rows_lines (s ∷ steps) = ap (λ (ls : List LineStep). step_lines s ++ ls) (rows_lines steps)

lines_roll : (d : Step-F Step) → step_lines (roll-Step d) ≡ lines_with (has_inner d.rule) (bare_step d.path d.forward d.rule d.args) (lines_of d.inner)
unfolding step_lines step_constructors roll-Step roll
lines_roll d = ap (λ (ls : List LineStep). lines_with (has_inner d.rule) (bare_step d.path d.forward d.rule d.args) ls) (rows_lines d.inner)

-- the step without its inner steps
abbrev pub bare : Step → Step
bare s = bare_step (out-Step s).path (out-Step s).forward (out-Step s).rule (out-Step s).args

-- and with these in their stead
abbrev pub with_inner : Step → List Step → Step
with_inner s inner = roll-Step (record { path = (out-Step s).path; forward = (out-Step s).forward; rule = (out-Step s).rule; args = (out-Step s).args; inner = inner })

pub lines_out : (s : Step) → step_lines s ≡ lines_with (has_inner (out-Step s).rule) (bare s) (lines_of (out-Step s).inner)
lines_out s = ap step_lines (sym (roll-out-Step s)) ∙ lines_roll (out-Step s)

pub whole_lines : (s : Step) → (out-Step s).inner ≡ [] → has_inner (out-Step s).rule ≡ false → step_lines s ≡ Whole s ∷ []
whole_lines s none e =
    lines_out s ∙ ap (λ (b : Bool). lines_with b (bare s) (lines_of (out-Step s).inner)) e ∙ ap (λ (z : Step). Whole z ∷ []) (same_step s none)

pub opened_lines : (s : Step) → has_inner (out-Step s).rule ≡ true → step_lines s ≡ Opens (bare s) ∷ (lines_of (out-Step s).inner ++ Closes ∷ [])
opened_lines s e = lines_out s ∙ ap (λ (b : Bool). lines_with b (bare s) (lines_of (out-Step s).inner)) e

pub inner_lines : (s : Step) (inner : List Step) → (out-Step s).inner ≡ [] → has_inner (out-Step s).rule ≡ true → step_lines (with_inner s inner) ≡ Opens s ∷ (lines_of inner ++ Closes ∷ [])
inner_lines s inner none e =
    lines_roll (record { path = (out-Step s).path; forward = (out-Step s).forward; rule = (out-Step s).rule; args = (out-Step s).args; inner = inner })
    ∙ ap (λ (b : Bool). lines_with b (bare s) (lines_of inner)) e ∙ ap (λ (z : Step). Opens z ∷ (lines_of inner ++ Closes ∷ [])) (same_step s none)

-- ---- the lines of steps one after the other
pub lines-append : (first rest : List Step) → lines_of (first ++ rest) ≡ lines_of first ++ lines_of rest
lines-append first rest = flat_map-append step_lines first rest

pub lines-more : (steps : List Step) (s : Step) → lines_of (steps ++ s ∷ []) ≡ lines_of steps ++ step_lines s
lines-more steps s = lines-append steps (s ∷ []) ∙ ap (λ (ls : List LineStep). lines_of steps ++ ls) (append-nil (step_lines s))

-- ---- and how many steps they are
pub steps_in-append : (first rest : List LineStep) → steps_in (first ++ rest) ≡ steps_in first + steps_in rest
steps_in-append [] rest = omega arith
steps_in-append (Whole s ∷ first) rest = omega (arith, steps_in-append first rest)
steps_in-append (Opens s ∷ first) rest = omega (arith, steps_in-append first rest)
steps_in-append (Closes ∷ first) rest = steps_in-append first rest
steps_in-append (Ends ∷ first) rest = steps_in-append first rest

-- ---- steps that have a text
rows_are_writable : (steps : List Step) → Each IsWritable steps → AreWritable (hidden-the_row-Step-0 steps)
unfolding IsWritable step_constructors
rows_are_writable [] w = tt
rows_are_writable (s ∷ steps) w = (w.0, rows_are_writable steps w.1)

rows_are_inner : (b : Bool) (steps : List Step) → (b ≡ false → steps ≡ []) → HasInner b (hidden-the_row-Step-0 steps)
unfolding IsWritable step_constructors
rows_are_inner true steps e = tt
rows_are_inner false [] e = tt
rows_are_inner false (s ∷ steps) e = cc (e refl)

pub is_writable : (d : Step-F Step) → HasLine d.path d.rule d.args → (has_inner d.rule ≡ false → d.inner ≡ []) → Each IsWritable d.inner → IsWritable (roll-Step d)
unfolding IsWritable step_constructors roll-Step roll
is_writable d line none inner = (line, rows_are_inner (has_inner d.rule) d.inner none, rows_are_writable d.inner inner)

pub bare_writable : (s : Step) → HasLine (out-Step s).path (out-Step s).rule (out-Step s).args → (out-Step s).inner ≡ [] → IsWritable s
bare_writable s line none =
    subst IsWritable (roll-out-Step s) (is_writable (out-Step s) line (λ e. none) (subst (λ (l : List Step). Each IsWritable l) (sym none) tt))
