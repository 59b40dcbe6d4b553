-- The lines of steps: of one, and of one list of steps after another.
use Rattle.std.proofs.Common.{◌≡◌, ℕ, ◌+◌, List, [], ◌∷◌, ◌++◌, length, refl, ap, sym, ◌∙◌, append_assoc, length-append}
use denote.Hole.Carrier.{roll}
use Rattle.u_deriv.specs.declared.step.Step.{Step, out-Step, roll-Step}
use Rattle.u_deriv.specs.declared.step.Step.TheViews.{roll-out-Step}
use Rattle.u_deriv.specs.declared.step.Step.TheOpen.{Step-F}
use Rattle.u_deriv.specs.declared.step.Step.TheBlock.{hidden-the_row-Step-0}
use Rattle.u_deriv.specs.StepHeight.{step_constructors}
use Rattle.u_deriv.specs.StepText.{head_text, tail_text, step_text, row_text, steps_text, lines_length}

-- ---- one step
row-text : (ss : List Step) → row_text (hidden-the_row-Step-0 ss) ≡ steps_text ss
unfolding step_text step_constructors
row-text [] = refl
row-text (s ∷ ss) = ap (λ (text : List ℕ). step_text s ++ text) (row-text ss)

pub text-roll : (d : Step-F Step) → step_text (roll-Step d) ≡ head_text d.path d.forward d.rule d.args ++ tail_text d.rule (steps_text d.inner)
unfolding step_text step_constructors roll-Step denote.Hole.Carrier.roll
text-roll d = ap (λ (text : List ℕ). head_text d.path d.forward d.rule d.args ++ tail_text d.rule text) (row-text d.inner)

pub text-out : (s : Step) → let d = out-Step s in step_text s ≡ head_text d.path d.forward d.rule d.args ++ tail_text d.rule (steps_text d.inner)
text-out s = ap step_text (sym (roll-out-Step s)) ∙ text-roll (out-Step s)

-- ---- one list after another

pub text-append : (first rest : List Step) → steps_text (first ++ rest) ≡ steps_text first ++ steps_text rest
text-append [] rest = refl
text-append (step ∷ first) rest = ap (λ (text : List ℕ). step_text step ++ text) (text-append first rest) ∙ sym (append_assoc (step_text step) (steps_text first) (steps_text rest))

pub length-lines : (first rest : List Step) → lines_length (first ++ rest) ≡ lines_length first + lines_length rest
length-lines first rest = ap length (text-append first rest) ∙ length-append (steps_text first) (steps_text rest)

pub ruleset laws = (text-append, length-lines)
