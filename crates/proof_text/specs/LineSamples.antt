-- Lines that are written out, with what the definitions say of them.
use Rattle.std.specs.Prelude.{◌≡◌, true, false, List, [], ◌∷◌, ◌++◌, codes, refl}
use Rattle.u_terms.specs.declared.term.U.TheVariants as u
use Rattle.u_terms.specs.Syntax.{constructors}
use Rattle.u_rules.specs.declared.rule.Arg.TheVariants as arg
use Rattle.u_rules.specs.declared.rule.Rule.TheVariants as rule
use Rattle.u_deriv.specs.declared.run.Run.TheVariants.{Left, Inside}
use Rattle.u_deriv.specs.StepHeight.{step_constructors}
use Rattle.u_deriv.specs.StepText.{term_text}
use Rattle.u_deriv.specs.declared.step.Step.{Step, roll-Step}
use Rattle.proof_text.specs.Begun.{begun_in}
use Rattle.proof_text.specs.StepLines.{bare_step, lines_of, step_lines, steps_in}
use Rattle.proof_text.specs.Written.{line_text}
use Rattle.proof_text.specs.declared.line.LineStep.TheVariants.{Whole, Opens, Closes}

-- runs of one turn
a_step : line_text (Left 1 ∷ Inside 1 ∷ []) false rule.SqAdd (arg.Term (u.Mul u.One u.Zero) ∷ arg.Term u.One ∷ []) ≡ codes "/li < sq_add *(1,0) 1" ++ 10 ∷ []
unfolding term_text constructors
a_step = refl

-- inner steps follow
an_opening_step : line_text [] true rule.SqFix (arg.Term (u.Squash u.One) ∷ []) ≡ codes "/ > sq_fix #(1) {" ++ 10 ∷ []
unfolding term_text constructors
an_opening_step = refl

-- the nodes of the last argument: R, f0 and f1
nodes_of_the_last_argument : (begun_in (codes "/ > sq_add R0(f0) R0(f0,f1")).nodes ≡ 3
nodes_of_the_last_argument = refl

-- behind a comma a node may begin
behind_a_comma : (begun_in (codes "/ > sq_one R0(f0,")).may ≡ true
behind_a_comma = refl

-- ---- lines of steps
abbrev sq_one : Step
sq_one = bare_step (Inside 1 ∷ []) true rule.SqOne (arg.Term u.Zero ∷ [])

-- a step of sq_fix with one inner step, and one more behind it
abbrev two_steps : List Step
two_steps =
    roll-Step (record { path = []; forward = false; rule = rule.SqFix; args = arg.Term u.One ∷ []; inner = sq_one ∷ [] }) ∷ sq_one ∷ []

-- inner steps stand between the line that opens them and a brace
lines_of_two_steps : lines_of two_steps
    ≡ Opens (bare_step [] false rule.SqFix (arg.Term u.One ∷ [])) ∷ Whole sq_one ∷ Closes ∷ Whole sq_one ∷ []
unfolding step_lines step_constructors roll-Step denote.Hole.Carrier.roll
lines_of_two_steps = refl

-- and are counted
three_steps : steps_in (lines_of two_steps) ≡ 3
unfolding step_lines step_constructors roll-Step denote.Hole.Carrier.roll
three_steps = refl
