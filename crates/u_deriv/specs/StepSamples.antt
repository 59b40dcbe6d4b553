-- Steps as lines of a proof, written out. A wrong definition stops the check.
use Rattle.std.specs.Prelude.{◌≡◌, ℕ, ◌++◌, Bool, true, false, List, [], ◌∷◌, codes, refl}
use Rattle.std.specs.Fmt.{digits}
use Rattle.u_terms.specs.Syntax.{U, Val, constructors}
use Rattle.u_terms.specs.declared.term.U.TheVariants as u
use Rattle.u_terms.specs.declared.term.Val.TheVariants as v
use Rattle.u_rules.specs.declared.rule.Arg.{Arg}
use Rattle.u_rules.specs.declared.rule.Arg.TheVariants.{Term, Body, Value, Values, Num}
use Rattle.u_rules.specs.declared.rule.Rule.{Rule}
use Rattle.u_rules.specs.declared.rule.Rule.TheVariants as rule
use Rattle.u_deriv.specs.declared.run.Run.{Run}
use Rattle.u_deriv.specs.declared.run.Run.TheVariants.{Left, Right, Inside, Argument}
use Rattle.u_deriv.specs.declared.step.Step.{Step, roll-Step}
use Rattle.u_deriv.specs.StepHeight.{step_constructors}
use Rattle.u_deriv.specs.StepText.{newline, term_text, step_text, steps_text}

abbrev line_with : List Run → Bool → Rule → List Arg → List Step → Step
line_with path forward q args inner = roll-Step (record { path = path; forward = forward; rule = q; args = args; inner = inner })

abbrev line : List Run → Bool → Rule → List Arg → Step
line path forward q args = line_with path forward q args []

abbrev b : ℕ → Val
b = v.Bound

abbrev f : ℕ → Val
f = v.Free

-- R0(x)
abbrev row : Val → U
row x = u.Rel 0 (x ∷ [])

-- ---- the proof that a key makes a projection onto it distinct
-- *(R0(f1),=(f1,f0)) and the other way round
abbrev joined : U
joined = u.Mul (row (f 1)) (u.Eq (f 1) (f 0))

abbrev exchanged : U
exchanged = u.Mul (u.Eq (f 1) (f 0)) (row (f 1))

-- from *(R0(f0),R0(f0)) to R0(f0)
abbrev inner_steps : List Step
inner_steps =
    line [] true rule.MulAc (Term (u.Mul (row (f 0)) (row (f 0))) ∷ Term (u.Mul (row (f 0)) (u.Mul (row (f 0)) u.One)) ∷ [])
    ∷ line (Right 2 ∷ []) false rule.EqRefl (Value (f 0) ∷ [])
    ∷ line [] true rule.Key (Num 0 ∷ Num 0 ∷ Values (f 0 ∷ []) ∷ Values (f 0 ∷ []) ∷ [])
    ∷ line (Right 1 ∷ []) true rule.EqRefl (Value (f 0) ∷ [])
    ∷ line [] true rule.MulAc (Term (u.Mul (row (f 0)) u.One) ∷ Term (row (f 0)) ∷ [])
    ∷ []

the_first_line : steps_text (line (Inside 1 ∷ []) true rule.MulAc (Term joined ∷ Term exchanged ∷ []) ∷ []) ≡ codes "/i > mul_ac *(R0(f1),=(f1,f0)) *(=(f1,f0),R0(f1))" ++ newline
unfolding step_text term_text step_constructors roll-Step denote.Hole.Carrier.roll constructors digits
the_first_line = refl

a_body_is_written_as_a_term : steps_text (line [] true rule.SumPoint (Value (f 0) ∷ Body (row (b 0)) ∷ []) ∷ []) ≡ codes "/ > sum_point f0 R0(b0)" ++ newline
unfolding step_text term_text step_constructors roll-Step denote.Hole.Carrier.roll constructors digits
a_body_is_written_as_a_term = refl

-- the inner steps stand between their step and its brace
inner_steps_stand_in_braces : steps_text (line_with [] false rule.SqFix (Term (row (f 0)) ∷ []) inner_steps ∷ [])
    ≡ codes "/ < sq_fix R0(f0) {" ++ (newline
    ++ (codes "/ > mul_ac *(R0(f0),R0(f0)) *(R0(f0),*(R0(f0),1))" ++ (newline
    ++ (codes "/r2 < eq_refl f0" ++ (newline
    ++ (codes "/ > key 0 0 (f0) (f0)" ++ (newline
    ++ (codes "/r > eq_refl f0" ++ (newline
    ++ (codes "/ > mul_ac *(R0(f0),1) R0(f0)" ++ (newline
    ++ (codes "}" ++ newline))))))))))))
unfolding step_text term_text step_constructors roll-Step denote.Hole.Carrier.roll constructors digits
inner_steps_stand_in_braces = refl

the_last_lines : steps_text (line (Inside 1 ∷ []) false rule.SumPoint (Value (f 0) ∷ Body (row (b 0)) ∷ []) ∷ line (Inside 2 ∷ []) true rule.MulAc (Term exchanged ∷ Term joined ∷ []) ∷ [])
    ≡ codes "/i < sum_point f0 R0(b0)" ++ (newline ++ (codes "/i2 > mul_ac *(=(f1,f0),R0(f1)) *(R0(f1),=(f1,f0))" ++ newline))
unfolding step_text term_text step_constructors roll-Step denote.Hole.Carrier.roll constructors digits
the_last_lines = refl

-- ---- paths and arguments
a_count_is_left_out_for_one_turn : steps_text (line (Inside 2 ∷ Right 2 ∷ Left 1 ∷ []) true rule.EqSym (Value (f 2) ∷ Value (f 1) ∷ []) ∷ []) ≡ codes "/i2r2l > eq_sym f2 f1" ++ newline
unfolding step_text term_text step_constructors roll-Step denote.Hole.Carrier.roll constructors digits
a_count_is_left_out_for_one_turn = refl

lists_stand_in_parentheses : steps_text (line (Argument 1 ∷ Argument 0 ∷ Inside 1 ∷ []) false rule.Key (Num 0 ∷ Num 12 ∷ Values (f 0 ∷ v.Lit 1 ∷ []) ∷ Values [] ∷ []) ∷ [])
    ≡ codes "/a1a0i < key 0 12 (f0,c1) ()" ++ newline
unfolding step_text term_text step_constructors roll-Step denote.Hole.Carrier.roll constructors digits
lists_stand_in_parentheses = refl

-- ---- terms
terms_have_no_blanks : term_text (u.Add (u.Sum (u.Mul (u.Rel 0 []) (u.Eq (b 0) (v.Agg 1 (u.Squash u.One))))) (u.Not (u.Pred 7 (v.Fun 8 [] ∷ f 0 ∷ v.Lit 10 ∷ []))))
    ≡ codes "+(S(*(R0(),=(b0,G1(#(1))))),!(P7(F8(),f0,c10)))"
unfolding term_text constructors digits
terms_have_no_blanks = refl
