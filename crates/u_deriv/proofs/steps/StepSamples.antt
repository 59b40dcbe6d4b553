-- A step with its context, written out: two tables, their rows joined. A wrong definition of a step stops the check.
use Rattle.std.proofs.Common.{◌≡◌, ◌+◌, ℕ, Bool, true, List, [], ◌∷◌, refl, ap, sym, subst, ◌∙◌, arith}
use Rattle.u_terms.specs.Syntax.{U, Val, constructors}
use Rattle.u_terms.specs.Binding.{mapped, closed_path}
use Rattle.u_terms.specs.Names.{EachName}
use Rattle.u_terms.specs.Places.{IsClosed}
use Rattle.u_terms.specs.declared.term.U.TheVariants as u
use Rattle.u_terms.specs.declared.term.Val.TheVariants as v
use Rattle.u_terms.specs.declared.facts.Facts.{Facts}
use Rattle.u_rules.specs.declared.rule.Arg.{Arg}
use Rattle.u_rules.specs.declared.rule.Arg.TheVariants.{Value}
use Rattle.u_rules.specs.declared.rule.Rule.TheVariants as rule
use Rattle.u_rules.specs.Rows.{Instance}
use Rattle.u_rules.specs.Sides.{AreNamed}
use Rattle.u_deriv.specs.declared.run.Run.{Run}
use Rattle.u_deriv.specs.declared.run.Run.TheVariants.{Left, Right, Inside}
use Rattle.u_deriv.specs.declared.step.Step.{Step, out-Step, roll-Step}
use Rattle.u_deriv.specs.declared.step.Step.TheOpen.{Step-F}
use Rattle.u_deriv.specs.declared.step.Step.TheViews.{out-roll-Step}
use Rattle.u_deriv.specs.Turns.{turns}
use Rattle.u_deriv.specs.Contexts.{Context, hole, mul_left, mul_right, in_sum, filled, way, binders}
use Rattle.u_deriv.specs.Steps.{Sides, Rewrites, by_rule}

abbrev b : ℕ → Val
b = v.Bound

abbrev f : ℕ → Val
f = v.Free

-- S(S(*(R1(b1),*(R0(b0),*(_,=(b0,f0))))))
abbrev around : Context
around = in_sum (in_sum (mul_right (u.Rel 1 (b 1 ∷ [])) (mul_right (u.Rel 0 (b 0 ∷ [])) (mul_left hole (u.Eq (b 0) (f 0))))))

abbrev joined : U → U
joined x = u.Sum (u.Sum (u.Mul (u.Rel 1 (b 1 ∷ [])) (u.Mul (u.Rel 0 (b 0 ∷ [])) (u.Mul x (u.Eq (b 0) (f 0))))))

-- i2r2l
abbrev path : List Run
path = Inside 2 ∷ Right 2 ∷ Left 1 ∷ []

abbrev args : List Arg
args = Value (f 2) ∷ Value (f 1) ∷ []

-- with one name for the output, the inner place has name 2 and the outer one name 1
at_path : way around ≡ turns path
unfolding way
at_path = refl

two_binders : binders around ≡ 2
unfolding binders
two_binders = refl

before : joined (u.Eq (b 0) (b 1)) ≡ filled around (closed_path (u.Eq (f 2) (f 1)) 1 (binders around))
unfolding filled binders mapped constructors
before = refl

after : joined (u.Eq (b 1) (b 0)) ≡ filled around (closed_path (u.Eq (f 1) (f 2)) 1 (binders around))
unfolding filled binders mapped constructors
after = refl

exchanges : (facts : Facts) → Instance facts rule.EqSym args (u.Eq (f 2) (f 1)) (u.Eq (f 1) (f 2))
unfolding IsClosed constructors
exchanges facts = record { row = refl; closed = (tt, (tt, tt)); leaves = tt }

named : AreNamed 3 args
unfolding EachName constructors
named = (omega arith, (omega arith, tt))

-- i2r2l > eq_sym f2 f1
abbrev parts : Step-F Step
parts = record { path = path; forward = true; rule = rule.EqSym; args = args; inner = [] }

made : (facts : Facts) (step : Step) → out-Step step ≡ parts → Rewrites facts 1 (joined (u.Eq (b 0) (b 1))) step (joined (u.Eq (b 1) (b 0)))
made facts step is =
    let i : Instance facts (out-Step step).rule (out-Step step).args (u.Eq (f 2) (f 1)) (u.Eq (f 1) (f 2))
    = subst (λ (d : Step-F Step). Instance facts d.rule d.args (u.Eq (f 2) (f 1)) (u.Eq (f 1) (f 2))) (sym is) (exchanges facts) in
    let names : AreNamed (1 + binders around) (out-Step step).args
    = subst (λ (d : Step-F Step). AreNamed (1 + binders around) d.args) (sym is) (subst (λ (k : ℕ). AreNamed (1 + k) args) (sym two_binders) named) in
    by_rule (record {
      from = u.Eq (f 2) (f 1);
      to = u.Eq (f 1) (f 2);
      sides = subst (λ (t : Bool). Sides facts t step (u.Eq (f 2) (f 1)) (u.Eq (f 1) (f 2))) (sym (ap (λ (d : Step-F Step). d.forward) is)) i;
      replaced = record { context = around; at_path = at_path ∙ sym (ap (λ (d : Step-F Step). turns d.path) is); is_from = before; is_to = after };
      named = names;
    }) (λ e. other (sym (ap (λ (d : Step-F Step). d.rule) is) ∙ e)) (ap (λ (d : Step-F Step). d.inner) is)
  where
    other : rule.EqSym ≡ rule.SqFix → ⊥
    other e = absurd cc

sides_exchanged_under_two_sums : (facts : Facts) → Rewrites facts 1 (joined (u.Eq (b 0) (b 1))) (roll-Step parts) (joined (u.Eq (b 1) (b 0)))
sides_exchanged_under_two_sums facts = made facts (roll-Step parts) (out-roll-Step parts)
