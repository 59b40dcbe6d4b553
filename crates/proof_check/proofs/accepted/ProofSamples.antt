-- Proofs that are written out and accepted. A wrong definition stops the check.
use Rattle.std.proofs.Common.{◌≡◌, ◌≤◌, ℕ, ◌+◌, ◌++◌, Bool, true, List, [], ◌∷◌, refl, sym, ap, subst, ◌∙◌, arith}
use Rattle.std.specs.Prelude.{codes}
use Rattle.std.specs.Fmt.{digits}
use Rattle.std.proofs.lemmas.List.Sorted.{IsPermutation-refl}
use Rattle.data_model.specs.Lists.{Each}
use Rattle.u_terms.specs.Syntax.{U, constructors}
use Rattle.u_terms.specs.Size.{nodes, depth}
use Rattle.u_terms.specs.Binding.{closed_path, mapped}
use Rattle.u_terms.specs.Places.{IsClosed}
use Rattle.u_terms.specs.Names.{EachName}
use Rattle.u_terms.specs.declared.facts.Facts.{Facts}
use Rattle.u_rules.specs.declared.rule.Arg.{Arg}
use Rattle.u_rules.specs.declared.rule.Arg.TheVariants.{Term}
use Rattle.u_rules.specs.declared.rule.Rule.{Rule}
use Rattle.u_rules.specs.declared.rule.Rule.TheVariants as rule
use Rattle.u_rules.specs.Terms.{◌⊕◌, ◌⊗◌, O, I, sq, mul_leaves}
use Rattle.u_rules.specs.Rows.{row, Instance}
use Rattle.u_rules.specs.Measures.{sizes_of, measure_of}
use Rattle.u_rules.specs.Sides.{AreNamed}
use Rattle.u_deriv.specs.declared.step.Step.{Step, out-Step, roll-Step}
use Rattle.u_deriv.specs.declared.step.Step.TheOpen.{Step-F}
use Rattle.u_deriv.specs.declared.step.Step.TheViews.{out-roll-Step}
use Rattle.u_deriv.specs.Contexts.{hole, filled, way, binders}
use Rattle.u_deriv.specs.StepHeight.{step_constructors}
use Rattle.u_deriv.specs.StepText.{newline, term_text, step_text}
use Rattle.u_deriv.specs.Steps.{Sides, Exchanged}
use Rattle.u_deriv.specs.Turns.{turns}
use Rattle.proof_text.specs.StepLines.{step_lines, lines_of, steps_in}
use Rattle.proof_text.specs.Words.{HasWords}
use Rattle.proof_text.specs.Written.{HasLine, IsSmall as IsSmallArgument, IsWritable, proof_text}
use Rattle.proof_text.proofs.texts.StepLines.{is_writable}
use Rattle.proof_check.specs.Accepted.{Accepted, Fits, AllFit, KeepsLimits, by_rule, by_proof, no_step, first_then}
use Rattle.proof_check.specs.Limits.{IsSmall, SidesAreSmall, most_steps}

-- ---- a step at the root, forward
abbrev parts : Rule → List Arg → List Step → Step-F Step
parts q args inner = record { path = []; forward = true; rule = q; args = args; inner = inner }

abbrev step : Rule → List Arg → List Step → Step
step q args inner = roll-Step (parts q args inner)

is : (q : Rule) (args : List Arg) (inner : List Step) → out-Step (step q args inner) ≡ parts q args inner
is q args inner = out-roll-Step (parts q args inner)

-- no name and no place stands in the term
abbrev Stays : ℕ → U → Type 0
Stays outs x = x ≡ filled hole (closed_path x outs (binders hole))

at_root : way hole ≡ turns []
unfolding way
at_root = refl

abbrev exchanged : (facts : Facts) (outs : ℕ) (q : Rule) (args : List Arg) (inner : List Step) (from to : U) → Instance facts q args from to → AreNamed (outs + binders hole) args → Stays outs from
    → Stays outs to → Exchanged facts outs from (step q args inner) to
exchanged facts outs q args inner from to i named f t = record {
  from = from;
  to = to;
  sides = subst (λ (forward : Bool). Sides facts forward (step q args inner) from to) (sym (ap (λ (d : Step-F Step). d.forward) (is q args inner)))
      (subst (λ (d : Step-F Step). Instance facts d.rule d.args from to) (sym (is q args inner)) i);
  replaced = record { context = hole; at_path = at_root ∙ sym (ap (λ (d : Step-F Step). turns d.path) (is q args inner)); is_from = f; is_to = t };
  named = subst (λ (d : Step-F Step). AreNamed (outs + binders hole) d.args) (sym (is q args inner)) named;
}

keeps : (facts : Facts) (q : Rule) (args : List Arg) (inner : List Step) (to : U) → Each IsSmallArgument args → SidesAreSmall (sizes_of (row facts q args)) → IsSmall to → KeepsLimits facts (step q args inner) to
keeps facts q args inner to arguments sides term = record {
  arguments = subst (λ (d : Step-F Step). Each IsSmallArgument d.args) (sym (is q args inner)) arguments;
  sides = subst (λ (d : Step-F Step). SidesAreSmall (sizes_of (row facts d.rule d.args))) (sym (is q args inner)) sides;
  term = term;
}

one_is_small : IsSmall I
unfolding nodes depth constructors
one_is_small = record { few = omega arith; flat = omega arith }

one_stays : (outs : ℕ) → Stays outs I
unfolding filled binders mapped constructors
one_stays outs = refl

-- ---- no step
abbrev no_steps : List ℕ
no_steps = codes "udp-proof 1" ++ (newline ++ (codes "outs 2" ++ (newline ++ (codes "end" ++ newline))))

no_steps_spelled : no_steps ≡ proof_text 2 []
unfolding digits
no_steps_spelled = refl

by_no_step : (facts : Facts) (x : U) → Accepted facts 2 x x no_steps
by_no_step facts x = record { steps = []; text = record { spelled = no_steps_spelled; writable = tt; word = omega arith }; few = omega arith; fit = no_step }

-- ---- from #(+(1,0)) to 1, by a rule
abbrev first_step : Step
first_step = step rule.SqOne (Term O ∷ []) []

abbrev one_step : List ℕ
one_step = codes "udp-proof 1" ++ (newline ++ (codes "outs 1" ++ (newline ++ (codes "/ > sq_one 0" ++ (newline ++ (codes "end" ++ newline))))))

one_step_spelled : one_step ≡ proof_text 1 (first_step ∷ [])
unfolding step_text term_text step_constructors roll-Step denote.Hole.Carrier.roll constructors digits
one_step_spelled = refl

first_line : HasLine [] rule.SqOne (Term O ∷ [])
unfolding HasWords constructors
first_line = record { normal = record { counted = tt; apart = tt }; turns = tt; kinds = (tt, tt); words = (tt, tt) }

first_exchanges : (facts : Facts) → Instance facts rule.SqOne (Term O ∷ []) (sq (I ⊕ O)) I
unfolding IsClosed constructors
first_exchanges facts = record { row = refl; closed = (tt, tt); leaves = tt }

first_named : (bound : ℕ) → AreNamed bound (Term O ∷ [])
unfolding EachName constructors
first_named bound = (tt, tt)

first_stays : (outs : ℕ) → Stays outs (sq (I ⊕ O))
unfolding filled binders mapped constructors
first_stays outs = refl

first_is_small : Each IsSmallArgument (Term O ∷ [])
unfolding nodes depth constructors
first_is_small = ((omega arith, omega arith), tt)

first_sides : (facts : Facts) → SidesAreSmall (sizes_of (row facts rule.SqOne (Term O ∷ [])))
unfolding nodes depth measure_of constructors
first_sides facts = record { left = record { few = omega arith; flat = omega arith }; right = record { few = omega arith; flat = omega arith } }

first_fits : (facts : Facts) → Fits facts 0 1 (sq (I ⊕ O)) first_step I
first_fits facts =
    by_rule (exchanged facts 1 rule.SqOne (Term O ∷ []) [] (sq (I ⊕ O)) I (first_exchanges facts) (first_named (1 + binders hole)) (first_stays 1) (one_stays 1))
    (λ e. other (sym (ap (λ (d : Step-F Step). d.rule) (is rule.SqOne (Term O ∷ []) [])) ∙ e)) (ap (λ (d : Step-F Step). d.inner) (is rule.SqOne (Term O ∷ []) []))
    (keeps facts rule.SqOne (Term O ∷ []) [] I first_is_small (first_sides facts) one_is_small)
  where
    other : rule.SqOne ≡ rule.SqFix → ⊥
    other e = cc e

first_few : steps_in (lines_of (first_step ∷ [])) ≤ most_steps
unfolding step_lines step_constructors roll-Step denote.Hole.Carrier.roll
first_few = omega arith

by_one_step : (facts : Facts) → Accepted facts 1 (sq (I ⊕ O)) I one_step
by_one_step facts = record {
  steps = first_step ∷ [];
  text = record { spelled = one_step_spelled; writable = (is_writable (parts rule.SqOne (Term O ∷ []) []) first_line (λ e. refl) tt, tt); word = omega arith };
  few = first_few;
  fit = first_then (first_fits facts) no_step;
}

-- ---- from #(1) to 1, since *(1,1) is 1
abbrev inner_args : List Arg
inner_args = Term (I ⊗ I) ∷ Term I ∷ []

abbrev inner_step : Step
inner_step = step rule.MulAc inner_args []

abbrev outer_step : Step
outer_step = step rule.SqFix (Term I ∷ []) (inner_step ∷ [])

abbrev two_steps : List ℕ
two_steps =
    codes "udp-proof 1" ++ (newline ++ (codes "outs 1" ++ (newline ++ (codes "/ > sq_fix 1 {" ++ (newline ++ (codes "/ > mul_ac *(1,1) 1" ++ (newline ++ (codes "}" ++ (newline ++ (codes "end" ++ newline))))))))))

two_steps_spelled : two_steps ≡ proof_text 1 (outer_step ∷ [])
unfolding step_text term_text step_constructors roll-Step denote.Hole.Carrier.roll constructors digits
two_steps_spelled = refl

inner_line : HasLine [] rule.MulAc inner_args
unfolding HasWords constructors
inner_line = record { normal = record { counted = tt; apart = tt }; turns = tt; kinds = (tt, (tt, tt)); words = ((tt, tt), (tt, tt)) }

outer_line : HasLine [] rule.SqFix (Term I ∷ [])
unfolding HasWords constructors
outer_line = record { normal = record { counted = tt; apart = tt }; turns = tt; kinds = (tt, tt); words = (tt, tt) }

two_are_writable : IsWritable outer_step
two_are_writable =
    let inner : IsWritable inner_step = is_writable (parts rule.MulAc inner_args []) inner_line (λ e. refl) tt in
    is_writable (parts rule.SqFix (Term I ∷ []) (inner_step ∷ [])) outer_line (λ e. absurd (cc e)) (inner, tt)

inner_exchanges : (facts : Facts) → Instance facts rule.MulAc inner_args (I ⊗ I) I
unfolding IsClosed mul_leaves constructors
inner_exchanges facts = record { row = refl; closed = ((tt, tt), (tt, tt)); leaves = IsPermutation-refl [] }

outer_exchanges : (facts : Facts) → Instance facts rule.SqFix (Term I ∷ []) (sq I) I
unfolding IsClosed constructors
outer_exchanges facts = record { row = refl; closed = (tt, tt); leaves = tt }

inner_named : (bound : ℕ) → AreNamed bound inner_args
unfolding EachName constructors
inner_named bound = ((tt, tt), (tt, tt))

outer_named : (bound : ℕ) → AreNamed bound (Term I ∷ [])
unfolding EachName constructors
outer_named bound = (tt, tt)

square_stays : (outs : ℕ) → Stays outs (I ⊗ I)
unfolding filled binders mapped constructors
square_stays outs = refl

squash_stays : (outs : ℕ) → Stays outs (sq I)
unfolding filled binders mapped constructors
squash_stays outs = refl

inner_is_small : Each IsSmallArgument inner_args
unfolding nodes depth constructors
inner_is_small = ((omega arith, omega arith), ((omega arith, omega arith), tt))

outer_is_small : Each IsSmallArgument (Term I ∷ [])
unfolding nodes depth constructors
outer_is_small = ((omega arith, omega arith), tt)

inner_sides : (facts : Facts) → SidesAreSmall (sizes_of (row facts rule.MulAc inner_args))
unfolding nodes depth measure_of constructors
inner_sides facts = record { left = record { few = omega arith; flat = omega arith }; right = record { few = omega arith; flat = omega arith } }

outer_sides : (facts : Facts) → SidesAreSmall (sizes_of (row facts rule.SqFix (Term I ∷ [])))
unfolding nodes depth measure_of constructors
outer_sides facts = record { left = record { few = omega arith; flat = omega arith }; right = record { few = omega arith; flat = omega arith } }

inner_fits : (facts : Facts) (outs : ℕ) → Fits facts 1 outs (I ⊗ I) inner_step I
inner_fits facts outs =
    by_rule (exchanged facts outs rule.MulAc inner_args [] (I ⊗ I) I (inner_exchanges facts) (inner_named (outs + binders hole)) (square_stays outs) (one_stays outs))
    (λ e. other (sym (ap (λ (d : Step-F Step). d.rule) (is rule.MulAc inner_args [])) ∙ e)) (ap (λ (d : Step-F Step). d.inner) (is rule.MulAc inner_args []))
    (keeps facts rule.MulAc inner_args [] I inner_is_small (inner_sides facts) one_is_small)
  where
    other : rule.MulAc ≡ rule.SqFix → ⊥
    other e = cc e

outer_fits : (facts : Facts) → Fits facts 0 1 (sq I) outer_step I
outer_fits facts =
    let e = is rule.SqFix (Term I ∷ []) (inner_step ∷ []) in
    let inner : AllFit facts 1 (1 + binders hole) (I ⊗ I) (inner_step ∷ []) I = first_then (inner_fits facts (1 + binders hole)) no_step in
    by_proof I (exchanged facts 1 rule.SqFix (Term I ∷ []) (inner_step ∷ []) (sq I) I (outer_exchanges facts) (outer_named (1 + binders hole)) (squash_stays 1) (one_stays 1))
    (ap (λ (d : Step-F Step). d.rule) e) (ap (λ (d : Step-F Step). d.args) e) (keeps facts rule.SqFix (Term I ∷ []) (inner_step ∷ []) I outer_is_small (outer_sides facts) one_is_small) (omega arith)
    (subst (λ (ss : List Step). AllFit facts 1 (1 + binders hole) (I ⊗ I) ss I) (sym (ap (λ (d : Step-F Step). d.inner) e)) inner)

two_few : steps_in (lines_of (outer_step ∷ [])) ≤ most_steps
unfolding step_lines step_constructors roll-Step denote.Hole.Carrier.roll
two_few = omega arith

by_two_steps : (facts : Facts) → Accepted facts 1 (sq I) I two_steps
by_two_steps facts =
    record { steps = outer_step ∷ []; text = record { spelled = two_steps_spelled; writable = (two_are_writable, tt); word = omega arith }; few = two_few; fit = first_then (outer_fits facts) no_step }
