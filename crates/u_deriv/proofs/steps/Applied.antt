-- When a step is made, and when it has no result.
use Rattle.std.proofs.Common.{◌≡◌, ℕ, ◌+◌, ◌<◌, ◌≤◌, ◌^◌, max, min, Bool, true, false, List, [], ◌∷◌, ◌++◌, length, Option, Result, Ok, Err, refl, sym, ap, subst, ◌∙◌, arith}
use Rattle.std.specs.Prelude.{◌↔◌, IsTrue}
use Rattle.u_terms.specs.Syntax.{U}
use Rattle.u_terms.specs.Size.{depth}
use Rattle.u_terms.specs.declared.facts.Facts.{Facts}
use Rattle.u_rules.specs.declared.rule.Arg.{Arg}
use Rattle.u_rules.specs.declared.rule.Arg.TheVariants.{Term}
use Rattle.u_rules.specs.declared.rule.Rule.TheVariants as rule
use Rattle.u_rules.specs.declared.side_sizes.Sizes.{Sizes}
use Rattle.u_rules.specs.Terms.{◌⊗◌}
use Rattle.u_rules.specs.Rows.{Row, row, Instance}
use Rattle.u_rules.specs.Measures.{capped, measure_of, sizes_of}
use Rattle.u_deriv.specs.declared.fault.StepFault.{StepFault}
use Rattle.u_deriv.specs.declared.fault.StepFault.TheVariants.{NoResult, NoMemory}
use Rattle.u_deriv.specs.declared.place.Place.{Place}
use Rattle.u_deriv.specs.declared.run.Run.{Run}
use Rattle.u_deriv.specs.declared.step.Step.{Step, out-Step}
use Rattle.u_deriv.specs.Turns.{turns}
use Rattle.u_deriv.specs.Contexts.{binders}
use Rattle.u_deriv.specs.Steps.{Exchanged, Sides, Rewrites, Replays, by_rule, by_proof, no_step, first_then}
use Rattle.u_deriv.specs.Applying.{place_of, Finds, IsMade, IsExchanged, IsReplayed, Tells}
use Rattle.u_terms.specs.Binding.{closed_path}
use Rattle.u_terms.proofs.Sizes.{depth-positive}
use Rattle.u_deriv.proofs.contexts.OneContext.{same_context}
use Rattle.u_deriv.proofs.steps.Keeps.{exchanged-of}
use Rattle.u_deriv.proofs.steps.OneResult.{one_result}
use Rattle.u_deriv.proofs.contexts.Extents.{replaced-depth, binders-few, deep-filled}

module _ (facts : Facts) (outs : ℕ) (before : U) (step : Step) where
  abbrev path : List Run
  path = (out-Step step).path

  turns-of : (place : Place) (after : U) (t : Exchanged facts outs before step after) → place ≡ place_of t.replaced.context → place.turns ≡ length (turns path)
  turns-of place after t here = ap (λ (p : Place). p.turns) here ∙ ap length t.replaced.at_path

  -- ---- by a rule
  pub made-by_rule : (after : U) (r : Result Place StepFault) → ((out-Step step).rule ≡ rule.SqFix → ⊥) → (out-Step step).inner ≡ []
      → IsExchanged facts outs before step after r → IsMade facts outs before step after r
  made-by_rule after (Ok place) plain empty exchanged = (by_rule exchanged.0 plain empty, turns-of place after exchanged.0 exchanged.1)
  made-by_rule after (Err NoResult) plain empty exchanged = (λ other r. exchanged.0 other (exchanged-of facts outs before step other r), exchanged.1)
  made-by_rule after (Err NoMemory) plain empty exchanged = exchanged

  -- ---- by a proof
  pub unfound : (fault : StepFault) (after : U) → after ≡ before → Finds facts outs before step (Err fault) → IsMade facts outs before step after (Err fault)
  unfound NoResult after same none = (λ other r. none other (exchanged-of facts outs before step other r), same)
  unfound NoMemory after same none = same

  module _ (place : Place) (found : Finds facts outs before step (Ok place)) where
    binders-of : (after : U) (t : Exchanged facts outs before step after) → place.binders ≡ binders t.replaced.context
    binders-of after t =
        let r = found.1.replaced in
        ap (λ (p : Place). p.binders) found.2
        ∙ ap binders (same_context r.context t.replaced.context _ _ (r.at_path ∙ sym t.replaced.at_path) (sym r.is_from ∙ t.replaced.is_from))

    pub made-by_proof : (x : U) (after : U) (r : Result Place StepFault) → (out-Step step).rule ≡ rule.SqFix → (out-Step step).args ≡ Term x ∷ []
        → Replays facts (outs + place.binders) (x ⊗ x) (out-Step step).inner x → IsExchanged facts outs before step after r → IsMade facts outs before step after r
    made-by_proof x after (Ok end) is are inner exchanged =
        (by_proof x exchanged.0 is are (subst (λ k. Replays facts (outs + k) (x ⊗ x) (out-Step step).inner x) (binders-of after exchanged.0) inner), turns-of end after exchanged.0 exchanged.1)
    made-by_proof x after (Err NoResult) is are inner exchanged = (λ other r. exchanged.0 other (exchanged-of facts outs before step other r), exchanged.1)
    made-by_proof x after (Err NoMemory) is are inner exchanged = exchanged

    one_argument : (x y : U) → ◌≡◌ {A = List Arg} (Term x ∷ []) (Term y ∷ []) → x ≡ y
    one_argument x y e = cc

    pub unproved : (x : U) → (out-Step step).rule ≡ rule.SqFix → (out-Step step).args ≡ Term x ∷ []
        → (Replays facts (outs + place.binders) (x ⊗ x) (out-Step step).inner x → ⊥) → (other : U) → Rewrites facts outs before step other → ⊥
    unproved x is are never other (by_rule t not_fix empty) = not_fix is
    unproved x is are never other (by_proof y t is_fix are_y inner) =
        let e : y ≡ x = one_argument y x (sym are_y ∙ are) in
        never (subst (λ z. Replays facts (outs + place.binders) (z ⊗ z) (out-Step step).inner z) e
        (subst (λ k. Replays facts (outs + k) (y ⊗ y) (out-Step step).inner y) (sym (binders-of other t)) inner))

-- the names for the binders where a path leads
pub names-fit : (facts : Facts) (outs : ℕ) (before : U) (step : Step) (place : Place) → Finds facts outs before step (Ok place) → outs + depth before < 2 ^ 32
    → outs + place.binders < 2 ^ 32
names-fit facts outs before step place found shallow =
    let r = found.1.replaced in
    let part : U = closed_path found.1.from outs (binders r.context) in
    let b : place.binders ≡ binders r.context = ap (λ (p : Place). p.binders) found.2 in
    let few = binders-few r.context in
    let deep = deep-filled r.context part in
    let some = depth-positive part in
    omega (arith, b, few, deep, some, ap depth r.is_from, shallow)

-- ---- sizes of the sides
right-depth : (facts : Facts) (step : Step) (l r : U) → Instance facts (out-Step step).rule (out-Step step).args l r
    → (sizes_of (row facts (out-Step step).rule (out-Step step).args)).right_depth ≡ capped (depth r)
unfolding measure_of
right-depth facts step l r i = ap (λ (w : Option Row). (sizes_of w).right_depth) i.row

left-depth : (facts : Facts) (step : Step) (l r : U) → Instance facts (out-Step step).rule (out-Step step).args l r
    → (sizes_of (row facts (out-Step step).rule (out-Step step).args)).left_depth ≡ capped (depth l)
unfolding measure_of
left-depth facts step l r i = ap (λ (w : Option Row). (sizes_of w).left_depth) i.row

pub forward-depth : (facts : Facts) (step : Step) (sizes : Sizes) → sizes ≡ sizes_of (row facts (out-Step step).rule (out-Step step).args)
    → (forward : Bool) → forward ≡ true → (from to : U) → Sides facts forward step from to → sizes.right_depth ≡ capped (depth to)
forward-depth facts step sizes is true e from to i = ap (λ (s : Sizes). s.right_depth) is ∙ right-depth facts step from to i
forward-depth facts step sizes is false e from to i = absurd (cc)

pub backward-depth : (facts : Facts) (step : Step) (sizes : Sizes) → sizes ≡ sizes_of (row facts (out-Step step).rule (out-Step step).args)
    → (forward : Bool) → forward ≡ false → (from to : U) → Sides facts forward step from to → sizes.left_depth ≡ capped (depth to)
backward-depth facts step sizes is true e from to i = absurd (cc)
backward-depth facts step sizes is false e from to i = ap (λ (s : Sizes). s.left_depth) is ∙ left-depth facts step to from i

-- ---- one step after another
pub replays-more : (facts : Facts) (outs : ℕ) (first : U) (steps : List Step) (step : Step) (before after : U) → Replays facts outs first steps before → Rewrites facts outs before step after
    → Replays facts outs first (steps ++ step ∷ []) after
replays-more facts outs first _ step before after no_step r = first_then r no_step
replays-more facts outs first _ step before after (first_then s rest) r = first_then s (replays-more facts outs _ _ step before after rest r)

pub replays-first : (facts : Facts) (outs : ℕ) (before : U) (step : Step) (rest : List Step) (end after : U) → Replays facts outs before (step ∷ rest) end → Rewrites facts outs before step after
    → Replays facts outs after rest end
replays-first facts outs before step rest end after (first_then {middle = middle} r more) s =
    subst (λ x. Replays facts outs x rest end) (one_result facts outs before step middle after r s) more

pub replays-result : (facts : Facts) (outs : ℕ) (before : U) (step : Step) (rest : List Step) (end : U) → Replays facts outs before (step ∷ rest) end → (after : U) × Rewrites facts outs before step after
replays-result facts outs before step rest end (first_then {middle = middle} r more) = (middle, r)

pub replays-end : (facts : Facts) (outs : ℕ) (before end : U) → Replays facts outs before [] end → before ≡ end
replays-end facts outs before _ no_step = refl

pub one_end : (facts : Facts) (outs : ℕ) (before : U) (steps : List Step) (end end' : U) → Replays facts outs before steps end → Replays facts outs before steps end' → end ≡ end'
one_end facts outs before _ end end' no_step s = replays-end facts outs before end' s
one_end facts outs before _ end end' (first_then {middle = middle} {step = step} {rest = rest} r more) s =
    one_end facts outs middle rest end end' more (replays-first facts outs before step rest end' middle s r)

-- how deep the term may be after a step: as deep as before, or as the new side at its place
pub deep-after : (facts : Facts) (outs : ℕ) (before : U) (step : Step) (after : U) (most new : ℕ) → Rewrites facts outs before step after → depth before ≤ most
    → ((from to : U) → Sides facts (out-Step step).forward step from to → length (turns (out-Step step).path) + depth to ≤ new) → most ≤ new → depth after ≤ new
deep-after facts outs before step after most new r shallow sides above =
    let t = exchanged-of facts outs before step after r in
    let fits = replaced-depth outs (out-Step step).path before t.from t.to after t.replaced new (omega (arith, shallow, above)) in
    fits.1 (sides t.from t.to t.sides)

-- the bound that is kept on it
pub deep-within : (facts : Facts) (outs : ℕ) (before : U) (step : Step) (after : U) (most : ℕ) (place : Place) (new kept : ℕ) → IsMade facts outs before step after (Ok place)
    → (most < 2 ^ 32 → depth before ≤ most) → ((from to : U) → Sides facts (out-Step step).forward step from to → new ≡ capped (depth to))
    → kept ≡ max most (min (place.turns + new) 18446744073709551615) → kept < 2 ^ 32 → depth after ≤ kept
deep-within facts outs before step after most place new kept made shallow sides is small =
    deep-after facts outs before step after most kept made.0 (shallow (omega (arith, is, small)))
    (λ from to i. let e = sides from to i in omega (arith, e, is, small, made.1)) (omega (arith, is))

-- ---- what is shown by inner steps
pub square-shown : (facts : Facts) (outs : ℕ) (x first term : U) (steps : List Step) (b : Bool) → first ≡ x ⊗ x → Replays facts outs first steps term → IsTrue b ↔ (term ≡ x)
    → Tells (Replays facts outs (x ⊗ x) steps x) (Ok b)
square-shown facts outs x first term steps true is r same = subst (λ y. Replays facts outs (x ⊗ x) steps y) (same.0 refl) (subst (λ y. Replays facts outs y steps term) is r)
square-shown facts outs x first term steps false is r same = λ s.
    absurd (false_true (same.1 (one_end facts outs (x ⊗ x) steps term x (subst (λ y. Replays facts outs y steps term) is r) s)))
  where
    false_true : IsTrue false → ⊥
    false_true e = cc

pub tells-yes : (P : Type 0) (b : Bool) → b ≡ true → Tells P (Ok b) → P
tells-yes P true e h = h
tells-yes P false e h = absurd cc

pub tells-no : (P : Type 0) (b : Bool) → b ≡ false → Tells P (Ok b) → P → ⊥
tells-no P true e h = absurd cc
tells-no P false e h = h

pub replayed-yes : (facts : Facts) (outs : ℕ) (first term : U) (steps : List Step) (b : Bool) → b ≡ true → IsReplayed facts outs first steps term (Ok b) → Replays facts outs first steps term
replayed-yes facts outs first term steps true e h = h
replayed-yes facts outs first term steps false e h = absurd cc

pub ruleset laws = (one_result, one_end)
