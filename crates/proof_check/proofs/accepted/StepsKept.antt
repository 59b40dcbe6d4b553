-- The lines of steps that fit are taken one after the other.
use Rattle.std.proofs.Common.{◌≡◌, ℕ, ◌+◌, ◌<◌, ◌≤◌, true, false, List, [], ◌∷◌, ◌++◌, length, map, refl, sym, ap, subst, ◌∙◌, arith, append_assoc, append-nil, inl}
use Rattle.std.specs.Prelude.{Ok}
use Rattle.std.proofs.lemmas.List.{map-append}
use Rattle.data_model.specs.Lists.{Each}
use Rattle.u_terms.specs.Syntax.{U}
use Rattle.u_terms.specs.declared.facts.Facts.{Facts}
use Rattle.u_rules.specs.declared.rule.Arg.TheVariants.{Term}
use Rattle.u_rules.specs.Terms.{◌⊗◌}
use Rattle.u_rules.specs.Rows.{row}
use Rattle.u_rules.specs.Measures.{sizes_of}
use Rattle.u_deriv.specs.declared.step.Step.{Step, out-Step}
use Rattle.u_deriv.specs.declared.step.Step.TheOpen.{Step-F}
use Rattle.u_deriv.specs.Contexts.{binders}
use Rattle.u_deriv.specs.Steps as steps
use Rattle.u_deriv.specs.Steps.{Exchanged}
use Rattle.proof_text.specs.declared.line.LineStep.{LineStep}
use Rattle.proof_text.specs.declared.line.LineStep.TheVariants.{Whole, Opens, Closes, Ends}
use Rattle.proof_text.specs.RuleNames.{has_inner}
use Rattle.proof_text.specs.Written.{SaysStep, text_of, IsWritable}
use Rattle.proof_text.specs.StepLines.{step_lines, lines_of, steps_in, proof_lines}
use Rattle.proof_text.proofs.spelled.LinesAgain.{says_read}
use Rattle.proof_text.proofs.spelled.OneText.{parts_of}
use Rattle.proof_text.proofs.texts.StepLines.{no_inner, bare, whole_lines, opened_lines, steps_in-append}
use Rattle.proof_text.proofs.texts.TextLines.{lines_of_proof}
use Rattle.proof_check.specs.Limits.{SidesAreSmall, most_steps, most_nesting}
use Rattle.proof_check.specs.Accepted.{KeepsLimits, Fits, AllFit, by_rule, by_proof, no_step, first_then, Accepted}
use Rattle.proof_check.specs.Judging.{Level, Waiting, Progress, begun, versioned, among, ended, header, width_line, OpensProof, square_of, Takes, version, width, makes, opens, closes, ends}
use Rattle.proof_check.specs.Checking.{on, Stands, none, takes, Shows}
use Rattle.proof_check.specs.declared.answers.Verdict.TheVariants.{Proved}
use Rattle.proof_check.proofs.accepted.StepsTaken.{parts_with, out-with, exchanged-with}

abbrev at_level : ℕ → U → Level
at_level outs u = record { outs = outs; term = u }

-- ---- the line that opens the inner steps of a step
opening-says : (s : Step) → SaysStep true (parts_with s []) → SaysStep true (out-Step (bare s))
opening-says s says = subst (λ (d : Step-F Step). SaysStep true d) (sym (out-with s [])) says

opening-sides : (facts : Facts) (s : Step) → SidesAreSmall (sizes_of (row facts (out-Step s).rule (out-Step s).args)) → SidesAreSmall (sizes_of (row facts (out-Step (bare s)).rule (out-Step (bare s)).args))
opening-sides facts s small = subst (λ (d : Step-F Step). SidesAreSmall (sizes_of (row facts d.rule d.args))) (sym (out-with s [])) small

opening-is : (facts : Facts) (outs : ℕ) (before : U) (s : Step) (x after : U) (t : Exchanged facts outs before s after) → (out-Step s).args ≡ Term x ∷ []
    → OpensProof facts (at_level outs before) (bare s) x after (outs + binders t.replaced.context)
opening-is facts outs before s x after t are = record {
  args = ap (λ (d : Step-F Step). d.args) (out-with s []) ∙ are;
  exchanged = exchanged-with facts outs before s [] after t;
  outs = refl;
}

module _ (facts : Facts) (outs : ℕ) (left : U) where
  -- some lines came to this, whatever their number
  record Reaches (texts : List (List ℕ)) (progress : Progress) : Type 0 where
    pub lines : ℕ
    pub stands : Stands facts outs left texts (on lines progress)

  next : (texts : List (List ℕ)) (before : Progress) (text : List ℕ) (after : Progress) → Reaches texts before → Takes facts outs before text after → Reaches (texts ++ text ∷ []) after
  next texts before text after r k = record { lines = r.lines + 1; stands = takes r.stands k }

  -- behind these lines
  abbrev Goes : ℕ → U → List Waiting → List LineStep → U → Type 0
  Goes n before waiting lines after = (texts : List (List ℕ)) (count : ℕ) → count + steps_in lines ≤ most_steps → Reaches texts (among (at_level n before) waiting count)
      → Reaches (texts ++ map text_of lines) (among (at_level n after) waiting (count + steps_in lines))

  whole-goes : (nesting n : ℕ) (before : U) (s : Step) (after : U) (waiting : List Waiting) → steps.Rewrites facts n before s after → SaysStep false (out-Step s) → KeepsLimits facts s after
      → Goes n before waiting (Whole s ∷ []) after
  whole-goes nesting n before s after waiting r says keeps texts count few here =
      next texts (among (at_level n before) waiting count) (text_of (Whole s)) (among (at_level n after) waiting (count + 1)) here
      (makes (record { read = says_read (Whole s) says; room = omega (arith, few); sides = keeps.sides }) r keeps.term)

  inner-goes : (n : ℕ) (before : U) (s : Step) (x after : U) (waiting : List Waiting) (t : Exchanged facts n before s after) → (out-Step s).args ≡ Term x ∷ []
      → SaysStep true (parts_with s []) → KeepsLimits facts s after → length waiting < most_nesting
      → Goes (n + binders t.replaced.context) (x ⊗ x) (record { behind = at_level n after; root = x } ∷ waiting) (lines_of (out-Step s).inner) x
      → Goes n before waiting (Opens (bare s) ∷ (lines_of (out-Step s).inner ++ Closes ∷ [])) after
  inner-goes n before s x after waiting t are says keeps deep inner texts count few here =
      let m : ℕ = n + binders t.replaced.context in
      let waits : Waiting = record { behind = at_level n after; root = x } in
      let ls : List LineStep = lines_of (out-Step s).inner in
      let open_text : List ℕ = text_of (Opens (bare s)) in
      let total : steps_in (ls ++ Closes ∷ []) ≡ steps_in ls = omega (arith, steps_in-append ls (Closes ∷ [])) in
      let opened : Reaches (texts ++ open_text ∷ []) (among (square_of x m) (waits ∷ waiting) (count + 1)) =
      next texts (among (at_level n before) waiting count) open_text (among (square_of x m) (waits ∷ waiting) (count + 1)) here
      (opens (record { read = says_read (Opens (bare s)) (opening-says s says); room = (omega (arith, few), deep); sides = opening-sides facts s keeps.sides }) (opening-is facts n before s x after t are)) in
      let through : Reaches ((texts ++ open_text ∷ []) ++ map text_of ls) (among (at_level m x) (waits ∷ waiting) (count + 1 + steps_in ls)) =
      inner (texts ++ open_text ∷ []) (count + 1) (omega (arith, few, total)) opened in
      let closed : Reaches (((texts ++ open_text ∷ []) ++ map text_of ls) ++ text_of Closes ∷ []) (among (at_level n after) waiting (count + 1 + steps_in ls)) =
      next ((texts ++ open_text ∷ []) ++ map text_of ls) (among (at_level m x) (waits ∷ waiting) (count + 1 + steps_in ls)) (text_of Closes) (among (at_level n after) waiting (count + 1 + steps_in ls)) through
      (closes (says_read Closes tt) refl keeps.term) in
      let e : ((texts ++ open_text ∷ []) ++ map text_of ls) ++ text_of Closes ∷ [] ≡ texts ++ (open_text ∷ map text_of (ls ++ Closes ∷ [])) =
      append_assoc (texts ++ open_text ∷ []) (map text_of ls) (text_of Closes ∷ []) ∙ append_assoc texts (open_text ∷ []) (map text_of ls ++ text_of Closes ∷ [])
      ∙ ap (λ (ts : List (List ℕ)). texts ++ (open_text ∷ ts)) (sym (map-append text_of ls (Closes ∷ []))) in
      let c : count + 1 + steps_in ls ≡ count + (steps_in (ls ++ Closes ∷ []) + 1) = omega (arith, total) in
      subst (λ (ts : List (List ℕ)). Reaches ts (among (at_level n after) waiting (count + (steps_in (ls ++ Closes ∷ []) + 1)))) e
      (subst (λ (k : ℕ). Reaches (((texts ++ open_text ∷ []) ++ map text_of ls) ++ text_of Closes ∷ []) (among (at_level n after) waiting k)) c closed)

  mutual
    fits-go : (nesting n : ℕ) (before : U) (s : Step) (after : U) (waiting : List Waiting) → Fits facts nesting n before s after → IsWritable s → nesting ≡ length waiting → Goes n before waiting (step_lines s) after
    fits-go nesting n before s after waiting (by_rule t other empty keeps) w deep =
        let parts = parts_of s w in
        let says : SaysStep false (out-Step s) = record { parts = parts.line; small = keeps.arguments; opens = no_inner (out-Step s).rule other; none = empty } in
        subst (λ (ls : List LineStep). Goes n before waiting ls after) (sym (whole_lines s empty says.opens)) (whole-goes nesting n before s after waiting (steps.by_rule t other empty) says keeps)
    fits-go nesting n before s after waiting (by_proof x t is are keeps few inner) w deep =
        let parts = parts_of s w in
        let has : has_inner (out-Step s).rule ≡ true = ap has_inner is in
        let says : SaysStep true (parts_with s []) = record { parts = parts.line; small = keeps.arguments; opens = has; none = refl } in
        let waits : Waiting = record { behind = at_level n after; root = x } in
        let one : nesting + 1 ≡ length (waits ∷ waiting) = omega (arith, deep) in
        subst (λ (ls : List LineStep). Goes n before waiting ls after) (sym (opened_lines s has))
        (inner-goes n before s x after waiting t are says keeps (subst (λ (k : ℕ). k < most_nesting) deep few)
        (all-go (nesting + 1) (n + binders t.replaced.context) (x ⊗ x) (out-Step s).inner x (waits ∷ waiting) inner parts.inner one))

    all-go : (nesting n : ℕ) (before : U) (ss : List Step) (after : U) (waiting : List Waiting) → AllFit facts nesting n before ss after → Each IsWritable ss → nesting ≡ length waiting → Goes n before waiting (lines_of ss) after
    all-go nesting n before _ _ waiting no_step w deep texts count few here =
        let c : count ≡ count + 0 = omega arith in
        subst (λ (ts : List (List ℕ)). Reaches ts (among (at_level n before) waiting (count + 0))) (sym (append-nil texts)) (subst (λ (k : ℕ). Reaches texts (among (at_level n before) waiting k)) c here)
    all-go nesting n before _ after waiting (first_then {middle = middle} {step = s} {rest = ss} f more) w deep texts count few here =
        let ls : List LineStep = step_lines s in
        let total = steps_in-append ls (lines_of ss) in
        let first : Reaches (texts ++ map text_of ls) (among (at_level n middle) waiting (count + steps_in ls)) = fits-go nesting n before s middle waiting f w.0 deep texts count (omega (arith, few, total)) here in
        let all : Reaches ((texts ++ map text_of ls) ++ map text_of (lines_of ss)) (among (at_level n after) waiting (count + steps_in ls + steps_in (lines_of ss))) =
        all-go nesting n middle ss after waiting more w.1 deep (texts ++ map text_of ls) (count + steps_in ls) (omega (arith, few, total)) first in
        let e : (texts ++ map text_of ls) ++ map text_of (lines_of ss) ≡ texts ++ map text_of (ls ++ lines_of ss) =
        append_assoc texts (map text_of ls) (map text_of (lines_of ss)) ∙ ap (λ (ts : List (List ℕ)). texts ++ ts) (sym (map-append text_of ls (lines_of ss))) in
        let c : count + steps_in ls + steps_in (lines_of ss) ≡ count + steps_in (ls ++ lines_of ss) = omega (arith, total) in
        subst (λ (ts : List (List ℕ)). Reaches ts (among (at_level n after) waiting (count + steps_in (ls ++ lines_of ss)))) e
        (subst (λ (k : ℕ). Reaches ((texts ++ map text_of ls) ++ map text_of (lines_of ss)) (among (at_level n after) waiting k)) c all)

  -- from the first line to the last one
  all-reach : (right : U) (bytes : List ℕ) (a : Accepted facts outs left right bytes) → Reaches (proof_lines outs a.steps) (ended right)
  all-reach right bytes a =
      let body : List (List ℕ) = map text_of (lines_of a.steps) in
      let versioned_at : Reaches (header 1 ∷ []) (versioned left) = next [] (begun left) (header 1) (versioned left) (record { lines = 0; stands = none }) (version refl) in
      let level : Level = at_level outs left in
      let among_at : Reaches (header 1 ∷ (width_line outs ∷ [])) (among level [] 0) = next (header 1 ∷ []) (versioned left) (width_line outs) (among level [] 0) versioned_at (width refl) in
      let made : Reaches (header 1 ∷ (width_line outs ∷ body)) (among (at_level outs right) [] (0 + steps_in (lines_of a.steps))) =
      all-go 0 outs left a.steps right [] a.fit a.text.writable refl (header 1 ∷ (width_line outs ∷ [])) 0 (omega (arith, a.few)) among_at in
      next (header 1 ∷ (width_line outs ∷ body)) (among (at_level outs right) [] (0 + steps_in (lines_of a.steps))) (text_of Ends) (ended right) made (ends (says_read Ends tt))

  pub accepted-shown : (right : U) (bytes : List ℕ) → Accepted facts outs left right bytes → Shows facts outs left right bytes (Ok Proved)
  accepted-shown right bytes a =
      let r = all-reach right bytes a in
      record { lines = proof_lines outs a.steps; are_lines = lines_of_proof bytes outs a.steps a.text; state = on r.lines (ended right); stands = r.stands; finishes = inl (refl, refl) }
