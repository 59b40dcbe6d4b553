-- What the lines so far have come to was made by steps, and these lines are theirs.
use Rattle.std.proofs.Common.{◌≡◌, ℕ, ◌+◌, ◌^◌, ◌<◌, ◌≤◌, Bool, true, false, List, [], ◌∷◌, ◌++◌, length, map, refl, sym, ap, subst, ◌∙◌, arith, append_assoc, inl, inr}
use Rattle.std.specs.Prelude.{Ok}
use Rattle.std.specs.List.{concat}
use Rattle.std.proofs.lemmas.List.{map-append}
use Rattle.data_model.specs.Lists.{Each}
use Rattle.u_terms.specs.Syntax.{U}
use Rattle.u_terms.specs.declared.facts.Facts.{Facts}
use Rattle.u_rules.specs.declared.rule.Rule.TheVariants as rule
use Rattle.u_rules.specs.Terms.{◌⊗◌}
use Rattle.u_rules.specs.Rows.{row, Instance}
use Rattle.u_rules.specs.Measures.{sizes_of}
use Rattle.u_rules.specs.Sides.{AreNamed}
use Rattle.u_deriv.specs.declared.step.Step.{Step, out-Step}
use Rattle.u_deriv.specs.declared.step.Step.TheViews.{out-roll-Step}
use Rattle.u_deriv.specs.declared.step.Step.TheOpen.{Step-F}
use Rattle.u_deriv.specs.Turns.{turns}
use Rattle.u_deriv.specs.Contexts.{binders}
use Rattle.u_deriv.specs.Steps as steps
use Rattle.u_deriv.specs.Steps.{Sides, Exchanged, Rewrites}
use Rattle.proof_text.specs.declared.line.LineStep.{LineStep}
use Rattle.proof_text.specs.declared.line.LineStep.TheVariants.{Whole, Opens, Closes, Ends}
use Rattle.proof_text.specs.RuleNames.{has_inner}
use Rattle.proof_text.specs.Written.{IsSmall as IsSmallArgument, SaysStep, text_of, IsWritable}
use Rattle.proof_text.specs.StepLines.{step_lines, lines_of, steps_in, proof_lines}
use Rattle.proof_text.proofs.answers.OneAnswer.{spelled}
use Rattle.proof_text.proofs.texts.StepLines.{only_fix, never_fix, with_inner, whole_lines, inner_lines, lines-more, steps_in-append, is_writable, bare_writable}
use Rattle.proof_text.proofs.texts.TextLines.{lines_whole, proof_whole}
use Rattle.proof_check.specs.Limits.{IsSmall, SidesAreSmall, sizes_for, most_steps, most_nesting}
use Rattle.proof_check.specs.Accepted.{KeepsLimits, Fits, AllFit, by_rule, by_proof, no_step, first_then, Accepted}
use Rattle.proof_check.specs.Judging.{Level, Waiting, Progress, begun, versioned, among, ended, header, width_line, OpensProof, behind_step, Takes, version, width, makes, opens, closes, ends}
use Rattle.proof_check.specs.Checking.{State, on, stopped, Stands, none, takes, Finishes, Shows}
use Rattle.proof_check.specs.declared.answers.Stop.TheVariants.{Fails, Fault}
use Rattle.proof_check.specs.declared.answers.Verdict.TheVariants.{Proved}

-- ---- a step with other inner steps
pub sides-with : (facts : Facts) (forward forward' : Bool) (s s' : Step) (from to : U) → forward' ≡ forward → (out-Step s').rule ≡ (out-Step s).rule → (out-Step s').args ≡ (out-Step s).args
    → Sides facts forward s from to → Sides facts forward' s' from to
sides-with facts true true s s' from to f q a i =
    subst (λ x. Instance facts x (out-Step s').args from to) (sym q) (subst (λ x. Instance facts (out-Step s).rule x from to) (sym a) i)
sides-with facts false false s s' from to f q a i =
    subst (λ x. Instance facts x (out-Step s').args to from) (sym q) (subst (λ x. Instance facts (out-Step s).rule x to from) (sym a) i)
sides-with facts true false s s' from to f q a i = absurd (cc f)
sides-with facts false true s s' from to f q a i = absurd (cc f)

abbrev pub parts_with : Step → List Step → Step-F Step
parts_with s inner = record { path = (out-Step s).path; forward = (out-Step s).forward; rule = (out-Step s).rule; args = (out-Step s).args; inner = inner }

pub out-with : (s : Step) (inner : List Step) → out-Step (with_inner s inner) ≡ parts_with s inner
out-with s inner = out-roll-Step (parts_with s inner)

abbrev pub exchanged-with : (facts : Facts) (outs : ℕ) (before : U) (s : Step) (inner : List Step) (after : U) → Exchanged facts outs before s after → Exchanged facts outs before (with_inner s inner) after
exchanged-with facts outs before s inner after t = record {
  from = t.from;
  to = t.to;
  sides = sides-with facts (out-Step s).forward (out-Step (with_inner s inner)).forward s (with_inner s inner) t.from t.to
      (ap (λ (d : Step-F Step). d.forward) (out-with s inner)) (ap (λ (d : Step-F Step). d.rule) (out-with s inner)) (ap (λ (d : Step-F Step). d.args) (out-with s inner)) t.sides;
  replaced = record {
    context = t.replaced.context;
    at_path = t.replaced.at_path ∙ sym (ap (λ (d : Step-F Step). turns d.path) (out-with s inner));
    is_from = t.replaced.is_from;
    is_to = t.replaced.is_to;
  };
  named = subst (λ args. AreNamed (outs + binders t.replaced.context) args) (sym (ap (λ (d : Step-F Step). d.args) (out-with s inner))) t.named;
}

keeps-with : (facts : Facts) (s : Step) (inner : List Step) (after : U) → KeepsLimits facts s after → KeepsLimits facts (with_inner s inner) after
keeps-with facts s inner after k = record {
  arguments = subst (λ (d : Step-F Step). Each IsSmallArgument d.args) (sym (out-with s inner)) k.arguments;
  sides = subst (λ (d : Step-F Step). SidesAreSmall (sizes_of (row facts d.rule d.args))) (sym (out-with s inner)) k.sides;
  term = k.term;
}

-- ---- steps that fit
fit-more : (facts : Facts) (nesting outs : ℕ) (first : U) (ss : List Step) (s : Step) (before after : U) → AllFit facts nesting outs first ss before → Fits facts nesting outs before s after
    → AllFit facts nesting outs first (ss ++ s ∷ []) after
fit-more facts nesting outs first _ s before after no_step f = first_then f no_step
fit-more facts nesting outs first _ s before after (first_then {middle = middle} {rest = rest} g more) f = first_then g (fit-more facts nesting outs middle rest s before after more f)

writable-more : (ss : List Step) (s : Step) → Each IsWritable ss → IsWritable s → Each IsWritable (ss ++ s ∷ [])
writable-more [] s w v = (v, tt)
writable-more (first ∷ ss) s w v = (w.0, writable-more ss s w.1 v)

-- a step that has a result and whose line has no inner steps
plain-fits : (facts : Facts) (nesting outs : ℕ) (before : U) (s : Step) (after : U) → Rewrites facts outs before s after → has_inner (out-Step s).rule ≡ false → KeepsLimits facts s after
    → Fits facts nesting outs before s after
plain-fits facts nesting outs before s after (steps.by_rule t other empty) e k = by_rule t other empty k
plain-fits facts nesting outs before s after (steps.by_proof x t is are inner) e k = absurd (never_fix (out-Step s).rule e is)

module _ (facts : Facts) (outs : ℕ) (left : U) where
  -- The steps at the innermost level and at those behind it lead to their terms, and all that wait are admitted. The lines are those of all
  -- these steps, so far.
  data Made : Level → List Waiting → List LineStep → Type 0 where
    outermost : {level : Level} (ss : List Step) → level.outs ≡ outs → AllFit facts 0 outs left ss level.term → Each IsWritable ss → Made level [] (lines_of ss)
    inside : {level : Level} {inner : Waiting} {waiting : List Waiting} {lines : List LineStep} (before : U) (s : Step) (ss : List Step)
        → Made (behind_step inner.behind before) waiting lines
        → SaysStep true (out-Step s)
        → SidesAreSmall (sizes_for facts s)
        → length waiting < most_nesting
        → OpensProof facts (behind_step inner.behind before) s inner.root inner.behind.term level.outs
        → AllFit facts (length waiting + 1) level.outs (inner.root ⊗ inner.root) ss level.term
        → Each IsWritable ss
        → Made level (inner ∷ waiting) (lines ++ (Opens s ∷ lines_of ss))

  made-more : (level : Level) (waiting : List Waiting) (lines : List LineStep) (s : Step) (after : U) → Made level waiting lines → Fits facts (length waiting) level.outs level.term s after → IsWritable s
      → Made (behind_step level after) waiting (lines ++ step_lines s)
  made-more level _ _ s after (outermost ss same fit w) f v =
      subst (λ (ls : List LineStep). Made (behind_step level after) [] ls) (lines-more ss s)
      (outermost (ss ++ s ∷ []) same (fit-more facts 0 outs left ss s level.term after fit (subst (λ (n : ℕ). Fits facts 0 n level.term s after) same f)) (writable-more ss s w v))
  made-more level _ _ s after (inside {inner = inner} {waiting = waiting} {lines = lines} before opener ss below says sides few o fit w) f v =
      let one : length (inner ∷ waiting) ≡ length waiting + 1 = omega arith in
      let e : lines ++ (Opens opener ∷ lines_of (ss ++ s ∷ [])) ≡ (lines ++ (Opens opener ∷ lines_of ss)) ++ step_lines s =
      ap (λ (ls : List LineStep). lines ++ (Opens opener ∷ ls)) (lines-more ss s) ∙ sym (append_assoc lines (Opens opener ∷ lines_of ss) (step_lines s)) in
      subst (λ (ls : List LineStep). Made (behind_step level after) (inner ∷ waiting) ls) e
      (inside before opener (ss ++ s ∷ []) below says sides few o
      (fit-more facts (length waiting + 1) level.outs (inner.root ⊗ inner.root) ss s level.term after fit (subst (λ (n : ℕ). Fits facts n level.outs level.term s after) one f)) (writable-more ss s w v))

  made-closed : (level : Level) (inner : Waiting) (waiting : List Waiting) (lines : List LineStep) → Made level (inner ∷ waiting) lines → level.term ≡ inner.root → IsSmall inner.behind.term
      → Made inner.behind waiting (lines ++ Closes ∷ [])
  made-closed level inner waiting _ (inside {lines = lines} before s ss below says sides few o fit w) same small =
      let is : (out-Step s).rule ≡ rule.SqFix = only_fix (out-Step s).rule says.opens in
      let exchanged = exchanged-with facts inner.behind.outs before s ss inner.behind.term o.exchanged in
      let inner_fit : AllFit facts (length waiting + 1) (inner.behind.outs + binders o.exchanged.replaced.context) (inner.root ⊗ inner.root) ss inner.root =
      subst (λ (n : ℕ). AllFit facts (length waiting + 1) n (inner.root ⊗ inner.root) ss inner.root) o.outs (subst (λ (u : U). AllFit facts (length waiting + 1) level.outs (inner.root ⊗ inner.root) ss u) same fit) in
      let f : Fits facts (length waiting) inner.behind.outs before (with_inner s ss) inner.behind.term =
      by_proof inner.root exchanged (ap (λ (d : Step-F Step). d.rule) (out-with s ss) ∙ is) (ap (λ (d : Step-F Step). d.args) (out-with s ss) ∙ o.args)
      (keeps-with facts s ss inner.behind.term (record { arguments = says.small; sides = sides; term = small })) few
      (subst (λ (l : List Step). AllFit facts (length waiting + 1) (inner.behind.outs + binders o.exchanged.replaced.context) (inner.root ⊗ inner.root) l inner.root) (sym (ap (λ (d : Step-F Step). d.inner) (out-with s ss))) inner_fit) in
      let v : IsWritable (with_inner s ss) = is_writable (parts_with s ss) says.parts (λ e. absurd (never_fix (out-Step s).rule e is)) w in
      let e : lines ++ step_lines (with_inner s ss) ≡ (lines ++ (Opens s ∷ lines_of ss)) ++ Closes ∷ [] =
      ap (λ (ls : List LineStep). lines ++ ls) (inner_lines s ss says.none says.opens) ∙ sym (append_assoc lines (Opens s ∷ lines_of ss) (Closes ∷ [])) in
      subst (λ (ls : List LineStep). Made inner.behind waiting ls) e
      (made-more (behind_step inner.behind before) waiting lines (with_inner s ss) inner.behind.term below f v)

  -- ---- what the lines so far say
  record Among (level : Level) (waiting : List Waiting) (count : ℕ) (texts : List (List ℕ)) : Type 0 where
    pub lines : List LineStep
    pub made : Made level waiting lines
    pub written : texts ≡ header 1 ∷ (width_line outs ∷ map text_of lines)
    pub counted : count ≡ steps_in lines
    pub few : count ≤ most_steps

  record Ended (u : U) (texts : List (List ℕ)) : Type 0 where
    pub steps : List Step
    pub fit : AllFit facts 0 outs left steps u
    pub writable : Each IsWritable steps
    pub written : texts ≡ proof_lines outs steps
    pub few : steps_in (lines_of steps) ≤ most_steps

  abbrev Kept : List (List ℕ) → Progress → Type 0
  Kept texts (begun u) = (u ≡ left) × (texts ≡ [])
  Kept texts (versioned u) = (u ≡ left) × (texts ≡ header 1 ∷ [])
  Kept texts (among level waiting count) = Among level waiting count texts
  Kept texts (ended u) = Ended u texts

  texts-more : (texts : List (List ℕ)) (lines : List LineStep) (text : List ℕ) (says : LineStep) → texts ≡ header 1 ∷ (width_line outs ∷ map text_of lines) → text ≡ text_of says
      → texts ++ text ∷ [] ≡ header 1 ∷ (width_line outs ∷ map text_of (lines ++ says ∷ []))
  texts-more texts lines text says e i =
      ap (λ (ts : List (List ℕ)). ts ++ text ∷ []) e ∙ ap (λ (t : List ℕ). header 1 ∷ (width_line outs ∷ (map text_of lines ++ t ∷ []))) i
      ∙ ap (λ (ts : List (List ℕ)). header 1 ∷ (width_line outs ∷ ts)) (sym (map-append text_of lines (says ∷ [])))

  ended-at : (level : Level) (count : ℕ) (texts : List (List ℕ)) (text : List ℕ) (lines : List LineStep) → Made level [] lines → texts ≡ header 1 ∷ (width_line outs ∷ map text_of lines) → count ≡ steps_in lines
      → count ≤ most_steps → text ≡ text_of Ends → Ended level.term (texts ++ text ∷ [])
  ended-at level count texts text _ (outermost ss same fit w) e c few i = record {
    steps = ss;
    fit = fit;
    writable = w;
    written = ap (λ (ts : List (List ℕ)). ts ++ text ∷ []) e ∙ ap (λ (t : List ℕ). header 1 ∷ (width_line outs ∷ (map text_of (lines_of ss) ++ t ∷ []))) i;
    few = subst (λ (n : ℕ). n ≤ most_steps) c few;
  }

  kept-more : (texts : List (List ℕ)) (before : Progress) (text : List ℕ) (after : Progress) → Kept texts before → Takes facts outs before text after → Kept (texts ++ text ∷ []) after
  kept-more texts _ text _ k (version e) = (k.0, ap (λ (ts : List (List ℕ)). ts ++ text ∷ []) k.1 ∙ ap (λ (t : List ℕ). t ∷ []) e)
  kept-more texts _ text _ k (width {u = u} e) = record {
    lines = [];
    made = outermost [] refl (subst (λ (v : U). AllFit facts 0 outs left [] v) (sym k.0) no_step) tt;
    written = ap (λ (ts : List (List ℕ)). ts ++ text ∷ []) k.1 ∙ ap (λ (t : List ℕ). header 1 ∷ (t ∷ [])) e;
    counted = refl;
    few = omega arith;
  }
  kept-more texts _ text _ k (makes {level = level} {waiting = waiting} {count = count} {step = s} {after = after} a r small) =
      let said = spelled text (Whole s) a.read in
      let says = said.1 in
      let f = plain-fits facts (length waiting) level.outs level.term s after r says.opens (record { arguments = says.small; sides = a.sides; term = small }) in
      let m = made-more level waiting k.lines s after k.made f (bare_writable s says.parts says.none) in
      record {
        lines = k.lines ++ Whole s ∷ [];
        made = subst (λ (ls : List LineStep). Made (behind_step level after) waiting (k.lines ++ ls)) (whole_lines s says.none says.opens) m;
        written = texts-more texts k.lines text (Whole s) k.written said.0;
        counted = let c = k.counted in omega (arith, c, steps_in-append k.lines (Whole s ∷ []));
        few = let room = a.room in omega (arith, room);
      }
  kept-more texts _ text _ k (opens {level = level} {waiting = waiting} {count = count} {step = s} {x = x} {after = after} {inner_outs = m} a o) =
      let said = spelled text (Opens s) a.read in
      record {
        lines = k.lines ++ Opens s ∷ [];
        made = inside level.term s [] k.made said.1 a.sides a.room.1 o no_step tt;
        written = texts-more texts k.lines text (Opens s) k.written said.0;
        counted = let c = k.counted in omega (arith, c, steps_in-append k.lines (Opens s ∷ []));
        few = let room = a.room.0 in omega (arith, room);
      }
  kept-more texts _ text _ k (closes {level = level} {inner = inner} {waiting = waiting} {count = count} read same small) = record {
    lines = k.lines ++ Closes ∷ [];
    made = made-closed level inner waiting k.lines k.made same small;
    written = texts-more texts k.lines text Closes k.written (spelled text Closes read).0;
    counted = let c = k.counted in omega (arith, c, steps_in-append k.lines (Closes ∷ []));
    few = k.few;
  }
  kept-more texts _ text _ k (ends {level = level} {count = count} read) = ended-at level count texts text k.lines k.made k.written k.counted k.few (spelled text Ends read).0

  kept : (texts : List (List ℕ)) (lines : ℕ) (progress : Progress) → Stands facts outs left texts (on lines progress) → Kept texts progress
  kept _ _ _ none = (refl, refl)
  kept _ _ _ (takes {texts = texts} {lines = lines} {before = before} {after = after} {text = text} stands k) = kept-more texts before text after (kept texts lines before stands) k

  proved : (right : U) (bytes : List ℕ) (texts : List (List ℕ)) (u : U) → outs < 2 ^ 32 → bytes ≡ concat texts → Ended u texts → u ≡ right → Accepted facts outs left right bytes
  proved right bytes texts u word whole k is = record {
    steps = k.steps;
    text = record { spelled = whole ∙ ap concat k.written ∙ sym (proof_whole outs k.steps); writable = k.writable; word = word };
    few = k.few;
    fit = subst (λ (v : U). AllFit facts 0 outs left k.steps v) is k.fit;
  }

  accepted-by : (right : U) (bytes : List ℕ) (texts : List (List ℕ)) (state : State) → outs < 2 ^ 32 → bytes ≡ concat texts → Stands facts outs left texts state → Finishes right state (Ok Proved) → Accepted facts outs left right bytes
  accepted-by right bytes texts (on lines (begun u)) word whole stands f = absurd (cc f)
  accepted-by right bytes texts (on lines (versioned u)) word whole stands f = absurd (cc f)
  accepted-by right bytes texts (on lines (among level waiting count)) word whole stands f = absurd (cc f)
  accepted-by right bytes texts (on lines (ended u)) word whole stands (inl f) = proved right bytes texts u word whole (kept texts lines (ended u) stands) f.0
  accepted-by right bytes texts (on lines (ended u)) word whole stands (inr f) = let e = f.1 in absurd (cc e)
  accepted-by right bytes texts (stopped (Fails line)) word whole stands f = absurd (cc f)
  accepted-by right bytes texts (stopped (Fault fault)) word whole stands f = absurd (cc f)

  pub shown-accepted : (right : U) (bytes : List ℕ) → outs < 2 ^ 32 → Shows facts outs left right bytes (Ok Proved) → Accepted facts outs left right bytes
  shown-accepted right bytes word s = accepted-by right bytes s.lines s.state word (lines_whole bytes s.lines s.are_lines) s.stands s.finishes
