-- What is told of a replacement and of a step, by what an edit did.
use Rattle.std.proofs.Common.{◌≡◌, ℕ, ◌+◌, ◌<◌, ◌≤◌, ◌^◌, Bool, true, false, List, Option, Some, None, Result, Ok, Err, refl, ap, sym, subst, ◌∙◌, arith, Bor}
use Rattle.std.specs.Prelude.{not}
use Rattle.std.specs.declared.alloc.Global.{Global}
use Rattle.u_terms.specs.Syntax.{U}
use Rattle.u_terms.specs.Size.{depth}
use Rattle.u_terms.specs.Binding.{closed_path}
use Rattle.u_terms.specs.declared.term.U.TheVariants as u
use Rattle.u_terms.specs.declared.facts.Facts.{Facts}
use Rattle.u_terms.proofs.Sizes.{depth-Zero, depth-positive}
use Rattle.u_rules.specs.Rows.{row, Instance}
use Rattle.u_rules.specs.Sides.{side_of}
use Rattle.u_deriv.specs.declared.edit.Edit.{Edit}
use Rattle.u_deriv.specs.declared.edit.Edit.TheVariants as edit
use Rattle.u_deriv.specs.declared.fault.StepFault.{StepFault}
use Rattle.u_deriv.specs.declared.fault.StepFault.TheVariants.{NoResult, NoMemory}
use Rattle.u_deriv.specs.declared.place.Place.{Place}
use Rattle.u_deriv.specs.declared.run.Run.{Run}
use Rattle.u_deriv.specs.declared.step.Step.{Step, out-Step}
use Rattle.u_deriv.specs.Turns.{turns}
use Rattle.u_deriv.specs.Contexts.{Context, filled, way, binders}
use Rattle.u_deriv.specs.Steps.{Replaced, Sides, Exchanged}
use Rattle.u_deriv.specs.Applying.{HasRoomAt, Replaces, Writes, Finds, IsExchanged}
use Rattle.u_deriv.specs.Editing.{Answers, IsSide, OfEnd, IsRefused, HasRoom, part_after, left_of, right_of, from_side, to_side}
use Rattle.u_deriv.specs.Walk.{root, ended, end_of}
use Rattle.u_deriv.proofs.contexts.Ends.{end_of-found}
use Rattle.u_deriv.proofs.editing.Edited.{ended-same}
use Rattle.u_deriv.proofs.contexts.Extents.{deep-filled, binders-few}
use Rattle.u_deriv.proofs.editing.Made.{Made, end, end-is, made, unmade, refused, lacks}

-- ---- room for the names
module _ (outs : ℕ) (path : List Run) (before other : U) where
  room-found : HasRoomAt outs path before other → (o : Option U) → end_of (turns path) before ≡ o → OfEnd (Unit {0}) (λ part. HasRoom outs other (end path before)) o
  room-found room None none = tt
  room-found room (Some part) some =
      let found = end_of-found (turns path) before part some in
      let b = ap (λ (p : Place). p.binders) (end-is path before found.context part found.at_turns found.is) in
      let h = room found.context part found.at_turns found.is in
      omega (arith, b, h)

  pub room-there : HasRoomAt outs path before other → OfEnd (Unit {0}) (λ part. HasRoom outs other (end path before)) (end_of (turns path) before)
  room-there room = room-found room (end_of (turns path) before) refl

-- where a path leads, no more binders are than the term is deep
pub room-within : (outs : ℕ) (path : List Run) (before to : U) → outs + depth before + depth to ≤ 2 ^ 32 → HasRoomAt outs path before to
room-within outs path before to shallow c part at is =
    let deep = deep-filled c part in
    let few = binders-few c in
    let some = depth-positive part in
    omega (arith, deep, few, some, ap depth is, shallow)

pub room-Zero : (outs : ℕ) (path : List Run) (before : U) → outs + depth before < 2 ^ 32 → HasRoomAt outs path before u.Zero
room-Zero outs path before shallow = room-within outs path before u.Zero (omega (arith, depth-Zero, shallow))

pub ruleset room = (room-within)

-- ---- a replacement
module _ (outs : ℕ) (path : List Run) (names : ℕ) (before to after : U) (from : Bor U) where
  abbrev term : Edit
  term = edit.Term from names

  pub written : (r : Result Place StepFault) → after ≡ ended (part_after term outs to r) (turns path) root before
      → OfEnd (IsRefused r) (Answers term outs r (end path before)) (end_of (turns path) before) → Writes outs path names before from.now to after r
  written (Ok place) is found =
      let m = made path before outs term to after place is found in
      (record { context = m.context; at_path = m.at_path; is_from = m.was ∙ ap (filled m.context) m.suits.0; is_to = m.is }, m.here, m.suits.1)
  written (Err NoResult) is found = (
    λ other r few. refused path before outs term to after found r.context (closed_path from.now outs (binders r.context)) r.at_path r.is_from (refl, few),
    unmade path before outs term to after NoResult is,
  )
  written (Err NoMemory) is found = lacks path before outs term to after found

module _ (outs : ℕ) (path : List Run) (before to after : U) (from : Bor U) where
  pub replaced : (place : Place) → after ≡ ended (part_after (edit.Term from 0) outs to (Ok place)) (turns path) root before
      → OfEnd (IsRefused (Ok place)) (Answers (edit.Term from 0) outs (Ok place) (end path before)) (end_of (turns path) before) → Replaced outs path before from.now to after
  replaced place is found = (written outs path 0 before to after from (Ok place) is found).0

  pub not_replaced : (fault : StepFault) → after ≡ ended (part_after (edit.Term from 0) outs to (Err fault)) (turns path) root before
      → OfEnd (IsRefused (Err fault)) (Answers (edit.Term from 0) outs (Err fault) (end path before)) (end_of (turns path) before)
      → Replaces outs path before from.now to after (Err fault)
  not_replaced NoResult is found =
      let w = written outs path 0 before to after from (Err NoResult) is found in
      (λ other r. w.0 other r (omega arith), w.1)
  not_replaced NoMemory is found = written outs path 0 before to after from (Err NoMemory) is found

-- ---- the sides of a step
side-left : (facts : Facts) (step : Step) (l r : U) → Instance facts (out-Step step).rule (out-Step step).args l r → left_of (row facts (out-Step step).rule (out-Step step).args) ≡ l
side-left facts step l r i = ap left_of i.row

side-right : (facts : Facts) (step : Step) (l r : U) → Instance facts (out-Step step).rule (out-Step step).args l r → right_of (row facts (out-Step step).rule (out-Step step).args) ≡ r
side-right facts step l r i = ap right_of i.row

module _ (facts : Facts) (step : Step) where
  abbrev left : U
  left = left_of (row facts (out-Step step).rule (out-Step step).args)

  abbrev right : U
  right = right_of (row facts (out-Step step).rule (out-Step step).args)

  from-by : (forward : Bool) (from to : U) → Sides facts forward step from to → side_of (not forward) left right ≡ from
  from-by true from to i = side-left facts step from to i
  from-by false from to i = side-right facts step to from i

  to-by : (forward : Bool) (from to : U) → Sides facts forward step from to → side_of forward left right ≡ to
  to-by true from to i = side-right facts step from to i
  to-by false from to i = side-left facts step to from i

  pub from-is : (from to : U) → Sides facts (out-Step step).forward step from to → from_side facts step ≡ from
  from-is from to i = from-by (out-Step step).forward from to i

  pub to-is : (from to : U) → Sides facts (out-Step step).forward step from to → to_side facts step ≡ to
  to-is from to i = to-by (out-Step step).forward from to i

  pub sides-are : (from to : U) → Sides facts (out-Step step).forward step from to → Sides facts (out-Step step).forward step (from_side facts step) (to_side facts step)
  sides-are from to i =
      subst (λ x. Sides facts (out-Step step).forward step x (to_side facts step)) (sym (from-is from to i))
      (subst (λ x. Sides facts (out-Step step).forward step from x) (sym (to-is from to i)) i)

-- ---- a step at its place
module _ (alloc : Global) (facts : Bor Facts) (step : Bor Step) (outs : ℕ) (before after : U) where
  abbrev path : List Run
  path = (out-Step step.now).path

  abbrev look : Edit
  look = edit.Look alloc facts step

  abbrev by : Edit
  by = edit.Side alloc facts step

  abbrev there : (c : Context) (part : U) → way c ≡ turns path → before ≡ filled c part → IsSide facts.now outs (binders c) step.now part
      → (other : U) → other ≡ filled c (closed_path (to_side facts.now step.now) outs (binders c)) → Exchanged facts.now outs before step.now other
  there c part at was side other is = record {
    from = from_side facts.now step.now;
    to = to_side facts.now step.now;
    sides = side.0;
    replaced = record { context = c; at_path = at; is_from = was ∙ ap (filled c) side.2; is_to = is };
    named = side.1;
  }

  -- what stands where the sides can be exchanged
  side-there : (other : U) (t : Exchanged facts.now outs before step.now other)
      → IsSide facts.now outs (binders t.replaced.context) step.now (closed_path t.from outs (binders t.replaced.context))
  side-there other t =
      let e : t.from ≡ from_side facts.now step.now = sym (from-is facts.now step.now t.from t.to t.sides) in
      (sides-are facts.now step.now t.from t.to t.sides, t.named, ap (λ (x : U). closed_path x outs (binders t.replaced.context)) e)

  never_found : OfEnd (IsRefused (Err NoResult)) (Answers look outs (Err NoResult) (end path before)) (end_of (turns path) before)
      → (other : U) → Exchanged facts.now outs before step.now other → ⊥
  never_found ends other t =
      refused path before outs look u.Zero after ends t.replaced.context (closed_path t.from outs (binders t.replaced.context)) t.replaced.at_path t.replaced.is_from (side-there other t)

  never_exchanged : OfEnd (IsRefused (Err NoResult)) (Answers by outs (Err NoResult) (end path before)) (end_of (turns path) before)
      → (other : U) → Exchanged facts.now outs before step.now other → ⊥
  never_exchanged ends other t =
      refused path before outs by u.Zero after ends t.replaced.context (closed_path t.from outs (binders t.replaced.context)) t.replaced.at_path t.replaced.is_from (side-there other t)

  -- ---- a look
  looked : (place : Place) → Made look outs path before u.Zero after place → Finds facts.now outs before step.now (Ok place)
  looked place m =
      let new : U = filled m.context (closed_path (to_side facts.now step.now) outs (binders m.context)) in
      (new, there m.context m.part m.at_path m.was m.suits new refl, m.here)

  pub found : (r : Result Place StepFault) → after ≡ ended (part_after look outs u.Zero r) (turns path) root before
      → OfEnd (IsRefused r) (Answers look outs r (end path before)) (end_of (turns path) before) → Finds facts.now outs before step.now r
  found (Ok place) is ends = looked place (made path before outs look u.Zero after place is ends)
  found (Err NoResult) is ends = never_found ends
  found (Err NoMemory) is ends = tt

  pub unchanged : (r : Result Place StepFault) → after ≡ ended (part_after look outs u.Zero r) (turns path) root before → after ≡ before
  unchanged (Ok place) is = is ∙ ended-same (turns path) root before
  unchanged (Err fault) is = is ∙ ended-same (turns path) root before

  -- ---- an exchange
  exchanged-made : (place : Place) → Made by outs path before u.Zero after place → IsExchanged facts.now outs before step.now after (Ok place)
  exchanged-made place m = (there m.context m.part m.at_path m.was m.suits after m.is, m.here)

  pub exchanged : (r : Result Place StepFault) → after ≡ ended (part_after by outs u.Zero r) (turns path) root before
      → OfEnd (IsRefused r) (Answers by outs r (end path before)) (end_of (turns path) before) → IsExchanged facts.now outs before step.now after r
  exchanged (Ok place) is ends = exchanged-made place (made path before outs by u.Zero after place is ends)
  exchanged (Err NoResult) is ends = (never_exchanged ends, unmade path before outs by u.Zero after NoResult is)
  exchanged (Err NoMemory) is ends = unmade path before outs by u.Zero after NoMemory is
