-- What an edit that was made at the end of a path did, and what one that was refused says.
use Rattle.std.proofs.Common.{◌≡◌, ℕ, List, Option, Some, None, Ok, Err, refl, ap, sym, subst, ◌∙◌, arith}
use Rattle.u_terms.specs.Syntax.{U}
use Rattle.u_deriv.specs.declared.edit.Edit.{Edit}
use Rattle.u_deriv.specs.declared.fault.StepFault.{StepFault}
use Rattle.u_deriv.specs.declared.fault.StepFault.TheVariants.{NoResult, NoMemory}
use Rattle.u_deriv.specs.declared.place.Place.{Place}
use Rattle.u_deriv.specs.declared.run.Run.{Run}
use Rattle.u_deriv.specs.Turns.{turns}
use Rattle.u_deriv.specs.Contexts.{Context, filled, way}
use Rattle.u_deriv.specs.Applying.{place_of}
use Rattle.u_deriv.specs.Editing.{Suits, Answers, OfEnd, IsRefused, TakesMemory, new_part, part_after}
use Rattle.u_deriv.specs.Walk.{root, placed, ended, end_of}
use Rattle.u_deriv.proofs.contexts.Ends.{Found, end_of-found, end_of-context}
use Rattle.u_deriv.proofs.editing.Edited.{binders-placed, turns-placed, ended-filled, ended-same}

pub record Made (by : Edit) (outs : ℕ) (path : List Run) (before other after : U) (place : Place) : Type 0 where
  pub context : Context
  pub part : U
  pub at_path : way context ≡ turns path
  pub was : before ≡ filled context part
  pub is : after ≡ filled context (new_part by outs other (place_of context) part)
  pub suits : Suits by outs (place_of context) part
  pub here : place ≡ place_of context

same_place : (p q : Place) → p.binders ≡ q.binders → p.turns ≡ q.turns → p ≡ q
same_place p q b t = ap (λ (k : ℕ). record { binders = k; turns = p.turns }) b ∙ ap (λ (k : ℕ). record { binders = q.binders; turns = k }) t

-- where a walk from the root ends
placed-filled : (c : Context) (s : U) → placed (way c) root (filled c s) ≡ place_of c
placed-filled c s =
    let b = binders-placed c root s in
    let t = turns-placed c root s in
    same_place (placed (way c) root (filled c s)) (place_of c) (omega (arith, b)) (omega (arith, t))

module _ (path : List Run) (before : U) where
  abbrev pub end : Place
  end = placed (turns path) root before

  pub end-is : (c : Context) (s : U) → way c ≡ turns path → before ≡ filled c s → end ≡ place_of c
  end-is c s at is = rw (sym at, is) (placed-filled c s)

  module _ (outs : ℕ) (by : Edit) (other after : U) where
    made-there : (place : Place) (part : U) → Found (turns path) before part → (place ≡ end) × Suits by outs end part
        → after ≡ ended (part_after by outs other (Ok place)) (turns path) root before → Made by outs path before other after place
    made-there place part found m is =
        let c = found.context in
        let e : end ≡ place_of c = end-is c part found.at_turns found.is in
        let walked : ended (new_part by outs other) (turns path) root before ≡ filled c (new_part by outs other (placed (way c) root (filled c part)) part)
        = rw (sym found.at_turns, found.is) (ended-filled (new_part by outs other) c root part) in
        record {
          context = c;
          part = part;
          at_path = found.at_turns;
          was = found.is;
          is = is ∙ walked ∙ ap (λ (p : Place). filled c (new_part by outs other p part)) (placed-filled c part);
          suits = subst (λ p. Suits by outs p part) e m.1;
          here = m.0 ∙ e;
        }

    never_refused : (place : Place) → IsRefused (Ok place) → ⊥
    never_refused place e = cc

    made-if : (place : Place) → after ≡ ended (part_after by outs other (Ok place)) (turns path) root before
        → (o : Option U) → end_of (turns path) before ≡ o → OfEnd (IsRefused (Ok place)) (Answers by outs (Ok place) end) o → Made by outs path before other after place
    made-if place is None none found = absurd (never_refused place found)
    made-if place is (Some part) some found = made-there place part (end_of-found (turns path) before part some) found is

    pub made : (place : Place) → after ≡ ended (part_after by outs other (Ok place)) (turns path) root before
        → OfEnd (IsRefused (Ok place)) (Answers by outs (Ok place) end) (end_of (turns path) before) → Made by outs path before other after place
    made place is found = made-if place is (end_of (turns path) before) refl found

    pub unmade : (fault : StepFault) → after ≡ ended (part_after by outs other (Err fault)) (turns path) root before → after ≡ before
    unmade fault is = is ∙ ended-same (turns path) root before

    pub refused : OfEnd (IsRefused (Err NoResult)) (Answers by outs (Err NoResult) end) (end_of (turns path) before)
        → (c : Context) (part : U) → way c ≡ turns path → before ≡ filled c part → Suits by outs (place_of c) part → ⊥
    refused found c part at is suits =
        let there : OfEnd (IsRefused (Err NoResult)) (Answers by outs (Err NoResult) end) (Some part)
        = subst (λ o. OfEnd (IsRefused (Err NoResult)) (Answers by outs (Err NoResult) end) o) (end_of-context (turns path) c before part at is) found in
        there (subst (λ p. Suits by outs p part) (sym (end-is c part at is)) suits)

    never_lacks : (o : Option U) → OfEnd (IsRefused (Err NoMemory)) (Answers by outs (Err NoMemory) end) o → TakesMemory by
    never_lacks None e = absurd (cc)
    never_lacks (Some part) takes = takes

    pub lacks : OfEnd (IsRefused (Err NoMemory)) (Answers by outs (Err NoMemory) end) (end_of (turns path) before) → TakesMemory by
    lacks found = never_lacks (end_of (turns path) before) found
