-- Derivations with a step for each part at most, whose terms are no larger than the first.
use Rattle.std.proofs.Common.{◌≡◌, ℕ, ◌+◌, ◌≤◌, List, [], ◌∷◌, length, refl, ap, sym, subst, ◌∙◌, arith}
use Rattle.std.proofs.lemmas.List.{length-append, length-map}
use Rattle.u_terms.specs.declared.facts.Facts.{Facts}
use Rattle.u_terms.specs.Syntax.{U}
use Rattle.u_terms.specs.Size.{nodes}
use Rattle.u_terms.specs.Places.{IsClosed}
use Rattle.u_terms.specs.Binding.{closed_at}
use Rattle.u_terms.proofs.MappedSizes.{closed_at-nodes}
use Rattle.u_terms.proofs.Sizes.{nodes-Add, nodes-Sum, nodes-Squash}
use Rattle.u_rules.specs.declared.rule.Arg.{Arg}
use Rattle.u_rules.specs.declared.rule.Rule.{Rule}
use Rattle.u_rules.specs.declared.rule.Rule.TheVariants as rule
use Rattle.u_rules.specs.Terms.{◌⊕◌, S, sq}
use Rattle.u_rules.proofs.terms.Measured.{deep}
use Rattle.u_deriv.specs.declared.run.Run.{Run}
use Rattle.u_deriv.specs.declared.run.Run.TheVariants.{Left, Right, Inside}
use Rattle.u_deriv.specs.declared.step.Step.{Step}
use Rattle.u_deriv.specs.Steps.{Replaced}
use Rattle.u_deriv.specs.Turns.{turns}
use Rattle.u_moves.specs.declared.moves.Moves.{Moves}
use Rattle.u_moves.specs.Derivations.{Derivation, HasPlainSteps, IsKnown, IsStill, IsOneStep}
use Rattle.u_moves.specs.Lifting.{IsPart, IsMadeIn, lifted, lifted_step}
use Rattle.u_moves.specs.Moving.{root_step}
use Rattle.u_moves.proofs.derivations.Plain.{made-plain, move-plain, still-plain}
use Rattle.u_congruence.specs.Congruence.{IsBy, IsFromTo}
use Rattle.u_congruence.proofs.Turned.{known-Add, part-add_left, made-add_left, part-add_right, made-add_right, known-Squash, part-squash, made-squash, known-Sum, known-closed, part-sum, made-sum}
use Rattle.u_congruence.proofs.Pairs.{one-shown, pair-shown}
use Rattle.u_normal.specs.Leading.{IsOneMore}
use Rattle.u_normal.proofs.terms.KnownParts.{known-left, known-right}
use Rattle.u_normal.specs.Shaped.{IsShort, IsBrief, IsBriefPart, IsBriefBeside, AreBriefParts, IsMadeAt}

-- ---- without a step, and with one
pub still-ends : (F : Facts) (outs : ℕ) (t : U) (d : Derivation) → IsStill F outs t d → IsFromTo F outs t t d
still-ends F outs t d h = record { facts = h.facts; outs = h.outs; from = h.from; to = h.to }

pub still-brief : (F : Facts) (outs : ℕ) (t s : U) (most : ℕ) (d : Derivation) → s ≡ t → IsStill F outs t d → IsBrief F outs t s most d
still-brief F outs t s most d e h = record {
  ends = record { facts = h.facts; outs = h.outs; from = h.from; to = h.to ∙ sym e };
  short = record {
    few = omega (arith, ap length h.steps);
    small = omega (arith, h.nodes, ap nodes h.from);
    shallow = omega (arith, h.depth, ap nodes h.from, deep t);
    plain = still-plain d h.steps;
  };
  fewer = omega (arith, ap nodes e);
}

pub step-brief : (F : Facts) (outs : ℕ) (t s : U) (step : Step) (d : Derivation) → HasPlainSteps d → nodes s ≤ nodes t → IsOneStep F outs t step s d → IsBrief F outs t s 1 d
step-brief F outs t s step d plain fewer h = record {
  ends = record { facts = h.facts; outs = h.outs; from = h.from; to = h.to };
  short = record {
    few = omega (arith, ap length h.steps);
    small = omega (arith, h.nodes, ap nodes h.from, fewer);
    shallow = omega (arith, h.depth, ap nodes h.from, deep t, deep s, fewer);
    plain = plain;
  };
  fewer = fewer;
}

pub step-brief-by : (F : Facts) (outs : ℕ) (t s from to : U) (q : Rule) (args : List Arg) (made : Derivation) → (q ≡ rule.SqFix → ⊥) → (q ≡ rule.SumUse → ⊥) → from ≡ t → to ≡ s → nodes s ≤ nodes t → IsOneStep F outs from (root_step q args) to made → (d : Derivation) → d ≡ made → IsBrief F outs t s 1 d
step-brief-by F outs t s from to q args made proves uses e f fewer h d same =
    subst (λ (x : Derivation). IsBrief F outs t s 1 x) (sym same)
    (step-brief F outs t s (root_step q args) made (move-plain q args made proves uses h.steps) fewer
    (subst (λ (x : U). IsOneStep F outs x (root_step q args) s made) e (subst (λ (x : U). IsOneStep F outs from (root_step q args) x made) f h)))

-- ---- made in a whole
pub record IsInside (most n : ℕ) (d : Derivation) : Type 0 where
  pub few : length d.steps ≤ most
  pub small : d.nodes ≤ n
  pub shallow : d.depth ≤ n
  pub plain : HasPlainSteps d

made-inside : (path : List Run) (w l x : Derivation) (k n : ℕ) → length (turns path) ≡ 1 → IsMadeIn path w l x → IsInside k n w → nodes w.to ≤ n → IsShort (length l.steps) l → nodes l.from + 1 ≤ n → IsInside (k + length l.steps) n x
made-inside path w l x k n once made whole last part fits = record {
  few = omega (arith, ap length made.steps, length-append w.steps (lifted path l.steps), length-map l.steps (lifted_step path), whole.few);
  small = omega (arith, made.nodes, whole.small, last, part.small);
  shallow = omega (arith, made.depth, once, whole.shallow, part.shallow, fits);
  plain = made-plain path w l x made.steps whole.plain part.plain;
}

from-none : (m n : ℕ) (d : Derivation) → IsInside (0 + m) n d → IsInside m n d
from-none m n d h = record { few = omega (arith, h.few); small = h.small; shallow = h.shallow; plain = h.plain }

still-inside : (F : Facts) (outs : ℕ) (t : U) (d : Derivation) → IsStill F outs t d → IsInside 0 (nodes t) d
still-inside F outs t d h = record {
  few = omega (arith, ap length h.steps);
  small = omega (arith, h.nodes);
  shallow = omega (arith, h.depth, deep t);
  plain = still-plain d h.steps;
}

inside-short : (t : U) (most n : ℕ) (d : Derivation) → d.from ≡ t → n ≡ nodes t → IsInside most n d → IsShort most d
inside-short t most n d e f h = record {
  few = h.few;
  small = omega (arith, h.small, ap nodes e, f);
  shallow = omega (arith, h.shallow, ap nodes e, f);
  plain = h.plain;
}

module _ (op : U → U) (outs inner : ℕ) (moves : Moves) (l : Derivation) (by : IsBy moves.facts.now inner l)
    (known : (a : U) → IsKnown 0 inner a → IsKnown 0 moves.outs (op a))
    (part_in : (a : U) → IsClosed 0 a → IsPart moves.outs (Inside 1 ∷ []) (op a) inner a)
    (made_in : (a c after : U) → Replaced moves.outs (Inside 1 ∷ []) (op a) a c after → after ≡ op c)
    (one_more : (a : U) → nodes (op a) ≡ 1 + nodes a) where
  brief-one : (w : U) (x : Derivation) → w ≡ op l.from → IsMadeAt (Inside 1 ∷ []) moves w l x → IsBriefPart l → IsBrief moves.facts.now moves.outs w (op l.to) (length l.steps) x
  brief-one w x is h brief =
      let shown : IsFromTo moves.facts.now moves.outs (op l.from) (op l.to) x =
      one-shown op moves.facts.now moves.outs inner l by known part_in made_in w is h.none (still-ends moves.facts.now moves.outs w h.none h.still) x h.made in
      let size : nodes w ≡ 1 + nodes l.from = ap nodes is ∙ one_more l.from in
      record {
        ends = record { facts = shown.facts; outs = shown.outs; from = shown.from ∙ sym is; to = shown.to };
        short = inside-short w (length l.steps) (nodes w) x (shown.from ∙ sym is) refl
            (from-none (length l.steps) (nodes w) x
            (made-inside (Inside 1 ∷ []) h.none l x 0 (nodes w) refl h.made (still-inside moves.facts.now moves.outs w h.none h.still) (omega (arith, ap nodes h.still.to)) brief.short (omega (arith, size))));
        fewer = omega (arith, size, one_more l.to, brief.fewer);
      }

pub brief-sum : (moves : Moves) (l : Derivation) → IsBy moves.facts.now (moves.outs + 1) l → (w : U) (x : Derivation) → w ≡ S (closed_at l.from moves.outs) → IsMadeAt (Inside 1 ∷ []) moves w l x → IsBriefPart l
    → IsBrief moves.facts.now moves.outs w (S (closed_at l.to moves.outs)) (length l.steps) x
brief-sum moves l by =
    brief-one (λ (a : U). S (closed_at a moves.outs)) moves.outs (moves.outs + 1) moves l by (λ a h. known-Sum moves.outs (closed_at a moves.outs) (known-closed moves.outs a h)) (part-sum moves.outs) (made-sum moves.outs)
    (λ a. omega (arith, nodes-Sum (closed_at a moves.outs), closed_at-nodes a moves.outs))

pub brief-squash : (moves : Moves) (l : Derivation) → IsBy moves.facts.now moves.outs l → (w : U) (x : Derivation) → w ≡ sq l.from → IsMadeAt (Inside 1 ∷ []) moves w l x → IsBriefPart l
    → IsBrief moves.facts.now moves.outs w (sq l.to) (length l.steps) x
brief-squash moves l by = brief-one (λ (a : U). sq a) moves.outs moves.outs moves l by (known-Squash 0 moves.outs) (part-squash moves.outs) (made-squash moves.outs) (λ a. nodes-Squash a)

-- ---- beside each other
pub beside-left : (F : Facts) (outs : ℕ) (w : U) (l r : Derivation) → AreBriefParts F outs w l r → IsKnown 0 outs w → (none : Derivation) → IsStill F outs w none → IsPart none.outs (Left 1 ∷ []) none.to l.outs l.from
beside-left F outs w l r p known none still =
    let parts : IsKnown 0 outs (l.from ⊕ r.from) = subst (λ (t : U). IsKnown 0 outs t) p.is known in
    subst (λ (n : ℕ). IsPart n (Left 1 ∷ []) none.to l.outs l.from) (sym still.outs)
    (subst (λ (t : U). IsPart outs (Left 1 ∷ []) t l.outs l.from) (sym (still.to ∙ p.is))
    (subst (λ (n : ℕ). IsPart outs (Left 1 ∷ []) (l.from ⊕ r.from) n l.from) (sym p.left_by.outs) (part-add_left outs l.from r.from (known-left outs 0 l.from r.from parts).closed)))

module _ (F : Facts) (outs : ℕ) (w : U) (l r : Derivation) (p : AreBriefParts F outs w l r) (none half : Derivation) (still : IsStill F outs w none) (made : IsMadeIn (Left 1 ∷ []) none l half) where
  ends-half : half.to ≡ l.to ⊕ r.from
  ends-half = made-add_left outs l.from r.from l.to half.to
      (subst (λ (n : ℕ). Replaced n (Left 1 ∷ []) (l.from ⊕ r.from) l.from l.to half.to) still.outs
      (subst (λ (t : U). Replaced none.outs (Left 1 ∷ []) t l.from l.to half.to) (still.to ∙ p.is) made.replaced))

  pub beside-right : IsKnown 0 outs w → IsPart half.outs (Right 1 ∷ []) half.to r.outs r.from
  beside-right known =
      let parts : IsKnown 0 outs (l.from ⊕ r.from) = subst (λ (t : U). IsKnown 0 outs t) p.is known in
      subst (λ (n : ℕ). IsPart n (Right 1 ∷ []) half.to r.outs r.from) (sym (made.outs ∙ still.outs))
      (subst (λ (t : U). IsPart outs (Right 1 ∷ []) t r.outs r.from) (sym ends-half)
      (subst (λ (n : ℕ). IsPart outs (Right 1 ∷ []) (l.to ⊕ r.from) n r.from) (sym p.right_by.outs) (part-add_right outs l.to r.from (known-right outs 0 l.from r.from parts).closed)))

  whole-beside : (x : Derivation) → IsMadeIn (Right 1 ∷ []) half r x → IsBrief F outs w (l.to ⊕ r.to) (length l.steps + length r.steps) x
  whole-beside x last =
      let shown : IsFromTo F outs (l.from ⊕ r.from) (l.to ⊕ r.to) x =
      pair-shown (λ (a b : U). a ⊕ b) (known-Add 0) (λ outs. part-add_left outs) (λ outs. made-add_left outs) (λ outs. part-add_right outs) (λ outs. made-add_right outs) F outs l r p.left_by p.right_by
      w p.is none (still-ends F outs w none still) half made x last in
      let size : nodes w ≡ 1 + nodes l.from + nodes r.from = ap nodes p.is ∙ nodes-Add l.from r.from in
      let left = from-none (length l.steps) (nodes w) half
      (made-inside (Left 1 ∷ []) none l half 0 (nodes w) refl made (still-inside F outs w none still) (omega (arith, ap nodes still.to)) p.left_brief.short (omega (arith, size))) in
      record {
        ends = record { facts = shown.facts; outs = shown.outs; from = shown.from ∙ sym p.is; to = shown.to };
        short = inside-short w (length l.steps + length r.steps) (nodes w) x (shown.from ∙ sym p.is) refl
            (made-inside (Right 1 ∷ []) half r x (length l.steps) (nodes w) refl last left (omega (arith, ap nodes ends-half, nodes-Add l.to r.from, p.left_brief.fewer, size)) p.right_brief.short (omega (arith, size)));
        fewer = omega (arith, size, nodes-Add l.to r.to, p.left_brief.fewer, p.right_brief.fewer);
      }

  pub brief-beside : (x : Derivation) → IsMadeIn (Right 1 ∷ []) half r x → IsBriefBeside F outs w l r x
  brief-beside x last =
      let left_turn : length (turns (Left 1 ∷ [])) ≡ 1 = refl in
      let right_turn : length (turns (Right 1 ∷ [])) ≡ 1 = refl in
      record { brief = whole-beside x last; shallow = omega (arith, last.depth, made.depth, still.depth, left_turn, right_turn) }

-- ---- then one step more
pub more-short : (before d : Derivation) (n : ℕ) → IsOneMore before d → IsShort n before → nodes before.to ≤ nodes before.from → nodes d.to ≤ nodes before.to → d.from ≡ before.from → IsShort (n + 1) d
more-short before d n more short fewer last from = record {
  few = omega (arith, more.few, short.few);
  small = omega (arith, more.small, short.small, fewer, last, ap nodes from);
  shallow = omega (arith, more.shallow, short.shallow, deep d.to, fewer, last, ap nodes from);
  plain = more.plain short.plain;
}

pub brief-part : (F : Facts) (outs : ℕ) (first last : U) (most : ℕ) (d : Derivation) → IsBrief F outs first last most d → IsBriefPart d
brief-part F outs first last most d h = record {
  short = record { few = omega arith; small = h.short.small; shallow = h.short.shallow; plain = h.short.plain };
  fewer = omega (arith, ap nodes h.ends.to, ap nodes h.ends.from, h.fewer);
}
