-- Normal terms keep the shapes of a sum of blocks, so where its blocks cannot be paired the first terms are no sums that are alike, and where the
-- budget ends a search among them it does so for two of the shapes.
use Rattle.std.proofs.Common.{◌≡◌, ℕ, zero, suc, ◌<◌, true, false, List, [], ◌∷◌, ◌++◌, length, get_or, map, Option, Some, None, refl, ap, sym, ◌∙◌, subst, inl, inr, arith}
use Rattle.std.specs.Prelude.{Contains, IfOk, MatchOption, Result}
use Rattle.std.specs.declared.alloc.AllocError.{AllocError as NoMemory}
use Rattle.std.proofs.lemmas.List.{map-append}
use Rattle.std.proofs.lemmas.Option.{same_Some}
use Rattle.shapes.specs.Shapes.{Shape}
use Rattle.shapes.specs.Tried.{tried}
use Rattle.u_terms.specs.Syntax.{U, Zero, One, Add, Mul, Squash, Not, Sum, Rel, Eq, Pred}
use Rattle.u_terms.specs.declared.facts.Facts.{Facts}
use Rattle.u_rules.specs.Terms.{add_leaves}
use Rattle.u_rules.proofs.multisets.LeavesAt.{add_leaves-Add}
use Rattle.term_shapes.specs.BlockTerms.{HaveShapes, one_block, two_sums}
use Rattle.term_shapes.specs.Factors.{factors, sum_count, under_sums}
use Rattle.term_shapes.specs.TermShape.{HasShape, term_shape}
use Rattle.u_moves.specs.Derivations.{Derivation}
use Rattle.normal_form.specs.NormalTerms.{IsNormal}
use Rattle.term_shapes.proofs.Columns.{sums-columns}
use Rattle.u_congruence.specs.Congruence.{IsFromTo}
use Rattle.u_normal.specs.Leading.{Leads}
use Rattle.u_normal.specs.Shaped.{KeepsShapes, sum_of_shapes}
use Rattle.u_bag.specs.Pairs.{CanBePaired, SomePassBudget}
use Rattle.u_bag.specs.Shapes.{SomeHasTooManySums}
use Rattle.u_prover.specs.declared.deciding.Outcome.{Outcome}
use Rattle.u_prover.specs.declared.simplifying.Ends.{Ends}
use Rattle.u_prover.specs.Proving.{AreAlikeSums, AreApart, AreEnds, HasNoNormal, IsEnding, IsMadeNormal, IsMissed, IsNone, IsNormalEnd, SomeHasNoNormal, SomeSearchPasses, left_too_large, right_too_large}
use Rattle.u_prover.proofs.Outcomes.{missed-none}

-- ---- the blocks of a sum
-- what has a shape is no sum
one-leaf : (outs : ℕ) (t : U) (s : Shape) → HasShape outs t s → add_leaves t ≡ t ∷ []
unfolding term_shape factors sum_count under_sums add_leaves
one-leaf outs Zero s h = cc
one-leaf outs One s h = refl
one-leaf outs (Add a b) s h = cc
one-leaf outs (Mul a b) s h = refl
one-leaf outs (Squash a) s h = refl
one-leaf outs (Not a) s h = refl
one-leaf outs (Sum body) s h = refl
one-leaf outs (Rel table shape arguments) s h = refl
one-leaf outs (Eq a b) s h = refl
one-leaf outs (Pred symbol shape arguments) s h = refl

pub blocks-shaped : (outs : ℕ) (t : U) (ss : List Shape) → HaveShapes outs t ss → map (term_shape outs) (add_leaves t) ≡ map Some ss
blocks-shaped outs t ss (one_block {s = s} h) = ap (map (term_shape outs)) (one-leaf outs t s h) ∙ ap (λ (o : Option Shape). o ∷ []) h
blocks-shaped outs t ss (two_sums {a = a} {b = b} {ss = ls} {ts = rs} h k) =
    ap (map (term_shape outs)) (add_leaves-Add a b) ∙ map-append (term_shape outs) (add_leaves a) (add_leaves b)
    ∙ ap (λ (os : List (Option Shape)). os ++ map (term_shape outs) (add_leaves b)) (blocks-shaped outs a ls h)
    ∙ ap (λ (os : List (Option Shape)). map Some ls ++ os) (blocks-shaped outs b rs k) ∙ sym (map-append Some ls rs)

-- the shape of one of them is one of the shapes
record HasItsShape (outs : ℕ) (u : U) (ss : List Shape) : Type 0 where
  shape : Shape
  is_in : Contains ss shape
  has : HasShape outs u shape

shape-there : (outs : ℕ) (us : List U) (ss : List Shape) (u : U) → map (term_shape outs) us ≡ map Some ss → Contains us u → HasItsShape outs u ss
shape-there outs us ss u have i = at us ss have i.0 i.1 i.2
  where
    at : (xs : List U) (ts : List Shape) → map (term_shape outs) xs ≡ map Some ts → (k : ℕ) → k < length xs → get_or xs k u ≡ u → HasItsShape outs u ts
    at [] ts e k less is = absurd (omega (arith, less))
    at (x ∷ xs) [] e k less is = absurd (cc)
    at (x ∷ xs) (t ∷ ts) e zero less is = record {
      shape = t;
      is_in = (0, omega arith, refl);
      has = let first : term_shape outs x ≡ Some t = cc in subst (λ (y : U). term_shape outs y ≡ Some t) is first;
    }
    at (x ∷ xs) (t ∷ ts) e (suc k) less is =
        let h = at xs ts (cc) k (omega (arith, less)) is in
        record { shape = h.shape; is_in = (suc h.is_in.0, (let low = h.is_in.1 in omega (arith, low)), h.is_in.2); has = h.has }

-- ---- sums that are not paired
pub not-alike : (outs : ℕ) (left right : U) (h : AreAlikeSums outs left right) (down up : U) → HaveShapes outs down h.ss → HaveShapes outs up h.ts
    → (CanBePaired outs (add_leaves down) (add_leaves up) → SomeHasTooManySums (add_leaves down)) → ⊥
not-alike outs left right h down up left_keeps right_keeps nothing =
    let some = nothing (record {
      ss = h.ss;
      ts = h.ts;
      lefts_have = blocks-shaped outs down h.ss left_keeps;
      rights_have = blocks-shaped outs up h.ts right_keeps;
      alike = h.alike;
    }) in
    let there = shape-there outs (add_leaves down) h.ss some.block (blocks-shaped outs down h.ss left_keeps) some.is_in in
    omega (arith, some.many, sums-columns outs some.block there.shape there.has, h.few there.shape there.is_in)

pub search-passes : (outs : ℕ) (budget : ℕ) (ss ts : List Shape) (down up : U) → HaveShapes outs down ss → HaveShapes outs up ts → SomePassBudget outs (add_leaves down) (add_leaves up) budget → SomeSearchPasses ss ts budget
search-passes outs budget ss ts down up left_keeps right_keeps some =
    let a = shape-there outs (add_leaves down) ss some.left (blocks-shaped outs down ss left_keeps) some.left_in in
    let b = shape-there outs (add_leaves up) ts some.right (blocks-shaped outs up ts right_keeps) some.right_in in
    let p = some.passes in
    let has = p.shapes in
    let s : a.shape ≡ p.s = same_Some a.shape p.s (sym a.has ∙ has.left_has) in
    let t : b.shape ≡ p.t = same_Some b.shape p.t (sym b.has ∙ has.right_has) in
    record {
      s = a.shape;
      t = b.shape;
      s_in = a.is_in;
      t_in = b.is_in;
      above = omega (arith, p.above, ap (λ (x : Shape). tried x b.shape) s, ap (λ (y : Shape). tried p.s y) t);
    }

-- ---- normal terms
pub made-normal : (F : Facts) (outs : ℕ) (u : U) (d : Derivation) → Leads IsNormal F outs u d → KeepsShapes outs u d → IsMadeNormal F outs u d
made-normal F outs u d leads keeps = record {
  from = leads.from;
  end = record {
    facts = leads.facts;
    outs = leads.outs;
    normal = leads.reached;
    keeps = λ ss h. keeps.sum ss (subst (λ (t : U). HaveShapes outs t ss) leads.from h);
  };
}

-- a sum of blocks that have shapes has its normal form
left-missed : (F : Facts) (outs : ℕ) (left right : U) (budget : ℕ) → HasNoNormal F outs left → IsMissed F outs left right budget false
left-missed F outs left right budget none = record {
  apart = left_too_large none.nodes none.large;
  beyond = λ h. let large = none.large in absurd (large.shapeless (sum_of_shapes h.ss h.left_has));
  above = λ e. absurd (cc);
}

right-missed : (F : Facts) (outs : ℕ) (left right : U) (budget : ℕ) → HasNoNormal F outs right → IsMissed F outs left right budget false
right-missed F outs left right budget none = record {
  apart = right_too_large none.nodes none.large;
  beyond = λ h. let large = none.large in absurd (large.shapeless (sum_of_shapes h.ts h.right_has));
  above = λ e. absurd (cc);
}

pub ends-missed : (F : Facts) (outs : ℕ) (left right : U) (budget : ℕ) → SomeHasNoNormal F outs left right → IsNone F outs left right budget false
ends-missed F outs left right budget some = missed-none F outs left right budget false (elim some [
  | inl none ↦ left-missed F outs left right budget none
  | inr none ↦ right-missed F outs left right budget none
]) (λ e. absurd (cc))

-- what is told where none was made
pub none-told : {A : Type 0} (P : Type 0) (Q : A → Type 0) (o : Option A) → ((x : A) → o ≡ Some x → ⊥) → MatchOption o P Q → P
none-told P Q None never h = h
none-told P Q (Some x) never h = absurd (never x refl)

-- ---- two of them
pub ends-told : (F : Facts) (outs : ℕ) (left right : U) (o : Option Ends) (ends : Ends) → o ≡ Some ends → MatchOption o (SomeHasNoNormal F outs left right) (AreEnds F outs left right) → AreEnds F outs left right ends
ends-told F outs left right o ends is told = subst (λ (x : Option Ends). MatchOption x (SomeHasNoNormal F outs left right) (AreEnds F outs left right)) is told

module _ (F : Facts) (outs : ℕ) (left right : U) (ends : Ends) (are : AreEnds F outs left right ends) where
  pub from-ends : (d : Derivation) → IsFromTo ends.down.facts ends.down.outs ends.down.from ends.up.from d → IsFromTo F outs left right d
  from-ends d leads =
      let down = are.down in
      let up = are.up in
      record { facts = leads.facts ∙ down.end.facts; outs = leads.outs ∙ down.end.outs; from = leads.from ∙ down.from; to = leads.to ∙ up.from }

  pub ending-from : (budget : ℕ) (r : Result Outcome NoMemory) → IfOk r (IsEnding F outs ends.down.from ends.up.from budget) → IfOk r (IsEnding F outs left right budget)
  ending-from budget r ending =
      let down = are.down in
      let up = are.up in
      subst (λ (t : U). IfOk r (IsEnding F outs t right budget)) down.from (subst (λ (t : U). IfOk r (IsEnding F outs ends.down.from t budget)) up.from ending)

-- ---- what is missed
module _ (F : Facts) (outs : ℕ) (down up : Derivation) (budget : ℕ) (end_down : IsNormalEnd F outs down) (end_up : IsNormalEnd F outs up) (apart : AreApart F outs down.from up.from) where
  pub missed-apart : (CanBePaired outs (add_leaves down.to) (add_leaves up.to) → SomeHasTooManySums (add_leaves down.to)) → IsMissed F outs down.from up.from budget false
  missed-apart nothing = record {
    apart = apart;
    beyond = λ h. absurd (not-alike outs down.from up.from h down.to up.to (end_down.keeps h.ss h.left_has).shapes (end_up.keeps h.ts h.right_has).shapes nothing);
    above = λ e. absurd (cc);
  }

  pub missed-spent : SomePassBudget outs (add_leaves down.to) (add_leaves up.to) budget → IsMissed F outs down.from up.from budget true
  missed-spent passes = record {
    apart = apart;
    beyond = λ h. refl;
    above = λ e ss ts left right. search-passes outs budget ss ts down.to up.to (end_down.keeps ss left).shapes (end_up.keeps ts right).shapes passes;
  }
