-- A derivation of a part in a whole term: the names of the whole, and what is shown.
use Rattle.std.proofs.Common.{◌≡◌, ℕ, ◌+◌, ◌-◌, ◌<◌, ◌≤◌, ◌^◌, List, ◌++◌, Result, Ok, Err, ap, sym, ◌∙◌, subst, arith}
use Rattle.std.specs.Prelude.{IfOk}
use Rattle.u_terms.specs.Syntax.{U}
use Rattle.u_terms.specs.Size.{nodes, depth}
use Rattle.u_terms.specs.Binding.{closed_path}
use Rattle.u_terms.specs.declared.facts.Facts.{Facts}
use Rattle.u_deriv.specs.declared.run.Run.{Run}
use Rattle.u_deriv.specs.declared.run.Turn.{Turn}
use Rattle.u_deriv.specs.declared.step.Step.{Step}
use Rattle.u_deriv.specs.Contexts.{filled, way, binders}
use Rattle.u_deriv.specs.Turns.{turns}
use Rattle.u_deriv.specs.Walk.{placed, root}
use Rattle.u_deriv.proofs.editing.Edited.{binders-placed}
use Rattle.u_moves.specs.Derivations.{Derivation, IsKnown, IsStill}
use Rattle.u_moves.specs.Lifting.{IsPart, IsPartOfKnown, IsMadeIn, IsUnder, lifted}

-- ---- the names of the whole
module _ (path : List Run) (whole : U) (inner_outs : ℕ) (part : U) (k : IsPartOfKnown path whole inner_outs part) where
  binders-on : (placed (turns path) root whole).binders ≡ binders k.part.context
  binders-on =
      let c = k.part.context in
      let placed-there = binders-placed c root k.part.inside in
      let there : (placed (turns path) root whole).binders ≡ (placed (way c) root (filled c k.part.inside)).binders =
      ap (λ (w : List Turn). (placed w root whole).binders) (sym k.part.at_path) ∙ ap (λ (u : U). (placed (way c) root u).binders) k.part.is in
      omega (arith, there, placed-there)

  module _ (outs n : ℕ) (is : outs ≡ inner_outs) (counted : n ≡ (placed (turns path) root whole).binders) where
    pub enough-names : n ≤ outs
    enough-names = omega (arith, is, counted, binders-on, k.part.names)

    names-outside : outs - n ≡ k.outs
    names-outside = omega (arith, is, counted, binders-on, k.part.names)

    pub whole-known : IsKnown 0 (outs - n) whole
    whole-known = subst (λ m. IsKnown 0 m whole) (sym names-outside) k.known

    pub whole-shallow : outs - n + depth whole < 2 ^ 32
    whole-shallow = omega (arith, names-outside, k.shallow)

    pub part-of-none : (F : Facts) (none : Derivation) → IsStill F (outs - n) whole none → IsPart none.outs path none.to inner_outs part
    part-of-none F none still =
        subst (λ m. IsPart m path none.to inner_outs part) (sym (still.outs ∙ names-outside))
        (subst (λ u. IsPart k.outs path u inner_outs part) (sym still.to) k.part)

-- ---- what is shown
pub under-shown : (path : List Run) (whole : U) (F : Facts) (names : ℕ) (inner none d : Derivation) → F ≡ inner.facts → IsStill F names whole none → IsMadeIn path none inner d
    → IsUnder path whole inner d
under-shown path whole F names inner none d ef still made =
    let r = made.replaced in
    let k = binders r.context in
    record {
      facts = made.facts ∙ still.facts ∙ ef;
      from = made.from ∙ still.from;
      replaced = record {
        context = r.context;
        at_path = r.at_path;
        is_from = sym still.to ∙ r.is_from ∙ ap (λ m. filled r.context (closed_path inner.from m k)) (sym made.outs);
        is_to = r.is_to ∙ ap (λ m. filled r.context (closed_path inner.to m k)) (sym made.outs);
      };
      names = omega (arith, made.names, made.outs);
      steps = made.steps ∙ ap (λ (ss : List Step). ss ++ lifted path inner.steps) still.steps;
      nodes = omega (arith, made.nodes, still.nodes, ap nodes still.to);
      depth = omega (arith, made.depth, still.depth);
    }

pub if-ok : {E : Type 0} (P Q : Derivation → Type 0) → ((d : Derivation) → P d → Q d) → (r : Result Derivation E) → IfOk r P → IfOk r Q
if-ok P Q keeps (Ok d) h = keeps d h
if-ok P Q keeps (Err e) h = tt
