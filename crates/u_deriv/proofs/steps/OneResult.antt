-- A step has one result, and so have steps one after another.
use Rattle.std.proofs.Common.{◌≡◌, ℕ, Bool, true, false, List, sym, ap, ◌∙◌}
use Rattle.u_terms.specs.Syntax.{U}
use Rattle.u_terms.specs.declared.facts.Facts.{Facts}
use Rattle.u_terms.specs.Binding.{closed_path}
use Rattle.u_rules.proofs.arguments.OneInstance.{one-instance}
use Rattle.u_deriv.specs.declared.run.Run.{Run}
use Rattle.u_deriv.specs.declared.step.Step.{Step, out-Step}
use Rattle.u_deriv.specs.Contexts.{Context, filled, binders}
use Rattle.u_deriv.specs.Steps.{Replaced, Sides, Rewrites}
use Rattle.u_deriv.proofs.contexts.OneContext as one
use Rattle.u_deriv.proofs.steps.Keeps.{exchanged-of}

one_to : (facts : Facts) (forward : Bool) (step : Step) (f t f' t' : U) → Sides facts forward step f t → Sides facts forward step f' t' → t ≡ t'
one_to facts true step f t f' t' i j = let e = one-instance facts (out-Step step).rule (out-Step step).args f t f' t' i j in e.1
one_to facts false step f t f' t' i j = let e = one-instance facts (out-Step step).rule (out-Step step).args t f t' f' i j in e.0

one_replaced : (outs : ℕ) (path : List Run) (before from to to' after after' : U) (from' : U) → Replaced outs path before from to after → Replaced outs path before from' to' after' → to ≡ to' → after ≡ after'
one_replaced outs path before from to to' after after' from' r s e =
    let c : r.context ≡ s.context = one.same_context r.context s.context (closed_path from outs (binders r.context)) (closed_path from' outs (binders s.context)) (r.at_path ∙ sym s.at_path) (sym r.is_from ∙ s.is_from) in
    r.is_to ∙ ap (λ (d : Context). filled d (closed_path to outs (binders d))) c ∙ ap (λ (x : U). filled s.context (closed_path x outs (binders s.context))) e ∙ sym s.is_to

module _ (facts : Facts) where
  pub one_result : (outs : ℕ) (before : U) (step : Step) (after after' : U) → Rewrites facts outs before step after → Rewrites facts outs before step after' → after ≡ after'
  one_result outs before step after after' r s =
      let t = exchanged-of facts outs before step after r in
      let w = exchanged-of facts outs before step after' s in
      one_replaced outs (out-Step step).path before t.from t.to w.to after after' w.from t.replaced w.replaced
      (one_to facts (out-Step step).forward step t.from t.to w.from w.to t.sides w.sides)
