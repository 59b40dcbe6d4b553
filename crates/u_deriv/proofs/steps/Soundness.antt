-- A step keeps what a term means, and so do steps one after another.
use Rattle.std.proofs.Common.{◌≡◌, ℕ, Bool, true, false, List, [], ◌∷◌, refl, sym, ap, subst, ◌∙◌}
use Rattle.u_terms.specs.Syntax.{U}
use Rattle.u_terms.specs.declared.facts.Facts.{Facts}
use Rattle.u_terms.specs.Facts.{FactsOk}
use Rattle.u_terms.specs.Meaning.{meaning}
use Rattle.u_terms.specs.Places.{IsClosed}
use Rattle.u_rules.specs.declared.rule.Arg.{Arg}
use Rattle.u_rules.specs.declared.rule.Arg.TheVariants.{Term}
use Rattle.u_rules.specs.declared.rule.Rule.{Rule}
use Rattle.u_rules.specs.declared.rule.Rule.TheVariants as rule
use Rattle.u_rules.specs.Terms.{◌⊗◌}
use Rattle.u_rules.specs.Rows.{Instance}
use Rattle.u_rules.specs.Sides.{SameMeaning, FixesSquare}
use Rattle.u_rules.proofs.soundness.Theorem.{sides-mean}
use Rattle.u_deriv.specs.declared.step.Step.{Step, out-Step}
use Rattle.u_deriv.specs.Steps.{Replaced, Sides, Exchanged, Rewrites, Replays, by_rule, by_proof, no_step, first_then}
use Rattle.u_deriv.specs.Editing.{right_of}
use Rattle.u_deriv.proofs.steps.Keeps.{sides-closed_both}
use Rattle.u_deriv.proofs.contexts.Congruence.{meaning-filled_always}

turn_over : (facts : Facts) (a b : U) → SameMeaning facts a b → SameMeaning facts b a
turn_over facts a b same n reading db names some on named meets = sym (same n reading db names some on named meets)

-- the right side of `sq_fix` is its argument
fixed : (facts : Facts) (x l r : U) → Instance facts rule.SqFix (Term x ∷ []) l r → x ≡ r
fixed facts x l r i = ap right_of i.row

fixes : (facts : Facts) (q : Rule) (args : List Arg) (x l r : U) → Instance facts q args l r → q ≡ rule.SqFix → args ≡ Term x ∷ [] → SameMeaning facts (x ⊗ x) x → SameMeaning facts (r ⊗ r) r
fixes facts q args x l r i is are same =
    let j : Instance facts rule.SqFix (Term x ∷ []) l r = subst (λ list. Instance facts rule.SqFix list l r) are (subst (λ p. Instance facts p args l r) is i) in
    subst (λ y. SameMeaning facts (y ⊗ y) y) (fixed facts x l r j) same

module _ (facts : Facts) (ok : FactsOk facts) where
  sides-same : (forward : Bool) (step : Step) (from to : U) → Sides facts forward step from to
      → ((l r : U) → Instance facts (out-Step step).rule (out-Step step).args l r → FixesSquare facts (out-Step step).rule r) → SameMeaning facts from to
  sides-same true step from to i f = sides-mean facts ok (out-Step step).rule (out-Step step).args from to i (f from to i)
  sides-same false step from to i f = turn_over facts to from (sides-mean facts ok (out-Step step).rule (out-Step step).args to from i (f to from i))

  replaced-mean : (outs : ℕ) (before from to after : U) (path : _) → Replaced outs path before from to after → IsClosed 0 from → IsClosed 0 to
      → SameMeaning facts from to → SameMeaning facts before after
  replaced-mean outs before from to after path r cf ct same n reading db names some on named meets =
      ap (meaning n reading db names []) r.is_from
      ∙ meaning-filled_always n reading db r.context from to outs names [] some named cf ct (λ others small. same n reading db others some on small meets)
      ∙ sym (ap (meaning n reading db names []) r.is_to)

  exchanged-mean : (outs : ℕ) (before : U) (step : Step) (after : U) (t : Exchanged facts outs before step after)
      → ((l r : U) → Instance facts (out-Step step).rule (out-Step step).args l r → FixesSquare facts (out-Step step).rule r) → SameMeaning facts before after
  exchanged-mean outs before step after t f =
      let c = sides-closed_both facts (out-Step step).forward step t.from t.to t.sides in
      replaced-mean outs before t.from t.to after (out-Step step).path t.replaced c.0 c.1 (sides-same (out-Step step).forward step t.from t.to t.sides f)

  mutual
    pub rewrites-mean : (outs : ℕ) (before : U) (step : Step) (after : U) → Rewrites facts outs before step after → SameMeaning facts before after
    rewrites-mean outs before step after (by_rule t other empty) = exchanged-mean outs before step after t (λ l r i is. absurd (other is))
    rewrites-mean outs before step after (by_proof x t is are inner) =
        exchanged-mean outs before step after t (λ l r i _. fixes facts (out-Step step).rule (out-Step step).args x l r i is are (replays-mean _ _ _ _ inner))

    pub replays-mean : (outs : ℕ) (before : U) (steps : List Step) (after : U) → Replays facts outs before steps after → SameMeaning facts before after
    replays-mean outs before _ after no_step = λ n reading db names some on named meets. refl
    replays-mean outs before _ after (first_then r rest) = λ n reading db names some on named meets.
        rewrites-mean _ _ _ _ r n reading db names some on named meets ∙ replays-mean _ _ _ _ rest n reading db names some on named meets

pub ruleset laws = (rewrites-mean, replays-mean)
