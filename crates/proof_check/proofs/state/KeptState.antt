-- What a line makes of the state of a checker.
use Rattle.std.proofs.Common.{◌≡◌, ℕ, List, [], ◌∷◌, ◌++◌, Option, Some, None, Ok, Err, subst, inl, inr}
use Rattle.u_terms.specs.Syntax.{U}
use Rattle.u_terms.specs.declared.facts.Facts.{Facts}
use Rattle.proof_check.specs.declared.answers.Stop.{Stop}
use Rattle.proof_check.specs.declared.part.Part.{Part}
use Rattle.proof_check.specs.declared.steps.Steps.{Steps}
use Rattle.proof_check.specs.Check.{IsNext}
use Rattle.proof_check.specs.Checking.{on, stopped, Stands}
use Rattle.proof_check.specs.Judging.{Progress, Stops}
use Rattle.proof_check.specs.Kept.{progress_of, state_of, IsTaken}
use Rattle.proof_check.proofs.state.Feeding.{feeding}

module _ (facts : Facts) (outs : ℕ) (left : U) (texts : List (List ℕ)) (lines number : ℕ) (before : Progress) (text : List ℕ) (steps : Steps) where
  pub stands_on : (stop : Option Stop) (next : Part) → stop ≡ None → IsNext (state_of stop lines before) number → IsTaken facts outs number before text steps (Ok next)
      → Stands facts outs left texts (state_of stop lines before) → Stands facts outs left (texts ++ text ∷ []) (state_of stop number (progress_of next steps))
  stands_on None next e is taken s = feeding facts outs left texts (on lines before) text (on number (progress_of next steps)) s (is, taken)
  stands_on (Some stop) next e is taken s = absurd (cc)

  pub stands_last : (stop : Option Stop) (now : Stop) → stop ≡ None → IsNext (state_of stop lines before) number → IsTaken facts outs number before text steps (Err now)
      → Stands facts outs left texts (state_of stop lines before) → Stands facts outs left (texts ++ text ∷ []) (stopped now)
  stands_last None now e is (inl last) s =
      feeding facts outs left texts (on lines before) text (stopped now) s (inl (subst (λ n. Stops facts outs n before text now) is last))
  stands_last None now e is (inr full) s = feeding facts outs left texts (on lines before) text (stopped now) s (inr full)
  stands_last (Some stop) now e is taken s = absurd (cc)
