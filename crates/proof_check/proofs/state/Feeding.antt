-- What one line more makes of the lines that are stood for.
use Rattle.std.proofs.Common.{◌≡◌, ℕ, List, [], ◌∷◌, ◌++◌, sym, subst, append-nil, append_assoc, inl, inr}
use Rattle.u_terms.specs.Syntax.{U}
use Rattle.u_terms.specs.declared.facts.Facts.{Facts}
use Rattle.proof_check.specs.declared.answers.Stop.{Stop}
use Rattle.proof_check.specs.Checking.{State, on, stopped, IsFed, Stands, takes, stops, stays, no_memory}

module _ (facts : Facts) (outs : ℕ) (left : U) where
  pub feeding : (texts : List (List ℕ)) (before : State) (text : List ℕ) (after : State)
      → Stands facts outs left texts before → IsFed facts outs before text after → Stands facts outs left (texts ++ text ∷ []) after
  feeding texts (on lines before) text (on more after) s (is, taken) =
      subst (λ n. Stands facts outs left (texts ++ text ∷ []) (on n after)) (sym is) (takes s taken)
  feeding texts (on lines before) text (stopped stop) s (inl last) = stops s last
  feeding texts (on lines before) text (stopped stop) s (inr e) = subst (λ x. Stands facts outs left (texts ++ text ∷ []) (stopped x)) (sym e) no_memory
  feeding texts (stopped stop) text after s e = subst (λ x. Stands facts outs left (texts ++ text ∷ []) x) (sym e) (stays text s)

  -- behind a stop no line changes anything
  pub staying : (texts others : List (List ℕ)) (stop : Stop) → Stands facts outs left texts (stopped stop) → Stands facts outs left (texts ++ others) (stopped stop)
  staying texts [] stop s = subst (λ x. Stands facts outs left x (stopped stop)) (sym (append-nil texts)) s
  staying texts (text ∷ others) stop s =
      subst (λ x. Stands facts outs left x (stopped stop)) (append_assoc texts (text ∷ []) others) (staying (texts ++ text ∷ []) others stop (stays text s))

  pub stopped_stays : (texts : List (List ℕ)) (text : List ℕ) (state : State) (stop : Stop) → state ≡ stopped stop
      → Stands facts outs left texts state → Stands facts outs left (texts ++ text ∷ []) state
  stopped_stays texts text state stop is s =
      subst (λ x. Stands facts outs left (texts ++ text ∷ []) x) (sym is) (stays text (subst (λ x. Stands facts outs left texts x) is s))
