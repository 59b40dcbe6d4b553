-- What the first lines of a text say of all.
use Rattle.std.proofs.Common.{◌≡◌, ℕ, ◌+◌, List, [], ◌∷◌, ◌++◌, refl, sym, ap, subst, ◌∙◌, append_assoc, append-nil, inl, inr, Result}
use Rattle.std.specs.Prelude.{◌⊎◌}
use Rattle.u_terms.specs.Syntax.{U}
use Rattle.u_terms.specs.declared.facts.Facts.{Facts}
use Rattle.proof_text.specs.LinesOfText.{AreEnded}
use Rattle.proof_text.proofs.texts.TextLines.{Unbroken, every_text}
use Rattle.proof_text.proofs.texts.EndedLines.{ended-all, ended-lines}
use Rattle.proof_check.specs.declared.answers.ProofFault.{ProofFault}
use Rattle.proof_check.specs.declared.answers.ProofFault.TheVariants.{AfterEnd, BadHeader, BadLine, BadOuts, BadVersion, Limit, NoEnd, NoMemory}
use Rattle.proof_check.specs.declared.answers.Stop.{Stop}
use Rattle.proof_check.specs.declared.answers.Stop.TheVariants.{Fails, Fault}
use Rattle.proof_check.specs.declared.answers.Verdict.{Verdict}
use Rattle.proof_check.specs.Judging.{Progress}
use Rattle.proof_check.specs.Checking.{State, on, stopped, IsFed, Stands, none, takes, stops, stays, no_memory, Finishes, Shows}
use Rattle.proof_check.specs.Pieces.{Feeds}
use Rattle.proof_check.specs.Pieces as pieces
use Rattle.proof_check.proofs.state.Feeding.{feeding, staying}
use Rattle.proof_check.proofs.texts.OneState.{one_state}

is_memory : (stop : Stop) → (stop ≡ Fault NoMemory) ⊎ (stop ≡ Fault NoMemory → ⊥)
is_memory (Fault NoMemory) = inl refl
is_memory (Fails line) = inr (λ e. cc e)
is_memory (Fault BadHeader) = inr (λ e. cc e)
is_memory (Fault BadVersion) = inr (λ e. cc e)
is_memory (Fault BadOuts) = inr (λ e. cc e)
is_memory (Fault (BadLine line column)) = inr (λ e. cc e)
is_memory (Fault NoEnd) = inr (λ e. cc e)
is_memory (Fault AfterEnd) = inr (λ e. cc e)
is_memory (Fault (Limit what count)) = inr (λ e. cc e)

stop_in : {one other : Stop} → stopped one ≡ stopped other → one ≡ other
stop_in e = cc

module _ (facts : Facts) (outs : ℕ) (left : U) where
  -- lines one after the other
  pub feeds-stand : (texts lines : List (List ℕ)) (before after : State) → Stands facts outs left texts before → Feeds facts outs before lines after
      → Stands facts outs left (texts ++ lines) after
  feeds-stand texts _ before _ s pieces.none = subst (λ ls. Stands facts outs left ls before) (sym (append-nil texts)) s
  feeds-stand texts _ before after s (pieces.first {middle = middle} {text = text} {lines = lines} f more) =
      subst (λ ls. Stands facts outs left ls after) (append_assoc texts (text ∷ []) lines)
      (feeds-stand (texts ++ text ∷ []) lines middle after (feeding facts outs left texts before text middle s f) more)
  feeds-stand texts _ before _ s pieces.no_memory = no_memory

  -- a text whose first lines come to a stop shows it
  pub stopped_whole : (right : U) (bytes : List ℕ) (lines : List (List ℕ)) (rest : List ℕ) (stop : Stop) (answer : Result Verdict ProofFault) → AreEnded bytes lines rest
      → Stands facts outs left lines (stopped stop) → Finishes right (stopped stop) answer → Shows facts outs left right bytes answer
  stopped_whole right bytes lines rest stop answer e s f =
      let more = every_text rest in
      record { lines = lines ++ more.0; are_lines = ended-lines bytes lines rest more.0 e more.1; state = stopped stop; stands = staying facts outs left lines more.0 stop s; finishes = f }

  -- lines that come to a stop go on nowhere, but for want of memory
  only_memory : (xs ys : List (List ℕ)) (stop : Stop) (count : ℕ) (progress : Progress) → xs ≡ ys → Stands facts outs left xs (stopped stop) → Stands facts outs left ys (on count progress)
      → stop ≡ Fault NoMemory
  only_memory xs ys stop count progress e s t = by (is_memory stop)
    where
      by : (stop ≡ Fault NoMemory) ⊎ (stop ≡ Fault NoMemory → ⊥) → stop ≡ Fault NoMemory
      by (inl is) = is
      by (inr other) =
          let same : stopped stop ≡ on count progress = one_state facts outs left xs ys (stopped stop) (on count progress) e (λ z. other (stop_in z)) (λ z. cc z) s t in
          absurd (cc same)

  -- where they come to no stop, no prefix of them does
  pub decided_alone : (bytes : List ℕ) (lines : List (List ℕ)) (rest : List ℕ) (all : List (List ℕ)) (end : List ℕ) (stop : Stop) (count : ℕ) (progress : Progress)
      → AreEnded bytes lines rest → Stands facts outs left lines (stopped stop)
      → AreEnded bytes all end → Unbroken end → Stands facts outs left all (on count progress) → stop ≡ Fault NoMemory
  decided_alone bytes lines rest all end stop count progress e s i u t =
      let f = ended-all bytes bytes lines all rest end refl e i u in
      only_memory all all stop count progress refl (subst (λ ls. Stands facts outs left ls (stopped stop)) (sym f.parts) (staying facts outs left lines f.more stop s)) t
