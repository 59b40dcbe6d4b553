-- What the text of a proof shows has one answer, and is `Proved` exactly where the proof is accepted.
use Rattle.std.proofs.Common.{◌≡◌, ◌≢◌, ℕ, ◌+◌, ◌<◌, ◌≤◌, ◌^◌, List, [], ◌∷◌, ◌++◌, Option, Some, None, Ok, Err, length, take, refl, sym, ap, ◌∙◌, subst, arith, inl, inr}
use Rattle.std.specs.Prelude.{◌⊎◌, IfSome, Result}
use Rattle.sql_model.specs.declared.schema.Schema.{Schema}
use Rattle.u_terms.specs.declared.facts.Facts.{Facts}
use Rattle.schema_read.specs.SchemaFacts.{AreFactsOf}
use Rattle.proof_text.specs.LinesOfText.{AreEnded}
use Rattle.proof_check.specs.declared.answers.ProofFault.{ProofFault}
use Rattle.proof_check.specs.declared.answers.ProofFault.TheVariants.{NoMemory}
use Rattle.proof_check.specs.declared.answers.Stop.{Stop}
use Rattle.proof_check.specs.declared.answers.Stop.TheVariants.{Fails, Fault}
use Rattle.proof_check.specs.declared.answers.Verdict.{Verdict}
use Rattle.proof_check.specs.declared.answers.Verdict.TheVariants.{Proved, StepFails, EndDiffers}
use Rattle.proof_check.specs.Checking.{Stands, Finishes, Shows, on, stopped}
use Rattle.proof_check.proofs.accepted.StepsTaken.{shown-accepted}
use Rattle.proof_check.proofs.accepted.StepsKept.{accepted-shown}
use Rattle.proof_check.proofs.texts.OneState.{one_answer}
use Rattle.proof_check.proofs.texts.FirstLines.{decided_alone, stopped_whole}
use Rattle.udp_run.specs.Limits.{most_proof_bytes}
use Rattle.udp_run.specs.Proofs.{Claim, IsAnswered, IsDecidedIn, IsTooLong, IsUndecidedIn, early, facts_of, whole}
use Rattle.udp_run.specs.Answer.{IsProof}

pub facts-are : (schema : Schema) (facts : Facts) → AreFactsOf schema facts → facts ≡ facts_of schema
facts-are schema facts are = λ i. record { widths = are.widths i; keys = are.keys i; fkeys = are.fkeys i }

-- where a text is told or not
pub IfSome-map : (text : Option (List ℕ)) (P Q : List ℕ → Type 0) → ((t : List ℕ) → P t → Q t) → IfSome text P → IfSome text Q
IfSome-map None P Q f p = tt
IfSome-map (Some t) P Q f p = f t p

-- a proof that stopped is not proved
stopped-unproved : (right : _) (stop : Stop) → Finishes right (stopped stop) (Ok Proved) → ⊥
stopped-unproved right (Fails line) e = cc e
stopped-unproved right (Fault fault) e = cc e

module _ (claim : Claim) (text : List ℕ) where
  abbrev Shown : List ℕ → Result Verdict ProofFault → Type 0
  Shown bytes answer = Shows claim.facts claim.outs claim.left claim.right bytes answer

  -- what the first bytes show by themselves
  pub decided-shows : (bytes : List ℕ) (stop : Stop) (answer : Result Verdict ProofFault) → IsDecidedIn claim bytes stop → Finishes claim.right (stopped stop) answer → Shown bytes answer
  decided-shows bytes stop answer d f = stopped_whole claim.facts claim.outs claim.left claim.right bytes d.lines d.rest stop answer d.ended d.stands f

  pub answered-accepted : claim.outs < 2 ^ 32 → IsAnswered claim text (Ok Proved) → IsProof claim text
  answered-accepted small (whole fits s) = (fits, shown-accepted claim.facts claim.outs claim.left claim.right text small s)
  answered-accepted small (early long stop d f) = absurd (stopped-unproved claim.right stop f)

  pub accepted-answered : IsProof claim text → IsAnswered claim text (Ok Proved)
  accepted-answered (fits, a) = whole fits (accepted-shown claim.facts claim.outs claim.left claim.right text a)

  pub one_answered : (a b : Result Verdict ProofFault) → a ≢ Err NoMemory → b ≢ Err NoMemory → IsAnswered claim text a → IsAnswered claim text b → a ≡ b
  one_answered a b m n (whole fits s) (whole also t) = one_answer claim.facts claim.outs claim.left claim.right text a b m n s t
  one_answered a b m n (whole fits s) (early long stop d f) = absurd (omega arith)
  one_answered a b m n (early long stop d f) (whole fits s) = absurd (omega arith)
  one_answered a b m n (early long stop d f) (early also other e g) =
      let bytes = take (most_proof_bytes + 1) text in
      one_answer claim.facts claim.outs claim.left claim.right bytes a b m n (decided-shows bytes stop a d f) (decided-shows bytes other b e g)

  pub answered-short : (a : Result Verdict ProofFault) → a ≢ Err NoMemory → IsAnswered claim text a → IsTooLong claim text → ⊥
  answered-short a m (whole fits s) (long, u) = omega arith
  answered-short a m (early over stop d f) (long, u) = by (decided_alone claim.facts claim.outs claim.left (take (most_proof_bytes + 1) text) d.lines d.rest u.lines u.rest stop u.taken u.progress d.ended d.stands u.ended u.unbroken u.stands)
    where
      by : stop ≡ Fault NoMemory → ⊥
      by e = m (subst (λ s. Finishes claim.right (stopped s) a) e f)
