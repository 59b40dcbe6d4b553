-- Each answer of a run comes exactly where its cause holds, faults and want of memory left aside.
use Rattle.std.proofs.Common.{◌≡◌, ◌≢◌, ℕ, List, [], ◌∷◌, Option, Some, None, refl, sym, ◌∙◌, subst, inl, inr, codes, String}
use Rattle.std.specs.Prelude.{◌⊎◌}
use Rattle.std.specs.declared.alloc.Global.{Global}
use Rattle.udp_io.specs.Faults.{Rose}
use Rattle.sql_to_u.specs.declared.fault.TermFault.{TermFault}
use Rattle.sql_to_u.specs.declared.fault.TermFault.TheVariants as no_term
use Rattle.sql_to_u.specs.Limits.{IsCause as IsSizeCause}
use Rattle.udp_run.specs.declared.answer.Status.{Status}
use Rattle.udp_run.specs.declared.answer.Status.TheVariants as status
use Rattle.udp_run.specs.declared.answer.Verdict.{Verdict}
use Rattle.udp_run.specs.declared.answer.Verdict.TheVariants.{Proved, StepFails, EndDiffers, CaseRefused, TermRefused, ProofRefused, NoSuchForm, CaseUnread, ProofUnread, CaseTooLong, ProofTooLong, OutOfMemory}
use Rattle.udp_run.specs.Cases.{size_fault}
use Rattle.udp_run.specs.Output.{case_status, proof_status, size_status}
use Rattle.udp_run.specs.Answer.{AsksCheck, AsksNothing, BothTold, HasReadFault, IsAnswer, IsCause, IsCheck, IsFound, IsJust, IsSaid, PassesSomeLimit, status_of}
use Rattle.udp_run.proofs.OneVerdict.{IsFault, one_verdict, size-found}
use Rattle.udp_run.proofs.TopAnswers.{IsRefusal, case-refusal, ends_limit, ends_memory, ends_proof, ends_refused, proof-refusal, size-refusal}

-- ---- the words
-- they give one name of a case, and one of a proof
check-one : (words : List (String Global)) (P : List ℕ → List ℕ → Type 0) (case proof other also : List ℕ) → IsCheck words case proof → IsCheck words other also → P other also → P case proof
check-one words P case proof other also is are holds =
    let e : codes "check" ∷ case ∷ proof ∷ [] ≡ codes "check" ∷ other ∷ also ∷ [] = sym is ∙ are in
    let c : other ≡ case = cc in
    let p : also ≡ proof = cc in
    subst (λ (name : List ℕ). P case name) p (subst (λ (name : List ℕ). P name also) c holds)

-- ---- what was said of a verdict
pub said-answer : (verdict : Verdict) (old new : Option (List ℕ)) (b n : ℕ) (answer : Status) → IsSaid verdict old new b n answer → IsAnswer verdict old new answer
said-answer verdict old new b n answer (inl said) = inl said
said-answer verdict old new b n answer (inr (inl (failed, rose, grows))) = inr (inr (inl failed))
said-answer verdict old new b n answer (inr (inr (none, same))) = inr (inr (inr none))

pub said-fault : (verdict other : Verdict) (old new : Option (List ℕ)) (b n : ℕ) (answer : Status) → IsFault verdict → IsSaid verdict old new b n answer → IsAnswer other old new answer
said-fault verdict other old new b n answer (inl fault) (inl (is, grows)) = inr (inl (is ∙ fault))
said-fault verdict other old new b n answer (inr none) (inl (is, grows)) = inr (inr (inr (is ∙ none)))
said-fault verdict other old new b n answer fault (inr (inl (failed, rose, grows))) = inr (inr (inl failed))
said-fault verdict other old new b n answer fault (inr (inr (none, same))) = inr (inr (inr none))

-- a status that is neither of a write fault nor of want of memory is the verdict's
pub said-status : (verdict : Verdict) (old new : Option (List ℕ)) (b n : ℕ) (answer : Status) → IsSaid verdict old new b n answer
    → (answer ≡ status.WriteFault → ⊥) → (answer ≡ status.NoMemory → ⊥) → status_of verdict ≡ answer
said-status verdict old new b n answer (inl (is, grows)) written memory = sym is
said-status verdict old new b n answer (inr (inl (failed, rose, grows))) written memory = absurd (written failed)
said-status verdict old new b n answer (inr (inr (none, same))) written memory = absurd (memory none)

-- ---- what a verdict with a status says
-- a status that a refusal does not end with
pub no-refusal : (answer wanted : Status) → IsRefusal answer → answer ≡ wanted → wanted ≢ status.CaseRefused → wanted ≢ status.ProofRefused → wanted ≢ status.Limit
    → wanted ≢ status.NoMemory → ⊥
no-refusal answer wanted (ends_refused e) w refused proof limit memory = refused (sym w ∙ e)
no-refusal answer wanted (ends_proof e) w refused proof limit memory = proof (sym w ∙ e)
no-refusal answer wanted (ends_limit e) w refused proof limit memory = limit (sym w ∙ e)
no-refusal answer wanted (ends_memory e) w refused proof limit memory = memory (sym w ∙ e)

pub is-found : (fault : TermFault) (found : Option TermFault) → size_status fault ≡ status.Limit → IsSizeCause fault found → found ≢ None
is-found (no_term.TooBig what count) found e c = λ none. let n : Some (no_term.TooBig what count) ≡ None = sym (size-found (no_term.TooBig what count) found (λ m. cc) c) ∙ none in cc
is-found no_term.NoMemory found e c = absurd cc

just-limit : (told : BothTold) (verdict : Verdict) → status_of verdict ≡ status.Limit → IsJust told verdict → PassesSomeLimit told.case.text told.proof.text
just-limit told CaseTooLong e l = inl l
just-limit told (CaseRefused fault) e r = inr (inl (fault, e, r))
just-limit told (TermRefused fault) e h = inr (inr (inl (record {
  schema = h.schema;
  written = h.written;
  spelled = h.spelled;
  comparable = h.comparable;
  holds = is-found fault (size_fault h.schema h.written) e h.holds;
})))
just-limit told (ProofRefused fault) e h = inr (inr (inr (inl (fault, e, h))))
just-limit told ProofTooLong e l = inr (inr (inr (inr l)))
just-limit told Proved e h = absurd cc
just-limit told (StepFails line) e h = absurd cc
just-limit told EndDiffers e h = absurd cc
just-limit told NoSuchForm e h = absurd cc
just-limit told CaseUnread e h = absurd cc
just-limit told ProofUnread e h = absurd cc
just-limit told OutOfMemory e h = absurd cc

just-read_fault : (told : BothTold) (verdict : Verdict) → status_of verdict ≡ status.ReadFault → IsJust told verdict → HasReadFault told
just-read_fault told CaseUnread e r = inl r
just-read_fault told ProofUnread e r = inr r
just-read_fault told (CaseRefused fault) e r = absurd (no-refusal (case_status fault) status.ReadFault (case-refusal fault) e (λ f. cc) (λ f. cc) (λ f. cc) (λ f. cc))
just-read_fault told (TermRefused fault) e r = absurd (no-refusal (size_status fault) status.ReadFault (size-refusal fault) e (λ f. cc) (λ f. cc) (λ f. cc) (λ f. cc))
just-read_fault told CaseTooLong e h = absurd cc
just-read_fault told ProofTooLong e h = absurd cc
just-read_fault told Proved e h = absurd cc
just-read_fault told (StepFails line) e h = absurd cc
just-read_fault told EndDiffers e h = absurd cc
just-read_fault told (ProofRefused fault) e h = absurd (no-refusal (proof_status fault) status.ReadFault (proof-refusal fault) e (λ f. cc) (λ f. cc) (λ f. cc) (λ f. cc))
just-read_fault told NoSuchForm e h = absurd cc
just-read_fault told OutOfMemory e h = absurd cc

pub just-usage : (told : BothTold) (verdict : Verdict) → status_of verdict ≡ status.Usage → IsJust told verdict → ⊥
just-usage told NoSuchForm e h = h
just-usage told (CaseRefused fault) e r = no-refusal (case_status fault) status.Usage (case-refusal fault) e (λ f. cc) (λ f. cc) (λ f. cc) (λ f. cc)
just-usage told (TermRefused fault) e r = no-refusal (size_status fault) status.Usage (size-refusal fault) e (λ f. cc) (λ f. cc) (λ f. cc) (λ f. cc)
just-usage told CaseUnread e h = cc
just-usage told ProofUnread e h = cc
just-usage told CaseTooLong e h = cc
just-usage told ProofTooLong e h = cc
just-usage told Proved e h = cc
just-usage told (StepFails line) e h = cc
just-usage told EndDiffers e h = cc
just-usage told (ProofRefused fault) e h = no-refusal (proof_status fault) status.Usage (proof-refusal fault) e (λ f. cc) (λ f. cc) (λ f. cc) (λ f. cc)
just-usage told OutOfMemory e h = cc

-- no verdict has the status of a write fault
pub no-write_fault : (verdict : Verdict) → status_of verdict ≡ status.WriteFault → ⊥
no-write_fault (CaseRefused fault) e = no-refusal (case_status fault) status.WriteFault (case-refusal fault) e (λ f. cc) (λ f. cc) (λ f. cc) (λ f. cc)
no-write_fault (TermRefused fault) e = no-refusal (size_status fault) status.WriteFault (size-refusal fault) e (λ f. cc) (λ f. cc) (λ f. cc) (λ f. cc)
no-write_fault NoSuchForm e = cc
no-write_fault CaseUnread e = cc
no-write_fault ProofUnread e = cc
no-write_fault CaseTooLong e = cc
no-write_fault ProofTooLong e = cc
no-write_fault Proved e = cc
no-write_fault (StepFails line) e = cc
no-write_fault EndDiffers e = cc
no-write_fault (ProofRefused fault) e = no-refusal (proof_status fault) status.WriteFault (proof-refusal fault) e (λ f. cc) (λ f. cc) (λ f. cc) (λ f. cc)
no-write_fault OutOfMemory e = cc

-- ---- the run
module _ (words : List (String Global)) (told : List ℕ → List ℕ → BothTold) (verdict : Verdict) (found : IsFound words told verdict)
    (old new : Option (List ℕ)) (b n : ℕ) (answer : Status) (said : IsSaid verdict old new b n answer) where
  pub run-exact : (other : Verdict) → AsksCheck words (λ case proof. IsCause other (told case proof).case.text (told case proof).proof.text) → IsAnswer other old new answer
  run-exact other (case, proof, is, cause) = by found
    where
      of : IsFault verdict ⊎ (verdict ≡ other) → IsAnswer other old new answer
      of (inl fault) = said-fault verdict other old new b n answer fault said
      of (inr same) = subst (λ (v : Verdict). IsAnswer v old new answer) same (said-answer verdict old new b n answer said)

      by : IsFound words told verdict → IsAnswer other old new answer
      by (inl (name, also, are, just)) =
          of (one_verdict (told case proof) verdict other (check-one words (λ c p. IsJust (told c p) verdict) case proof name also is are just) cause)
      by (inr (form, nothing)) = absurd (nothing case proof is)

  pub run-no_form : AsksNothing words → IsSaid NoSuchForm old new b n answer
  run-no_form nothing = by found
    where
      by : IsFound words told verdict → IsSaid NoSuchForm old new b n answer
      by (inl (case, proof, is, just)) = absurd (nothing case proof is)
      by (inr (form, none)) = subst (λ (v : Verdict). IsSaid v old new b n answer) form said

  -- what holds of a just verdict of this status holds of the texts
  of-status : (wanted : Status) → answer ≡ wanted → wanted ≢ status.WriteFault → wanted ≢ status.NoMemory → wanted ≢ status.Usage → (P : BothTold → Type 0)
      → ((t : BothTold) → status_of verdict ≡ wanted → IsJust t verdict → P t) → AsksCheck words (λ case proof. P (told case proof))
  of-status wanted is write memory usage P holds = by found
    where
      status_is : status_of verdict ≡ wanted
      status_is = said-status verdict old new b n answer said (λ failed. write (sym is ∙ failed)) (λ none. memory (sym is ∙ none)) ∙ is

      by : IsFound words told verdict → AsksCheck words (λ case proof. P (told case proof))
      by (inl (case, proof, are, just)) = (case, proof, are, holds (told case proof) status_is just)
      by (inr (form, nothing)) = absurd (usage (sym status_is ∙ subst (λ (v : Verdict). status_of v ≡ status.Usage) (sym form) refl))

  pub run-limits : answer ≡ status.Limit → AsksCheck words (λ case proof. PassesSomeLimit (told case proof).case.text (told case proof).proof.text)
  run-limits limit = of-status status.Limit limit (λ e. cc) (λ e. cc) (λ e. cc) (λ t. PassesSomeLimit t.case.text t.proof.text) (λ t. just-limit t verdict)

  pub run-read_fault : answer ≡ status.ReadFault → AsksCheck words (λ case proof. HasReadFault (told case proof))
  run-read_fault fault = of-status status.ReadFault fault (λ e. cc) (λ e. cc) (λ e. cc) HasReadFault (λ t. just-read_fault t verdict)

  pub run-usage : answer ≡ status.Usage → AsksNothing words
  run-usage is = by found
    where
      status_is : status_of verdict ≡ status.Usage
      status_is =
          said-status verdict old new b n answer said (λ failed. let f : status.WriteFault ≡ status.Usage = sym failed ∙ is in cc)
          (λ none. let f : status.NoMemory ≡ status.Usage = sym none ∙ is in cc)
          ∙ is

      by : IsFound words told verdict → AsksNothing words
      by (inl (case, proof, are, just)) = absurd (just-usage (told case proof) verdict status_is just)
      by (inr (form, nothing)) = nothing

  pub run-write_fault : answer ≡ status.WriteFault → Rose b n
  run-write_fault is = by said
    where
      by : IsSaid verdict old new b n answer → Rose b n
      by (inl (status_is, grows)) = absurd (no-write_fault verdict (sym status_is ∙ is))
      by (inr (inl (failed, rose, grows))) = rose
      by (inr (inr (none, same))) = absurd (let f : status.NoMemory ≡ status.WriteFault = sym none ∙ is in cc)

-- ---- without faults
pub answered_surely : (verdict : Verdict) (old new : Option (List ℕ)) (answer : Status) → (answer ≡ status.ReadFault → ⊥) → (answer ≡ status.WriteFault → ⊥)
    → IsAnswer verdict old new answer → (answer ≡ status_of verdict) ⊎ (answer ≡ status.NoMemory)
answered_surely verdict old new answer read written (inl (is, grows)) = inl is
answered_surely verdict old new answer read written (inr (inl failed)) = absurd (read failed)
answered_surely verdict old new answer read written (inr (inr (inl failed))) = absurd (written failed)
answered_surely verdict old new answer read written (inr (inr (inr none))) = inr none
