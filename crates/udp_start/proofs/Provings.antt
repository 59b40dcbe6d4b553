-- What a run answers that is asked for a proof.
use Rattle.std.proofs.Common.{◌≡◌, ℕ, List, [], Option, Some, None, refl, sym, ◌∙◌, subst, inl, inr, append-nil}
use Rattle.std.specs.Prelude.{◌⊎◌}
use Rattle.sql_model.specs.declared.schema.Schema.{Schema as TheSchema}
use Rattle.sql_cursor.specs.declared.fault.ReadFault.{ReadFault}
use Rattle.sql_cursor.specs.declared.fault.ReadFault.TheVariants as read
use Rattle.schema_read.specs.declared.fault.SchemaFault.TheVariants as schema
use Rattle.scope_core.specs.declared.fault.ScopeFault.TheVariants as scope
use Rattle.sql_to_u.specs.declared.fault.TermFault.{TermFault}
use Rattle.sql_to_u.specs.declared.fault.TermFault.TheVariants as term
use Rattle.case_core.specs.declared.fault.CaseFault.{CaseFault}
use Rattle.case_core.specs.declared.fault.CaseFault.TheVariants.{Read, Schema, Scope, QueriesDiffer, NotTwoQueries, NoMemory}
use Rattle.case_core.specs.declared.text.CaseText.{CaseText}
use Rattle.udp_io.specs.Faults.{Rose}
use Rattle.udp_io.specs.Writing.{Grows}
use Rattle.udp_run.specs.declared.answer.Status.{Status}
use Rattle.udp_run.specs.declared.answer.Status.TheVariants as status
use Rattle.udp_run.specs.declared.answer.Verdict.{Verdict}
use Rattle.udp_run.specs.declared.answer.Verdict.TheVariants.{Proved, StepFails, EndDiffers, CaseRefused, TermRefused, ProofRefused, NoSuchForm, CaseUnread, ProofUnread, CaseTooLong, ProofTooLong, OutOfMemory}
use Rattle.udp_run.specs.Cases.{size_fault}
use Rattle.udp_run.specs.Answer.{HasFailed, HasTerms, IsAnswer, IsCause, IsJust, IsProved, OfAny, Told, status_of, text_of}
use Rattle.udp_run.specs.Output.{case_status, case_text, read_status, read_text, size_status, size_text}
use Rattle.udp_start.specs.Proving.{HasNoTerms, IsProving, IsWritten, PassesCaseLimit, not_known, not_sought, proved_by, unknown}
use Rattle.udp_run.proofs.Exact.{is-found, just-usage, no-refusal, no-write_fault, said-answer, said-fault, said-status}
use Rattle.udp_run.proofs.OneVerdict.{IsFault, one_verdict}
use Rattle.udp_start.proofs.Searched.{beside}
use Rattle.udp_run.proofs.TopAnswers.{case-refusal, just-proved, said-done, size-refusal}

-- ---- why no proof is sought
pub no_terms-just : (told : Told) (proof : Option (List ℕ)) (verdict : Verdict) → HasNoTerms told verdict → IsJust (beside told proof) verdict
no_terms-just told proof (CaseRefused fault) h = h
no_terms-just told proof (TermRefused fault) h = h
no_terms-just told proof CaseUnread h = h
no_terms-just told proof CaseTooLong h = h
no_terms-just told proof OutOfMemory h = tt
no_terms-just told proof Proved h = absurd h
no_terms-just told proof (StepFails line) h = absurd h
no_terms-just told proof EndDiffers h = absurd h
no_terms-just told proof (ProofRefused fault) h = absurd h
no_terms-just told proof NoSuchForm h = absurd h
no_terms-just told proof ProofUnread h = absurd h
no_terms-just told proof ProofTooLong h = absurd h

no_terms-read_fault : (told : Told) (verdict : Verdict) → status_of verdict ≡ status.ReadFault → HasNoTerms told verdict → HasFailed told
no_terms-read_fault told CaseUnread e h = h
no_terms-read_fault told (CaseRefused fault) e h = absurd (no-refusal (case_status fault) status.ReadFault (case-refusal fault) e (λ f. cc) (λ f. cc) (λ f. cc) (λ f. cc))
no_terms-read_fault told (TermRefused fault) e h = absurd (no-refusal (size_status fault) status.ReadFault (size-refusal fault) e (λ f. cc) (λ f. cc) (λ f. cc) (λ f. cc))
no_terms-read_fault told CaseTooLong e h = absurd cc
no_terms-read_fault told OutOfMemory e h = absurd cc
no_terms-read_fault told Proved e h = absurd h
no_terms-read_fault told (StepFails line) e h = absurd h
no_terms-read_fault told EndDiffers e h = absurd h
no_terms-read_fault told (ProofRefused fault) e h = absurd h
no_terms-read_fault told NoSuchForm e h = absurd h
no_terms-read_fault told ProofUnread e h = absurd h
no_terms-read_fault told ProofTooLong e h = absurd h

no_terms-limit : (told : Told) (verdict : Verdict) → status_of verdict ≡ status.Limit → HasNoTerms told verdict → PassesCaseLimit told.text
no_terms-limit told CaseTooLong e h = inl h
no_terms-limit told (CaseRefused fault) e h = inr (inl (fault, e, h))
no_terms-limit told (TermRefused fault) e h = inr (inr (record {
  schema = h.schema;
  written = h.written;
  spelled = h.spelled;
  comparable = h.comparable;
  holds = is-found fault (size_fault h.schema h.written) e h.holds;
}))
no_terms-limit told CaseUnread e h = absurd cc
no_terms-limit told OutOfMemory e h = absurd cc
no_terms-limit told Proved e h = absurd h
no_terms-limit told (StepFails line) e h = absurd h
no_terms-limit told EndDiffers e h = absurd h
no_terms-limit told (ProofRefused fault) e h = absurd h
no_terms-limit told NoSuchForm e h = absurd h
no_terms-limit told ProofUnread e h = absurd h
no_terms-limit told ProofTooLong e h = absurd h

-- ---- want of memory writes nothing
memory-read : (fault : ReadFault) → read_status fault ≡ status.NoMemory → read_text fault ≡ []
memory-read read.NoMemory e = refl
memory-read (read.Lex fault) e = absurd cc
memory-read (read.Unexpected at) e = absurd cc
memory-read (read.LeftOut word at) e = absurd cc
memory-read (read.TooDeep at) e = absurd cc
memory-read (read.Limit what) e = absurd cc

memory-case : (fault : CaseFault) → case_status fault ≡ status.NoMemory → case_text fault ≡ []
memory-case (Read fault) e = memory-read fault e
memory-case (Schema (schema.Refused code at)) e = absurd cc
memory-case (Schema schema.NoMemory) e = refl
memory-case (Scope (scope.Refused code at first second)) e = absurd cc
memory-case (Scope (scope.TooWide width)) e = absurd cc
memory-case (Scope scope.NoMemory) e = refl
memory-case (QueriesDiffer left right) e = absurd cc
memory-case (NotTwoQueries count at) e = absurd cc
memory-case NoMemory e = refl

memory-size : (fault : TermFault) → size_status fault ≡ status.NoMemory → size_text fault ≡ []
memory-size (term.TooBig what count) e = absurd cc
memory-size term.NoMemory e = refl

no_terms-memory : (told : Told) (verdict : Verdict) → status_of verdict ≡ status.NoMemory → HasNoTerms told verdict → text_of verdict ≡ []
no_terms-memory told (CaseRefused fault) e h = memory-case fault e
no_terms-memory told (TermRefused fault) e h = memory-size fault e
no_terms-memory told OutOfMemory e h = refl
no_terms-memory told CaseUnread e h = absurd cc
no_terms-memory told CaseTooLong e h = absurd cc
no_terms-memory told Proved e h = absurd h
no_terms-memory told (StepFails line) e h = absurd h
no_terms-memory told EndDiffers e h = absurd h
no_terms-memory told (ProofRefused fault) e h = absurd h
no_terms-memory told NoSuchForm e h = absurd h
no_terms-memory told ProofUnread e h = absurd h
no_terms-memory told ProofTooLong e h = absurd h

grows-by_none : (old new : Option (List ℕ)) → new ≡ old → Grows old new []
grows-by_none old new e = subst (λ (o : Option (List ℕ)). Grows old o []) (sym e) (same old)
  where
    same : (o : Option (List ℕ)) → Grows o o []
    same None = tt
    same (Some text) = sym (append-nil text)

-- ---- a case that has terms gives no cause for a verdict by itself
terms-of : {case : Option (List ℕ)} {P : TheSchema → CaseText → Type 0} → HasTerms case P → HasTerms case OfAny
terms-of h = record { schema = h.schema; written = h.written; spelled = h.spelled; comparable = h.comparable; holds = (h.holds.0, tt) }

untold : (case : Option (List ℕ)) → IsCause EndDiffers case None → ⊥
untold None h = h
untold (Some text) h = h

no_cause : (told : Told) (verdict : Verdict) → IsCause verdict told.text None → HasTerms told.text OfAny → ⊥
no_cause told verdict cause h = by (one_verdict (beside told None) EndDiffers verdict just cause)
  where
    just : IsJust (beside told None) EndDiffers
    just = record { schema = h.schema; written = h.written; spelled = h.spelled; comparable = h.comparable; holds = (h.holds.0, (tt, tt)) }

    by : IsFault EndDiffers ⊎ (EndDiffers ≡ verdict) → ⊥
    by (inl (inl e)) = cc
    by (inl (inr e)) = cc
    by (inr same) = untold told.text (subst (λ (v : Verdict). IsCause v told.text None) (sym same) cause)

-- ---- the texts that are written beside the lines of verdicts
module _ (text : List ℕ) (wanted : Status) (old new : Option (List ℕ)) (b n : ℕ) (answer : Status) (w : IsWritten text wanted old new b n answer) where
  -- a status that is not a write fault's is the one that was to come
  written-status : (answer ≡ status.WriteFault → ⊥) → wanted ≡ answer
  written-status other = by w
    where
      by : IsWritten text wanted old new b n answer → wanted ≡ answer
      by (inl (is, grows)) = sym is
      by (inr (failed, rose, grows)) = absurd (other failed)

  written-rose : (wanted ≡ status.WriteFault → ⊥) → answer ≡ status.WriteFault → Rose b n
  written-rose other is = by w
    where
      by : IsWritten text wanted old new b n answer → Rose b n
      by (inl (e, grows)) = absurd (other (sym e ∙ is))
      by (inr (failed, rose, grows)) = rose

  written-grows : (wanted ≡ answer) → (answer ≡ status.WriteFault → ⊥) → Grows old new text
  written-grows e other = by w
    where
      by : IsWritten text wanted old new b n answer → Grows old new text
      by (inl (is, grows)) = grows
      by (inr (failed, rose, grows)) = absurd (other failed)

-- ---- the run
module _ (told : Told) (budget : ℕ) (old new : Option (List ℕ)) (b n : ℕ) (answer : Status) where
  -- a status that the search itself does not end with comes of why no proof is sought
  of-status : (wanted : Status) → answer ≡ wanted → (status.NotProved ≡ wanted → ⊥) → (status.Done ≡ wanted → ⊥) → (status.WriteFault ≡ wanted → ⊥) → (status.NoMemory ≡ wanted → ⊥)
      → {P : Type 0} → ((verdict : Verdict) → status_of verdict ≡ wanted → HasNoTerms told verdict → P) → IsProving told budget old new b n answer → P
  of-status wanted is proved done failed memory holds (not_sought verdict h said) =
      holds verdict (said-status verdict old new b n answer said (λ e. failed (sym e ∙ is)) (λ e. memory (sym e ∙ is)) ∙ is) h
  of-status wanted is proved done failed memory holds (not_known spent h w) =
      absurd (proved (written-status (unknown spent) status.NotProved old new b n answer w (λ e. failed (sym e ∙ is)) ∙ is))
  of-status wanted is proved done failed memory holds (proved_by proof h w) =
      absurd (done (written-status proof status.Done old new b n answer w (λ e. failed (sym e ∙ is)) ∙ is))

  pub proving-read_fault : answer ≡ status.ReadFault → IsProving told budget old new b n answer → HasFailed told
  proving-read_fault is = of-status status.ReadFault is (λ e. cc) (λ e. cc) (λ e. cc) (λ e. cc) (no_terms-read_fault told)

  pub proving-limit : answer ≡ status.Limit → IsProving told budget old new b n answer → PassesCaseLimit told.text
  proving-limit is = of-status status.Limit is (λ e. cc) (λ e. cc) (λ e. cc) (λ e. cc) (no_terms-limit told)

  pub proving-usage : answer ≡ status.Usage → IsProving told budget old new b n answer → ⊥
  proving-usage is =
      of-status status.Usage is (λ e. cc) (λ e. cc) (λ e. cc) (λ e. cc) {P = ⊥} (λ verdict e h. just-usage (beside told None) verdict e (no_terms-just told None verdict h))

  pub proving-done : answer ≡ status.Done → IsProving told budget old new b n answer → (proof : List ℕ) × IsProved told.text (Some proof) × Grows old new proof
  proving-done is (not_sought verdict h said) =
      absurd (subst (λ (v : Verdict). HasNoTerms told v) (said-done verdict old new b n answer is said).0 h)
  proving-done is (not_known spent h w) =
      absurd (let e : status.NotProved ≡ status.Done = written-status (unknown spent) status.NotProved old new b n answer w (λ f. let g : status.WriteFault ≡ status.Done = sym f ∙ is in cc) ∙ is in cc)
  proving-done is (proved_by proof h w) = (
    proof,
    just-proved (beside told (Some proof)) h,
    written-grows proof status.Done old new b n answer w (sym is) (λ f. let g : status.WriteFault ≡ status.Done = sym f ∙ is in cc),
  )

  pub proving-write_fault : answer ≡ status.WriteFault → IsProving told budget old new b n answer → Rose b n
  proving-write_fault is (not_sought verdict h (inl (e, grows))) = absurd (no-write_fault verdict (sym e ∙ is))
  proving-write_fault is (not_sought verdict h (inr (inl (failed, rose, grows)))) = rose
  proving-write_fault is (not_sought verdict h (inr (inr (e, still)))) = absurd (let f : status.NoMemory ≡ status.WriteFault = sym e ∙ is in cc)
  proving-write_fault is (not_known spent h w) = written-rose (unknown spent) status.NotProved old new b n answer w (λ e. cc) is
  proving-write_fault is (proved_by proof h w) = written-rose proof status.Done old new b n answer w (λ e. cc) is

  -- a case that gives cause for a verdict is told so
  pub proving-exact : (verdict : Verdict) → IsCause verdict told.text None → IsProving told budget old new b n answer → IsAnswer verdict old new answer
  proving-exact verdict cause (not_sought other h said) = by (one_verdict (beside told None) other verdict (no_terms-just told None other h) cause)
    where
      by : IsFault other ⊎ (other ≡ verdict) → IsAnswer verdict old new answer
      by (inl fault) = said-fault other verdict old new b n answer fault said
      by (inr same) = subst (λ (v : Verdict). IsAnswer v old new answer) same (said-answer other old new b n answer said)
  proving-exact verdict cause (not_known spent h w) = absurd (no_cause told verdict cause (terms-of h))
  proving-exact verdict cause (proved_by proof h w) = absurd (no_cause told verdict cause (terms-of h))

  pub proving-memory : answer ≡ status.NoMemory → IsProving told budget old new b n answer → Grows old new []
  proving-memory is (not_sought verdict h (inl (e, grows))) = subst (Grows old new) (no_terms-memory told verdict (sym e ∙ is) h) grows
  proving-memory is (not_sought verdict h (inr (inl (failed, rose, grows)))) = absurd (let f : status.WriteFault ≡ status.NoMemory = sym failed ∙ is in cc)
  proving-memory is (not_sought verdict h (inr (inr (e, still)))) = grows-by_none old new still
  proving-memory is (not_known spent h w) =
      absurd (let e : status.NotProved ≡ status.NoMemory = written-status (unknown spent) status.NotProved old new b n answer w (λ f. let g : status.WriteFault ≡ status.NoMemory = sym f ∙ is in cc) ∙ is in cc)
  proving-memory is (proved_by proof h w) =
      absurd (let e : status.Done ≡ status.NoMemory = written-status proof status.Done old new b n answer w (λ f. let g : status.WriteFault ≡ status.NoMemory = sym f ∙ is in cc) ∙ is in cc)
