-- What a run comes to that is asked for a proof.
use Rattle.std.specs.Prelude.{◌≡◌, ℕ, ◌⊎◌, ◌≢◌, Bool, true, false, List, codes, Option, Some, None, IfSome}
use Rattle.sql_to_u.specs.Limits.{IsCause as IsSizeCause}
use Rattle.sql_model.specs.declared.schema.Schema.{Schema}
use Rattle.case_core.specs.declared.fault.CaseFault.{CaseFault}
use Rattle.case_core.specs.declared.text.CaseText.{CaseText}
use Rattle.u_prover.specs.Proving.{IsUnknown}
use Rattle.udp_io.specs.Faults.{Rose}
use Rattle.udp_io.specs.Writing.{Grows, GrowsByPrefix}
use Rattle.udp_run.specs.declared.answer.Status.{Status}
use Rattle.udp_run.specs.declared.answer.Status.TheVariants as status
use Rattle.udp_run.specs.declared.answer.Verdict.{Verdict}
use Rattle.udp_run.specs.declared.answer.Verdict.TheVariants.{CaseRefused, TermRefused, CaseUnread, CaseTooLong, OutOfMemory}
use Rattle.udp_run.specs.Cases.{HasCase, size_fault}
use Rattle.udp_run.specs.Proofs.{Claim, claim_of}
use Rattle.udp_run.specs.Answer.{AreEquivalent, HasBoth, HasFailed, HasTerms, IsLongCase, IsProof, IsRefusedFor, IsSaid, Told}
use Rattle.udp_run.specs.Output.{case_status, line}

-- of the text under a name, by the texts and counts of a store
abbrev pub told_of : (List ℕ → Option (List ℕ)) → (List ℕ → ℕ) → (List ℕ → ℕ) → List ℕ → Told
told_of text before now name = record { text = text name; before = before name; now = now name }

-- Why no proof of a case is sought. The first cause in this order decides: the case can't be read, is too long, is refused, has too big a term.
abbrev pub HasNoTerms : Told → Verdict → Type 0
HasNoTerms told (CaseRefused fault) = IfSome told.text (IsRefusedFor fault)
HasNoTerms told (TermRefused fault) = HasCase told.text (λ schema written. IsSizeCause fault (size_fault schema written))
HasNoTerms told CaseUnread = HasFailed told
HasNoTerms told CaseTooLong = IfSome told.text IsLongCase
HasNoTerms told OutOfMemory = Unit {0}
HasNoTerms told _ = ⊥

-- The text was written and this status answered, or a write failed after a part of it.
abbrev pub IsWritten : List ℕ → Status → Option (List ℕ) → Option (List ℕ) → ℕ → ℕ → Status → Type 0
IsWritten text wanted old new before now answer =
    ((answer ≡ wanted) × Grows old new text) ⊎ ((answer ≡ status.WriteFault) × Rose before now × GrowsByPrefix old new text)

-- whether the budget ended a search
abbrev pub unknown : Bool → List ℕ
unknown false = line (codes "unknown")
unknown true = line (codes "unknown: budget spent")

-- no proof of the claim is known, for these reasons
abbrev pub SoughtInVain : ℕ → Bool → Claim → Type 0
SoughtInVain budget spent claim = IsUnknown claim.facts claim.outs claim.left claim.right budget spent

abbrev pub IsNotKnown : ℕ → Bool → Schema → CaseText → Type 0
IsNotKnown budget spent schema written = SoughtInVain budget spent (claim_of schema written)

-- What a search for a proof of a case comes to: why none is sought; or that none is known or the budget ended the search, where the case has
-- terms; or a proof of it, of which nothing is written before it is whole.
pub data IsProving (told : Told) (budget : ℕ) (old new : Option (List ℕ)) (before now : ℕ) (answer : Status) : Type 0 where
  not_sought : (verdict : Verdict) → HasNoTerms told verdict → IsSaid verdict old new before now answer → IsProving told budget old new before now answer
  not_known : (spent : Bool) → HasTerms told.text (IsNotKnown budget spent) → IsWritten (unknown spent) status.NotProved old new before now answer
      → IsProving told budget old new before now answer
  proved_by : (proof : List ℕ) → HasBoth told.text (Some proof) AreEquivalent IsProof → IsWritten proof status.Done old new before now answer
      → IsProving told budget old new before now answer

-- A limit is passed: by the length of the case, by what it spells, or by one of its terms.
abbrev pub PassesCaseLimit : Option (List ℕ) → Type 0
PassesCaseLimit case =
    IfSome case IsLongCase
    ⊎ (((fault : CaseFault) × (case_status fault ≡ status.Limit) × IfSome case (IsRefusedFor fault))
    ⊎ HasCase case (λ schema written. size_fault schema written ≢ None))

-- ---- contracts of private functions alone cite this
-- that none is known, or a proof, or want of memory
pub data IsSearched (claim : Claim) (budget : ℕ) (old new : Option (List ℕ)) (before now : ℕ) (answer : Status) : Type 0 where
  searched_in_vain : (spent : Bool) → SoughtInVain budget spent claim → IsWritten (unknown spent) status.NotProved old new before now answer
      → IsSearched claim budget old new before now answer
  searched_well : (proof : List ℕ) → IsProof claim proof → IsWritten proof status.Done old new before now answer
      → IsSearched claim budget old new before now answer
  searched_without_memory : answer ≡ status.NoMemory → new ≡ old → IsSearched claim budget old new before now answer
