-- What the program answers, and when.
use Rattle.std.specs.Prelude.{◌≡◌, ◌≢◌, ℕ, ◌<◌, ◌≤◌, ◌⊎◌, List, [], ◌∷◌, ◌++◌, length, map, codes, string_bytes, String, Option, Some, None, IfSome, IsSomeAnd, Result, Ok, Err}
use Rattle.std.specs.Fmt.{decimal}
use Rattle.std.specs.declared.alloc.Global.{Global}
use Rattle.sql_model.specs.declared.schema.Schema.{Schema}
use Rattle.sql_model.specs.Equivalent.{Equivalent}
use Rattle.scope_core.specs.WellFormed.{SchemaWellFormed, WellFormed}
use Rattle.sql_to_u.specs.Limits.{IsCause as IsSizeCause}
use Rattle.case_core.specs.declared.fault.CaseFault.{CaseFault}
use Rattle.case_core.specs.declared.fault.CaseFault.TheVariants as case_refusal
use Rattle.case_core.specs.declared.text.CaseText.{CaseText}
use Rattle.case_core.specs.Answer.{IsRefused, width_of}
use Rattle.proof_check.specs.declared.answers.ProofFault.{ProofFault}
use Rattle.proof_check.specs.declared.answers.ProofFault.TheVariants as proof_refusal
use Rattle.proof_check.specs.declared.answers.Verdict.{Verdict as Shown}
use Rattle.proof_check.specs.declared.answers.Verdict.TheVariants as shown
use Rattle.udp_io.specs.Faults.{Rose}
use Rattle.udp_io.specs.Writing.{Grows, GrowsByPrefix}
use Rattle.udp_run.specs.Limits.{most_case_bytes, most_proof_bytes}
use Rattle.udp_run.specs.declared.answer.Status.{Status}
use Rattle.udp_run.specs.declared.answer.Status.TheVariants as status
use Rattle.udp_run.specs.declared.answer.Verdict.{Verdict}
use Rattle.udp_run.specs.declared.answer.Verdict.TheVariants.{Proved, StepFails, EndDiffers, CaseRefused, TermRefused, ProofRefused, NoSuchForm, CaseUnread, ProofUnread, CaseTooLong, ProofTooLong, OutOfMemory}
use Rattle.udp_run.specs.Cases.{HasCase, Spells, size_fault}
use Rattle.udp_run.specs.Proofs.{Accepted, Claim, IsAnswered, IsTooLong, IsUndecidedBefore, claim_of}
use Rattle.udp_run.specs.Output.{case_status, case_text, line, proof_status, proof_text, size_status, size_text}

-- ---- the words
-- the words are `check`, the name of a case and the name of a proof
abbrev pub IsCheck : List (String Global) → List ℕ → List ℕ → Type 0
IsCheck words case proof = map string_bytes words ≡ codes "check" ∷ case ∷ proof ∷ []

-- the words ask for no check
abbrev pub AsksNothing : List (String Global) → Type 0
AsksNothing words = (case proof : List ℕ) → IsCheck words case proof → ⊥

-- the words ask for a check, and this holds of the two names
abbrev pub AsksCheck : List (String Global) → (List ℕ → List ℕ → Type 0) → Type 0
AsksCheck words P = (case : List ℕ) × (proof : List ℕ) × IsCheck words case proof × P case proof

-- ---- the lines, and the statuses
abbrev pub text_of : Verdict → List ℕ
text_of Proved = line (codes "proved")
text_of (StepFails number) = codes "step fails at line " ++ (decimal number ++ 10 ∷ [])
text_of EndDiffers = line (codes "end differs")
text_of (CaseRefused fault) = case_text fault
text_of (TermRefused fault) = size_text fault
text_of (ProofRefused fault) = proof_text fault
text_of NoSuchForm = line (codes "usage: no such form of words")
text_of CaseUnread = line (codes "read fault: case")
text_of ProofUnread = line (codes "read fault: proof")
text_of CaseTooLong = line (codes "limit case 1048576")
text_of ProofTooLong = line (codes "limit proof 1073741824")
text_of OutOfMemory = []

abbrev pub status_of : Verdict → Status
status_of Proved = status.Done
status_of (StepFails number) = status.NotProved
status_of EndDiffers = status.NotProved
status_of (CaseRefused fault) = case_status fault
status_of (TermRefused fault) = size_status fault
status_of (ProofRefused fault) = proof_status fault
status_of NoSuchForm = status.Usage
status_of CaseUnread = status.ReadFault
status_of ProofUnread = status.ReadFault
status_of CaseTooLong = status.Limit
status_of ProofTooLong = status.Limit
status_of OutOfMemory = status.NoMemory

-- the exit status of the program
abbrev pub code_of : Status → ℕ
code_of status.Done = 0
code_of status.NotProved = 1
code_of status.CaseRefused = 2
code_of status.ProofRefused = 3
code_of status.Usage = 4
code_of status.ReadFault = 5
code_of status.WriteFault = 6
code_of status.Limit = 7
code_of status.NoMemory = 8

-- ---- what is told
-- Of a text: its bytes, where the store tells them, and how many faults had come under its name before, and have come now.
pub record Told : Type 0 where
  pub text : Option (List ℕ)
  pub before : ℕ
  pub now : ℕ

abbrev pub HasFailed : Told → Type 0
HasFailed told = Rose told.before told.now

-- and what is left of the text that was selected last, where that is told
pub record BothTold : Type 0 where
  pub case : Told
  pub proof : Told
  pub left : Option (List ℕ)

-- of the texts under two names, by the texts and counts of a store, and what it has left
abbrev pub both_told : (List ℕ → Option (List ℕ)) → (List ℕ → ℕ) → (List ℕ → ℕ) → Option (List ℕ) → List ℕ → List ℕ → BothTold
both_told text before now left case proof = record {
  case = record { text = text case; before = before case; now = now case };
  proof = record { text = text proof; before = before proof; now = now proof };
  left = left;
}

-- ---- the causes
-- the text, where it is told, spells a case whose terms are within the limits, and this holds of it
abbrev pub HasTerms : Option (List ℕ) → (Schema → CaseText → Type 0) → Type 0
HasTerms case P = HasCase case (λ schema written. (size_fault schema written ≡ None) × P schema written)

abbrev pub OfAny : Schema → CaseText → Type 0
OfAny schema written = Unit {0}

abbrev pub AreEquivalent : Schema → CaseText → Type 0
AreEquivalent schema written = Equivalent schema written.left written.right

-- Both texts, where they are told, are a case and a proof: this holds of the one, and this of the claim that it makes and of the other.
abbrev pub HasBoth : Option (List ℕ) → Option (List ℕ) → (Schema → CaseText → Type 0) → (Claim → List ℕ → Type 0) → Type 0
HasBoth case proof Of P = HasTerms case (λ schema written. Of schema written × IfSome proof (P (claim_of schema written)))

-- the text of the proof is within its length, and accepted for the claim
abbrev pub IsProof : Claim → List ℕ → Type 0
IsProof claim text = (length text ≤ most_proof_bytes) × Accepted claim text

-- the text of the proof has this answer
abbrev pub HasAnswer : Result Shown ProofFault → Claim → List ℕ → Type 0
HasAnswer answer claim text = IsAnswered claim text answer

-- no line of the proof decides before what is left of its text
abbrev pub IsCutOff : Option (List ℕ) → Claim → List ℕ → Type 0
IsCutOff left claim text = IfSome left (IsUndecidedBefore claim text)

-- the text is within its length, and refused for this fault
abbrev pub IsRefusedFor : CaseFault → List ℕ → Type 0
IsRefusedFor fault text = (length text ≤ most_case_bytes) × IsRefused text fault

abbrev pub IsLongCase : List ℕ → Type 0
IsLongCase text = most_case_bytes < length text

-- What a verdict of a check says of the two texts. The first cause in this order decides: the case can't be read, is too long, is refused, has
-- too big a term; then the first line of the proof that decides, or that the proof can't be read further, or is too long; then its end.
abbrev pub IsJust : BothTold → Verdict → Type 0
IsJust told Proved = HasBoth told.case.text told.proof.text AreEquivalent IsProof
IsJust told (StepFails number) = HasBoth told.case.text told.proof.text OfAny (HasAnswer (Ok (shown.StepFails number)))
IsJust told EndDiffers = HasBoth told.case.text told.proof.text OfAny (HasAnswer (Ok shown.EndDiffers))
IsJust told (CaseRefused fault) = IfSome told.case.text (IsRefusedFor fault)
IsJust told (TermRefused fault) = HasCase told.case.text (λ schema written. IsSizeCause fault (size_fault schema written))
IsJust told (ProofRefused fault) = HasBoth told.case.text told.proof.text OfAny (HasAnswer (Err fault))
IsJust told NoSuchForm = ⊥
IsJust told CaseUnread = HasFailed told.case
IsJust told ProofUnread = HasFailed told.proof × HasBoth told.case.text told.proof.text OfAny (IsCutOff told.left)
IsJust told CaseTooLong = IfSome told.case.text IsLongCase
IsJust told ProofTooLong = HasBoth told.case.text told.proof.text OfAny IsTooLong
IsJust told OutOfMemory = Unit {0}

-- The text is refused for this fault, which is not want of memory.
pub record IsRefusedAlone (fault : CaseFault) (text : List ℕ) : Type 0 where
  pub refused : IsRefusedFor fault text
  pub memory : fault ≢ case_refusal.NoMemory

-- both texts are told, and are a case and a proof of which this holds
abbrev pub TellsBoth : Option (List ℕ) → Option (List ℕ) → (Claim → List ℕ → Type 0) → Type 0
TellsBoth case proof P = IsSomeAnd case (λ c. IsSomeAnd proof (λ p. HasBoth (Some c) (Some p) OfAny P))

-- The texts that a verdict speaks of are told, and they give cause for it. The causes exclude each other. A fault and want of memory have no cause
-- in the texts, nor have words that are no form.
abbrev pub IsCause : Verdict → Option (List ℕ) → Option (List ℕ) → Type 0
IsCause Proved case proof = TellsBoth case proof IsProof
IsCause (StepFails number) case proof = TellsBoth case proof (HasAnswer (Ok (shown.StepFails number)))
IsCause EndDiffers case proof = TellsBoth case proof (HasAnswer (Ok shown.EndDiffers))
IsCause (CaseRefused fault) case proof = IsSomeAnd case (IsRefusedAlone fault)
IsCause (TermRefused fault) case proof = IsSomeAnd case (λ c. HasCase (Some c) (λ schema written. size_fault schema written ≡ Some fault))
IsCause (ProofRefused fault) case proof = (fault ≢ proof_refusal.NoMemory) × TellsBoth case proof (HasAnswer (Err fault))
IsCause CaseTooLong case proof = IsSomeAnd case IsLongCase
IsCause ProofTooLong case proof = TellsBoth case proof IsTooLong
IsCause _ case proof = ⊥

-- The headline. The case's text, where it is told, is within its length and spells statements that build this schema, and two queries. They are
-- well formed over it and of one width, and they are equivalent. The proof's text, where it is told, is within its length and accepted for their
-- terms.
pub record IsProved (case proof : Option (List ℕ)) : Type 0 where
  pub schema : Schema
  pub written : CaseText
  pub spelled : IfSome case (λ text. Spells text schema written)
  pub views_well_formed : SchemaWellFormed schema
  pub left_well_formed : WellFormed schema written.left
  pub right_well_formed : WellFormed schema written.right
  pub one_width : width_of schema written.left ≡ width_of schema written.right
  pub equivalent : Equivalent schema written.left written.right
  pub accepted : IfSome proof (IsProof (claim_of schema written))

-- what a verdict says of the words, and by them of the texts and counts of a store
abbrev pub IsFound : List (String Global) → (List ℕ → List ℕ → BothTold) → Verdict → Type 0
IsFound words told verdict =
    AsksCheck words (λ case proof. IsJust (told case proof) verdict) ⊎ ((verdict ≡ NoSuchForm) × AsksNothing words)

-- ---- faults and limits
-- The store failed at the name of the case, or at that of the proof, and then the case is in order, and no line of the proof decides before what
-- is left of it.
abbrev pub HasReadFault : BothTold → Type 0
HasReadFault told = HasFailed told.case ⊎ (HasFailed told.proof × HasBoth told.case.text told.proof.text OfAny (IsCutOff told.left))

-- A limit is passed: by the length of the case, by what it spells, by one of its terms, by a line of the proof, or by the proof's length, and then
-- the case is in order.
abbrev pub PassesSomeLimit : Option (List ℕ) → Option (List ℕ) → Type 0
PassesSomeLimit case proof =
    IfSome case IsLongCase
    ⊎ (((fault : CaseFault) × (case_status fault ≡ status.Limit) × IfSome case (IsRefusedFor fault))
    ⊎ (HasCase case (λ schema written. size_fault schema written ≢ None)
    ⊎ (((fault : ProofFault) × (proof_status fault ≡ status.Limit) × HasBoth case proof OfAny (HasAnswer (Err fault)))
    ⊎ HasBoth case proof OfAny IsTooLong)))

-- ---- the output
-- The text of a verdict was written and its status answered; or a write failed after a part of it; or there was no memory for the line, and
-- nothing was written.
abbrev pub IsSaid : Verdict → Option (List ℕ) → Option (List ℕ) → ℕ → ℕ → Status → Type 0
IsSaid verdict old new before now answer =
    ((answer ≡ status_of verdict) × Grows old new (text_of verdict))
    ⊎ (((answer ≡ status.WriteFault) × Rose before now × GrowsByPrefix old new (text_of verdict))
    ⊎ ((answer ≡ status.NoMemory) × (new ≡ old)))

-- the store or the sink failed, or there was no memory
abbrev pub IsFaultOrNoMemory : Status → Type 0
IsFaultOrNoMemory answer = (answer ≡ status.ReadFault) ⊎ ((answer ≡ status.WriteFault) ⊎ (answer ≡ status.NoMemory))

-- The status of a verdict was answered and exactly its text written, unless the store or the sink failed or there was no memory.
abbrev pub IsAnswer : Verdict → Option (List ℕ) → Option (List ℕ) → Status → Type 0
IsAnswer verdict old new answer = ((answer ≡ status_of verdict) × Grows old new (text_of verdict)) ⊎ IsFaultOrNoMemory answer
