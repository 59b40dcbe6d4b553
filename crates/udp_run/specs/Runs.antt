-- What the parts of a run find. `IsCaseRead` and `IsCaseCause` stand in clauses of `read_case`, the others in those of private functions alone.
use Rattle.std.specs.Prelude.{◌≡◌, ℕ, ◌+◌, ◌≤◌, List, [], ◌++◌, length, Option, IfSome, Result, Ok, Err}
use Rattle.std.specs.Io.KnownBytes.{Consumes, IsAtEnd}
use Rattle.case_core.specs.Answer.{IsCase}
use Rattle.case_core.specs.Parts.{Parts}
use Rattle.proof_check.specs.declared.answers.ProofFault.{ProofFault}
use Rattle.proof_check.specs.declared.answers.Stop.{Stop}
use Rattle.proof_check.specs.declared.answers.Stop.TheVariants.{Fails, Fault}
use Rattle.proof_check.specs.declared.answers.Verdict.{Verdict as Shown}
use Rattle.proof_check.specs.declared.answers.Verdict.TheVariants as shown
use Rattle.proof_check.specs.Judging.{begun}
use Rattle.proof_check.specs.Checking.{on}
use Rattle.proof_check.specs.Pieces.{Partial, IsTaken, IsStoppedIn}
use Rattle.udp_run.specs.Limits.{most_case_bytes, most_piece_bytes, most_proof_bytes}
use Rattle.udp_run.specs.declared.feeding.Unfed.{Unfed}
use Rattle.udp_run.specs.declared.feeding.Unfed.TheVariants.{Failed, TooLong, Stopped}
use Rattle.udp_run.specs.declared.answer.Verdict.{Verdict}
use Rattle.udp_run.specs.declared.answer.Verdict.TheVariants.{Proved, StepFails, EndDiffers, CaseRefused, ProofRefused, CaseUnread, ProofUnread, CaseTooLong, ProofTooLong, OutOfMemory}
use Rattle.udp_run.specs.Proofs.{Claim, IsAnswered, IsTooLong}
use Rattle.udp_run.specs.Answer.{HasFailed, IsCutOff, IsLongCase, IsRefusedFor, Told}

-- a case was read from the text, where that is told
pub record IsCaseRead (case : Option (List ℕ)) (parts : Parts) : Type 0 where
  pub text : List ℕ
  pub told : IfSome case (λ t. text ≡ t)
  pub within : length text ≤ most_case_bytes
  pub is_case : IsCase text parts

-- why no case was read
abbrev pub IsCaseCause : Told → Verdict → Type 0
IsCaseCause told CaseUnread = HasFailed told
IsCaseCause told CaseTooLong = IfSome told.text IsLongCase
IsCaseCause told (CaseRefused fault) = IfSome told.text (IsRefusedFor fault)
IsCaseCause told OutOfMemory = Unit {0}
IsCaseCause told _ = ⊥

-- ---- a proof is fed to a checker piece by piece
-- so many bytes were taken from what was left, and all lines that end in them are fed
pub record IsFedSoFar (old new : Option (List ℕ)) (before after : Partial) (count : ℕ) : Type 0 where
  pub prefix : List ℕ
  pub consumed : Consumes old new prefix
  pub counted : length prefix ≡ count
  pub taken : IsTaken before prefix after

-- all bytes were taken, there were not too many, and a call more gave none
pub record IsFedWhole (old new : Option (List ℕ)) (before after : Partial) : Type 0 where
  pub last : Option (List ℕ)
  pub count : ℕ
  pub so_far : IsFedSoFar old last before after count
  pub end : IsAtEnd last
  pub within : count ≤ most_proof_bytes
  pub kept : Consumes last new []

-- or a line stopped them, which ends in the last piece that was taken, and none before it
pub record IsFedInPart (old new : Option (List ℕ)) (before : Partial) (stop : Stop) : Type 0 where
  pub prefix : List ℕ
  pub last : List ℕ
  pub consumed : Consumes old new (prefix ++ last)
  pub piece : length last ≤ most_piece_bytes
  pub within : length (prefix ++ last) ≤ most_proof_bytes + 1
  pub undecided : (middle : Partial) × IsTaken before prefix middle
  pub stopped : IsStoppedIn before (prefix ++ last) stop

abbrev pub IsFed : Option (List ℕ) → Option (List ℕ) → Partial → Partial → Result (Unit {0}) Unfed → Type 0
IsFed old new before after (Ok _) = IsFedWhole old new before after
IsFed old new before after (Err Failed) = (count : ℕ) × IsFedSoFar old new before after count
IsFed old new before after (Err TooLong) = IsFedSoFar old new before after (most_proof_bytes + 1)
IsFed old new before after (Err (Stopped stop)) = IsFedInPart old new before stop

-- a checker of the claim that no piece was given to
abbrev pub fresh : Claim → Partial
fresh claim = record { check = record { facts = claim.facts; outs = claim.outs; state = on 0 (begun claim.left) }; bytes = [] }

-- ---- what is found of a proof
abbrev pub verdict_of : Result Shown ProofFault → Verdict
verdict_of (Ok shown.Proved) = Proved
verdict_of (Ok (shown.StepFails line)) = StepFails line
verdict_of (Ok shown.EndDiffers) = EndDiffers
verdict_of (Err fault) = ProofRefused fault

abbrev pub answer_of : Stop → Result Shown ProofFault
answer_of (Fails line) = Ok (shown.StepFails line)
answer_of (Fault fault) = Err fault

-- the bytes that were read have this answer, and so has the text, where it is told
pub record IsProofRead (claim : Claim) (proof : Option (List ℕ)) (answer : Result Shown ProofFault) : Type 0 where
  pub bytes : List ℕ
  pub answers : IsAnswered claim bytes answer
  pub told : IfSome proof (λ text. IsAnswered claim text answer)

pub data IsProofVerdict (claim : Claim) (told : Told) (left : Option (List ℕ)) : Verdict → Type 0 where
  unread : HasFailed told → IfSome told.text (IsCutOff left claim) → IsProofVerdict claim told left ProofUnread
  too_long : IfSome told.text (IsTooLong claim) → IsProofVerdict claim told left ProofTooLong
  no_memory : IsProofVerdict claim told left OutOfMemory
  answered : {answer : Result Shown ProofFault} → IsProofRead claim told.text answer → IsProofVerdict claim told left (verdict_of answer)
