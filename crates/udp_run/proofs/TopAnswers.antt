-- The status of each verdict, and what a run that is done says.
use Rattle.std.proofs.Common.{◌≡◌, ℕ, List, ◌∷◌, [], Option, refl, sym, ◌∙◌, subst, inl, inr, codes, String}
use Rattle.std.specs.declared.alloc.Global.{Global}
use Rattle.udp_io.specs.Writing.{Grows}
use Rattle.sql_cursor.specs.declared.fault.ReadFault.{ReadFault}
use Rattle.sql_cursor.specs.declared.fault.ReadFault.TheVariants as read
use Rattle.schema_read.specs.declared.fault.SchemaFault.TheVariants as schema
use Rattle.scope_core.specs.declared.fault.ScopeFault.TheVariants as scope
use Rattle.sql_to_u.specs.declared.fault.TermFault.{TermFault}
use Rattle.sql_to_u.specs.declared.fault.TermFault.TheVariants as term
use Rattle.case_core.specs.declared.fault.CaseFault.{CaseFault}
use Rattle.case_core.specs.declared.fault.CaseFault.TheVariants.{Read, Schema, Scope, QueriesDiffer, NotTwoQueries, NoMemory}
use Rattle.proof_check.specs.declared.answers.ProofFault.{ProofFault}
use Rattle.proof_check.specs.declared.answers.ProofFault.TheVariants as proof
use Rattle.udp_run.specs.declared.answer.Status.{Status}
use Rattle.udp_run.specs.declared.answer.Status.TheVariants as status
use Rattle.udp_run.specs.declared.answer.Verdict.{Verdict}
use Rattle.udp_run.specs.declared.answer.Verdict.TheVariants.{Proved, StepFails, EndDiffers, CaseRefused, TermRefused, ProofRefused, NoSuchForm, CaseUnread, ProofUnread, CaseTooLong, ProofTooLong, OutOfMemory}
use Rattle.udp_run.specs.Output.{case_status, line, proof_status, read_status, size_status}
use Rattle.udp_run.specs.Answer.{BothTold, IsCheck, IsFound, IsJust, IsProved, IsSaid, status_of, text_of}

-- ---- a refusal ends with one of four statuses
pub data IsRefusal (answer : Status) : Type 0 where
  ends_refused : answer ≡ status.CaseRefused → IsRefusal answer
  ends_proof : answer ≡ status.ProofRefused → IsRefusal answer
  ends_limit : answer ≡ status.Limit → IsRefusal answer
  ends_memory : answer ≡ status.NoMemory → IsRefusal answer

read-refusal : (fault : ReadFault) → IsRefusal (read_status fault)
read-refusal (read.Lex fault) = ends_refused refl
read-refusal (read.Unexpected at) = ends_refused refl
read-refusal (read.LeftOut word at) = ends_refused refl
read-refusal (read.TooDeep at) = ends_refused refl
read-refusal (read.Limit what) = ends_limit refl
read-refusal read.NoMemory = ends_memory refl

pub case-refusal : (fault : CaseFault) → IsRefusal (case_status fault)
case-refusal (Read fault) = read-refusal fault
case-refusal (Schema (schema.Refused code at)) = ends_refused refl
case-refusal (Schema schema.NoMemory) = ends_memory refl
case-refusal (Scope (scope.Refused code at first second)) = ends_refused refl
case-refusal (Scope (scope.TooWide width)) = ends_limit refl
case-refusal (Scope scope.NoMemory) = ends_memory refl
case-refusal (QueriesDiffer left right) = ends_refused refl
case-refusal (NotTwoQueries count at) = ends_refused refl
case-refusal NoMemory = ends_memory refl

pub size-refusal : (fault : TermFault) → IsRefusal (size_status fault)
size-refusal (term.TooBig what count) = ends_limit refl
size-refusal term.NoMemory = ends_memory refl

pub proof-refusal : (fault : ProofFault) → IsRefusal (proof_status fault)
proof-refusal proof.BadHeader = ends_proof refl
proof-refusal proof.BadVersion = ends_proof refl
proof-refusal proof.BadOuts = ends_proof refl
proof-refusal (proof.BadLine number column) = ends_proof refl
proof-refusal proof.NoEnd = ends_proof refl
proof-refusal proof.AfterEnd = ends_proof refl
proof-refusal (proof.Limit what count) = ends_limit refl
proof-refusal proof.NoMemory = ends_memory refl

-- ---- only one verdict is done
no-refusal-done : (answer : Status) → IsRefusal answer → answer ≡ status.Done → ⊥
no-refusal-done answer (ends_refused e) d = let f : status.CaseRefused ≡ status.Done = sym e ∙ d in cc
no-refusal-done answer (ends_proof e) d = let f : status.ProofRefused ≡ status.Done = sym e ∙ d in cc
no-refusal-done answer (ends_limit e) d = let f : status.Limit ≡ status.Done = sym e ∙ d in cc
no-refusal-done answer (ends_memory e) d = let f : status.NoMemory ≡ status.Done = sym e ∙ d in cc

only_proved : (verdict : Verdict) → status_of verdict ≡ status.Done → verdict ≡ Proved
only_proved Proved e = refl
only_proved (StepFails line) e = absurd cc
only_proved EndDiffers e = absurd cc
only_proved (CaseRefused fault) e = absurd (no-refusal-done (case_status fault) (case-refusal fault) e)
only_proved (TermRefused fault) e = absurd (no-refusal-done (size_status fault) (size-refusal fault) e)
only_proved (ProofRefused fault) e = absurd (no-refusal-done (proof_status fault) (proof-refusal fault) e)
only_proved NoSuchForm e = absurd cc
only_proved CaseUnread e = absurd cc
only_proved ProofUnread e = absurd cc
only_proved CaseTooLong e = absurd cc
only_proved ProofTooLong e = absurd cc
only_proved OutOfMemory e = absurd cc

pub said-done : (verdict : Verdict) (old new : Option (List ℕ)) (before now : ℕ) (answer : Status) → answer ≡ status.Done → IsSaid verdict old new before now answer
    → (verdict ≡ Proved) × Grows old new (text_of verdict)
said-done verdict old new before now answer done (inl (e, g)) = (only_proved verdict (sym e ∙ done), g)
said-done verdict old new before now answer done (inr (inl (e, rose, grows))) = absurd (let f : status.WriteFault ≡ status.Done = sym e ∙ done in cc)
said-done verdict old new before now answer done (inr (inr (e, rest))) = absurd (let f : status.NoMemory ≡ status.Done = sym e ∙ done in cc)

pub just-proved : (t : BothTold) → IsJust t Proved → IsProved t.case.text t.proof.text
just-proved t h = record {
  schema = h.schema;
  written = h.written;
  spelled = h.spelled;
  views_well_formed = h.comparable.well_formed.views;
  left_well_formed = h.comparable.well_formed.left;
  right_well_formed = h.comparable.well_formed.right;
  one_width = h.comparable.one_width;
  equivalent = h.holds.1.0;
  accepted = h.holds.1.1;
}

module _ (words : List (String Global)) (told : List ℕ → List ℕ → BothTold) where
  found-proved : IsFound words told Proved → (case proof : List ℕ) → IsCheck words case proof → IsProved (told case proof).case.text (told case proof).proof.text
  found-proved (inl (case', proof', is', just)) case proof is =
      let e : codes "check" ∷ case' ∷ proof' ∷ [] ≡ codes "check" ∷ case ∷ proof ∷ [] = sym is' ∙ is in
      let c : case' ≡ case = cc in
      let p : proof' ≡ proof = cc in
      just-proved (told case proof) (subst (λ (n : List ℕ). IsJust (told case n) Proved) p (subst (λ (n : List ℕ). IsJust (told n proof') Proved) c just))
  found-proved (inr (e, nothing)) case proof is = absurd (nothing case proof is)

  pub run-done : (verdict : Verdict) (old new : Option (List ℕ)) (b n : ℕ) (answer : Status) → IsFound words told verdict → IsSaid verdict old new b n answer
      → answer ≡ status.Done → (case proof : List ℕ) → IsCheck words case proof
      → IsProved (told case proof).case.text (told case proof).proof.text × Grows old new (line (codes "proved"))
  run-done verdict old new b n answer found said done case proof is =
      let s : (verdict ≡ Proved) × Grows old new (text_of verdict) = said-done verdict old new b n answer done said in (
        found-proved (subst (IsFound words told) s.0 found) case proof is,
        subst (λ (v : Verdict). Grows old new (text_of v)) s.0 s.1,
      )
