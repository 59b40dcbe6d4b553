-- From what a search for a proof of two terms came to, to what it says of the case.
use Rattle.std.proofs.Common.{◌≡◌, ℕ, Bool, List, Option, Some, None, refl, sym, subst, inl, inr}
use Rattle.udp_io.specs.Faults.{Rose}
use Rattle.udp_io.specs.Writing.{Grows, GrowsByPrefix}
use Rattle.prove_run.specs.Proving as of_terms
use Rattle.u_terms.specs.Syntax.{U}
use Rattle.u_terms.specs.declared.facts.Facts.{Facts}
use Rattle.u_terms.specs.Names.{IsFreeBelow}
use Rattle.u_moves.specs.Derivations.{IsKnown}
use Rattle.scope_core.specs.Width.{width}
use Rattle.scope_core.specs.Syntax.{RQuery}
use Rattle.case_core.specs.Parts.{Parts}
use Rattle.case_core.specs.Terms.{AreTerms, IsTerm}
use Rattle.udp_run.specs.declared.answer.Status.{Status}
use Rattle.udp_run.specs.declared.answer.Status.TheVariants as status
use Rattle.udp_run.specs.declared.answer.Verdict.{Verdict}
use Rattle.udp_run.specs.declared.answer.Verdict.TheVariants.{Proved, StepFails, EndDiffers, CaseRefused, TermRefused, ProofRefused, NoSuchForm, CaseUnread, ProofUnread, CaseTooLong, ProofTooLong, OutOfMemory}
use Rattle.udp_run.specs.Proofs.{Claim}
use Rattle.udp_run.specs.Answer.{BothTold, IsProof, Told}
use Rattle.udp_start.specs.Proving.{HasNoTerms, IsProving, IsSearched, IsWritten, SoughtInVain, not_known, not_sought, proved_by, searched_in_vain, searched_well, searched_without_memory, unknown}
use Rattle.udp_run.specs.Runs.{IsCaseCause, IsCaseRead}
use Rattle.udp_run.proofs.Verdicts.{of-claim, proof-both}

-- ---- by what the search came to
proof-is : (claim : Claim) (text : List ℕ) → of_terms.IsProof claim.facts claim.outs claim.left claim.right text → IsProof claim text
proof-is claim text p = (p.short, p.accepted)

module _ (claim : Claim) (budget : ℕ) (old new : Option (List ℕ)) (b n : ℕ) where
  pub written-searched : (text : List ℕ) → of_terms.IsProof claim.facts claim.outs claim.left claim.right text → Grows old new text → IsSearched claim budget old new b n status.Done
  written-searched text p grows = searched_well text (proof-is claim text p) (inl (refl, grows))

  pub begun-searched : (text : List ℕ) → of_terms.IsProof claim.facts claim.outs claim.left claim.right text → Rose b n → GrowsByPrefix old new text
      → IsSearched claim budget old new b n status.WriteFault
  begun-searched text p rose grows = searched_well text (proof-is claim text p) (inr (refl, rose, grows))

  -- that none is known is written after a search that wrote nothing
  pub unknown-searched : (spent : Bool) → SoughtInVain budget spent claim → (middle : Option (List ℕ)) (m : ℕ) (answer : Status) → middle ≡ old → m ≡ b
      → IsWritten (unknown spent) status.NotProved middle new m n answer
      → IsSearched claim budget old new b n answer
  unknown-searched spent vain middle m answer still same w =
      searched_in_vain spent vain (subst (λ (o : Option (List ℕ)). IsWritten (unknown spent) status.NotProved o new b n answer) still
      (subst (λ (k : ℕ). IsWritten (unknown spent) status.NotProved middle new k n answer) same w))

-- ---- why no proof is sought
pub case_cause-no_terms : (told : Told) (verdict : Verdict) → IsCaseCause told verdict → HasNoTerms told verdict
case_cause-no_terms told CaseUnread r = r
case_cause-no_terms told CaseTooLong l = l
case_cause-no_terms told (CaseRefused fault) u = u
case_cause-no_terms told OutOfMemory u = tt
case_cause-no_terms told Proved u = absurd u
case_cause-no_terms told (StepFails line) u = absurd u
case_cause-no_terms told EndDiffers u = absurd u
case_cause-no_terms told (TermRefused fault) u = absurd u
case_cause-no_terms told (ProofRefused fault) u = absurd u
case_cause-no_terms told NoSuchForm u = absurd u
case_cause-no_terms told ProofUnread u = absurd u
case_cause-no_terms told ProofTooLong u = absurd u

-- with the text of a proof beside the case
abbrev pub beside : Told → Option (List ℕ) → BothTold
beside told proof = record { case = told; proof = record { text = proof; before = 0; now = 0 }; left = None }

pub term-known : (parts : Parts) (query : RQuery) (u : U) (outs : ℕ) → outs ≡ width query → IsTerm parts query u → IsKnown 0 outs u
term-known parts query u outs wide is = record { closed = is.closed; named = subst (λ (m : ℕ). IsFreeBelow m u) (sym wide) is.names }

module _ (told : Told) (parts : Parts) (read : IsCaseRead told.text parts) (left right : U) (are : AreTerms parts (left, right)) (outs : ℕ) (wide : outs ≡ width parts.left)
    (facts : Facts) (same : facts ≡ parts.facts) (budget : ℕ) (old new : Option (List ℕ)) (b n : ℕ) (answer : Status) where
  pub searched-proving : IsSearched (record { facts = facts; outs = outs; left = left; right = right }) budget old new b n answer → IsProving told budget old new b n answer
  searched-proving (searched_in_vain spent vain w) =
      not_known spent (of-claim (beside told None) parts read left right are outs wide facts same (SoughtInVain budget spent) vain) w
  searched-proving (searched_well proof is w) = proved_by proof (proof-both (beside told (Some proof)) parts read left right are outs wide facts same proof is is) w
  searched-proving (searched_without_memory e still) = not_sought OutOfMemory tt (inr (inr (e, still)))
