-- From what the parts of a run found to what its verdict says.
use Rattle.std.proofs.Common.{◌≡◌, ℕ, ◌<◌, ◌≤◌, ◌^◌, List, [], Option, Some, None, Ok, Err, sym, ap, ◌∙◌, subst, arith}
use Rattle.std.specs.Prelude.{IfSome, Result}
use Rattle.std.specs.Option.{option_or}
use Rattle.udp_io.specs.Faults.{Rose}
use Rattle.sql_model.specs.declared.schema.Schema.{Schema}
use Rattle.schema_read.proofs.built.FactsLaws.{facts_ok, same_databases}
use Rattle.scope_core.specs.Width.{width}
use Rattle.scope_core.proofs.schema.SoundTrees.{tree-width}
use Rattle.u_terms.specs.declared.term.U.{U}
use Rattle.u_terms.specs.declared.facts.Facts.{Facts}
use Rattle.u_terms.specs.Facts.{FactsOk}
use Rattle.schema_read.specs.SchemaFacts.{AreFactsOf}
use Rattle.u_terms.specs.Meaning.{meaning}
use Rattle.sql_to_u.specs.declared.fault.TermFault.{TermFault}
use Rattle.sql_to_u.specs.Answer.{translation}
use Rattle.sql_to_u.specs.Limits.{IsCause as IsSizeCause, too_big}
use Rattle.sql_to_u.proofs.queries.Wholes.{none-within}
use Rattle.proof_check.specs.declared.answers.ProofFault.{ProofFault}
use Rattle.proof_check.specs.declared.answers.Verdict.{Verdict as Shown}
use Rattle.proof_check.specs.declared.answers.Verdict.TheVariants as shown
use Rattle.proof_check.proofs.accepted.Meaning.{accepted-means}
use Rattle.case_core.specs.declared.text.CaseText.{CaseText}
use Rattle.case_core.specs.Answer.{width_of}
use Rattle.case_core.specs.Parts.{Parts}
use Rattle.case_core.specs.Terms.{AreTerms, terms_fault}
use Rattle.udp_run.specs.declared.answer.Verdict.{Verdict}
use Rattle.udp_run.specs.declared.answer.Verdict.TheVariants.{Proved, StepFails, EndDiffers, CaseRefused, TermRefused, ProofRefused, NoSuchForm, CaseUnread, ProofUnread, CaseTooLong, ProofTooLong, OutOfMemory}
use Rattle.udp_run.specs.Cases.{HasCase, Spells, size_fault, term_of}
use Rattle.udp_run.specs.Proofs.{Accepted, Claim, IsTooLong, claim_of}
use Rattle.udp_run.specs.Answer.{AreEquivalent, BothTold, HasAnswer, HasBoth, HasTerms, IsCutOff, IsJust, IsProof, OfAny}
use Rattle.udp_run.specs.Runs.{IsCaseCause, IsCaseRead, IsProofRead, IsProofVerdict, answered, no_memory, too_long, unread, verdict_of}
use Rattle.udp_run.proofs.Answered.{IfSome-map, answered-accepted, facts-are}
use Rattle.udp_run.proofs.Equivalence.{equivalent}
use Rattle.udp_run.proofs.Widths.{width_within}

-- what holds of the bytes that were read holds of the text, where it is told
pub told : (text : Option (List ℕ)) (bytes : List ℕ) (P : List ℕ → Type 0) → IfSome text (λ t. bytes ≡ t) → P bytes → IfSome text P
told None bytes P e p = tt
told (Some t) bytes P e p = subst P e p

pub first_told : (text : Option (List ℕ)) (bytes : List ℕ) (Q : List ℕ → Type 0) → IfSome text (λ t. (bytes ≡ t) × Q t) → IfSome text (λ t. bytes ≡ t)
first_told None bytes Q h = tt
first_told (Some t) bytes Q h = h.0

-- a count that rose since a later moment rose since an earlier one
pub Rose-earlier : (earlier before now : ℕ) → earlier ≤ before → Rose before now → Rose earlier now
Rose-earlier earlier before now h r = omega arith

pub case_cause-just : (t : BothTold) (verdict : Verdict) → IsCaseCause t.case verdict → IsJust t verdict
case_cause-just t CaseUnread r = r
case_cause-just t CaseTooLong l = l
case_cause-just t (CaseRefused fault) u = u
case_cause-just t OutOfMemory u = tt
case_cause-just t Proved u = absurd u
case_cause-just t (StepFails line) u = absurd u
case_cause-just t EndDiffers u = absurd u
case_cause-just t (TermRefused fault) u = absurd u
case_cause-just t (ProofRefused fault) u = absurd u
case_cause-just t NoSuchForm u = absurd u
case_cause-just t ProofUnread u = absurd u
case_cause-just t ProofTooLong u = absurd u

pub few_outs : (case : Option (List ℕ)) (parts : Parts) → IsCaseRead case parts → (outs : ℕ) → outs ≡ width parts.left → outs ≤ 2048
few_outs case parts read outs wide =
    subst (λ n. n ≤ 2048) (sym (wide ∙ (ap width read.is_case.left ∙ tree-width parts.schema read.is_case.written.left)))
    (width_within parts.schema read.is_case.written.left read.is_case.well_formed.left_within_width)

-- ---- a case was read
module _ (t : BothTold) (parts : Parts) (read : IsCaseRead t.case.text parts) where
  abbrev written : CaseText
  written = read.is_case.written

  has_case : (P : Schema → CaseText → Type 0) → P parts.schema written → HasCase t.case.text P
  has_case P p = record {
    schema = parts.schema;
    written = written;
    spelled = told t.case.text read.text (λ text. Spells text parts.schema written) read.told
        (record { within = read.within; numbers = _; has_schema = read.is_case.has_schema });
    comparable = record { well_formed = read.is_case.well_formed; one_width = read.is_case.one_width };
    holds = p;
  }

  left_is : translation parts.views parts.left ≡ term_of parts.schema written.left
  left_is = λ i. translation (read.is_case.views i) (read.is_case.left i)

  right_is : translation parts.views parts.right ≡ term_of parts.schema written.right
  right_is = λ i. translation (read.is_case.views i) (read.is_case.right i)

  fault_is : terms_fault parts ≡ size_fault parts.schema written
  fault_is = λ i. option_or (too_big (left_is i)) (too_big (right_is i))

  pub size_cause-just : (fault : TermFault) → IsSizeCause fault (terms_fault parts) → IsJust t (TermRefused fault)
  size_cause-just fault c = has_case (λ schema w. IsSizeCause fault (size_fault schema w)) (subst (IsSizeCause fault) fault_is c)

  -- ---- its terms are within the limits
  module _ (left right : U) (are : AreTerms parts (left, right)) where
    no_fault : size_fault parts.schema written ≡ None
    no_fault =
        sym fault_is ∙ (ap (λ z. option_or z (too_big (translation parts.views parts.right))) (sym (ap too_big are.left.value) ∙ none-within left are.left.within)
        ∙ (sym (ap too_big are.right.value) ∙ none-within right are.right.within))

    pub has_terms : (P : Schema → CaseText → Type 0) → P parts.schema written → HasTerms t.case.text P
    has_terms P p = has_case (λ schema w. (size_fault schema w ≡ None) × P schema w) (no_fault, p)

    module _ (outs : ℕ) (wide : outs ≡ width parts.left) (facts : Facts) (same : facts ≡ parts.facts) where
      outs_is : outs ≡ width_of parts.schema written.left
      outs_is = wide ∙ (ap width read.is_case.left ∙ tree-width parts.schema written.left)

      are_facts : AreFactsOf parts.schema facts
      are_facts = subst (AreFactsOf parts.schema) (sym same) read.is_case.facts

      small : outs < 2 ^ 32
      small = omega (arith, few_outs t.case.text parts read outs wide)

      abbrev pub claim : Claim
      claim = record { facts = facts; outs = outs; left = left; right = right }

      pub claim_is : claim ≡ claim_of parts.schema written
      claim_is = λ i. record {
        facts = facts-are parts.schema facts are_facts i;
        outs = outs_is i;
        left = (are.left.value ∙ left_is) i;
        right = (are.right.value ∙ right_is) i;
      }

      -- what holds of the claim that the terms make
      pub of-claim : (P : Claim → Type 0) → P claim → HasTerms t.case.text (λ schema w. P (claim_of schema w))
      of-claim P p = has_terms (λ schema w. P (claim_of schema w)) (subst P claim_is p)

      has_both : (Of : Schema → CaseText → Type 0) (P : Claim → List ℕ → Type 0) → Of parts.schema written → IfSome t.proof.text (P claim)
          → HasBoth t.case.text t.proof.text Of P
      has_both Of P o p =
          has_terms (λ schema w. Of schema w × IfSome t.proof.text (P (claim_of schema w))) (o, subst (λ (c : Claim). IfSome t.proof.text (P c)) claim_is p)

      -- what is accepted for the claim shows that the queries are equivalent
      accepted-equivalent : (text : List ℕ) → Accepted claim text → AreEquivalent parts.schema written
      accepted-equivalent text a =
          let builds = read.is_case.has_schema.built in
          let ok : FactsOk facts = facts_ok written.statements parts.schema builds facts are_facts in
          equivalent parts.schema written (record { well_formed = read.is_case.well_formed; one_width = read.is_case.one_width })
          (λ n reading db r some on below meets.
          ap (meaning n reading db r []) (sym (are.left.value ∙ left_is))
          ∙ (accepted-means facts outs left right text a ok n reading db r some on below ((same_databases written.statements parts.schema builds facts are_facts n db).0 meets)
          ∙ ap (meaning n reading db r []) (are.right.value ∙ right_is)))

      -- a proof that is accepted for the claim
      pub proof-both : (bytes : List ℕ) → IsProof claim bytes → IfSome t.proof.text (IsProof claim) → HasBoth t.case.text t.proof.text AreEquivalent IsProof
      proof-both bytes p told = has_both AreEquivalent IsProof (accepted-equivalent bytes p.1) told

      answered-just : (answer : Result Shown ProofFault) → IsProofRead claim t.proof.text answer → IsJust t (verdict_of answer)
      answered-just (Ok shown.Proved) p =
          has_both AreEquivalent IsProof (accepted-equivalent p.bytes (answered-accepted claim p.bytes small p.answers).1)
          (IfSome-map t.proof.text (HasAnswer (Ok shown.Proved) claim) (IsProof claim) (λ text. answered-accepted claim text small) p.told)
      answered-just (Ok (shown.StepFails line)) p = has_both OfAny (HasAnswer (Ok (shown.StepFails line))) tt p.told
      answered-just (Ok shown.EndDiffers) p = has_both OfAny (HasAnswer (Ok shown.EndDiffers)) tt p.told
      answered-just (Err fault) p = has_both OfAny (HasAnswer (Err fault)) tt p.told

      pub proof-just : (before : ℕ) → t.proof.before ≤ before → (verdict : Verdict)
          → IsProofVerdict claim (record { text = t.proof.text; before = before; now = t.proof.now }) t.left verdict → IsJust t verdict
      proof-just before h _ (unread rose cut) = (Rose-earlier t.proof.before before t.proof.now h rose, has_both OfAny (IsCutOff t.left) tt cut)
      proof-just before h _ (too_long l) = has_both OfAny IsTooLong tt l
      proof-just before h _ no_memory = tt
      proof-just before h _ (answered {answer = answer} p) = answered-just answer p
