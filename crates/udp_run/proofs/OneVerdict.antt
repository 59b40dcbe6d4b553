-- Texts have one verdict: what decides of a case, of a proof and of its lines exclude each other.
use Rattle.std.proofs.Common.{◌≡◌, ◌≢◌, ℕ, ◌<◌, ◌≤◌, List, Option, Some, None, Ok, Err, [], length, map, refl, sym, ap, ◌∙◌, subst, arith, inl, inr}
use Rattle.std.specs.Prelude.{◌⊎◌, IfSome, IsSomeAnd, Result, filter_map}
use Rattle.std.specs.Option.{option_or}
use Rattle.std.proofs.lemmas.Option.{same_Some}
use Rattle.sql_model.specs.declared.schema.Fkey.{Fkey}
use Rattle.sql_model.specs.declared.schema.Schema.{Schema}
use Rattle.sql_model.specs.Meets.{base_table}
use Rattle.schema_read.specs.SchemaFacts.{by_numbers}
use Rattle.scope_core.specs.Resolving.{resolved}
use Rattle.scope_core.specs.Relations.{known_relations}
use Rattle.scope_core.specs.ViewTrees.{view_trees}
use Rattle.sql_to_u.specs.declared.fault.TermFault.{TermFault}
use Rattle.sql_to_u.specs.declared.fault.TermFault.TheVariants as no_term
use Rattle.sql_to_u.specs.Answer.{translation}
use Rattle.sql_to_u.specs.Limits.{IsCause as IsSizeCause, too_big}
use Rattle.proof_check.specs.declared.answers.ProofFault.{ProofFault}
use Rattle.proof_check.specs.declared.answers.ProofFault.TheVariants as proof_refusal
use Rattle.proof_check.specs.declared.answers.Verdict.{Verdict as Shown}
use Rattle.proof_check.specs.declared.answers.Verdict.TheVariants as shown
use Rattle.case_core.specs.declared.fault.CaseFault.{CaseFault}
use Rattle.case_core.specs.declared.fault.CaseFault.TheVariants as case_refusal
use Rattle.case_core.specs.declared.text.CaseText.{CaseText}
use Rattle.case_core.specs.Answer.{IsRefused, width_of}
use Rattle.udp_run.specs.declared.answer.Verdict.{Verdict}
use Rattle.udp_run.specs.declared.answer.Verdict.TheVariants.{Proved, StepFails, EndDiffers, CaseRefused, TermRefused, ProofRefused, NoSuchForm, CaseUnread, ProofUnread, CaseTooLong, ProofTooLong, OutOfMemory}
use Rattle.udp_run.specs.declared.answer.Status.TheVariants as status
use Rattle.udp_run.specs.Cases.{AreComparable, HasCase, Spells, size_fault}
use Rattle.udp_run.specs.Proofs.{Claim, IsAnswered, IsTooLong, claim_of}
use Rattle.udp_run.specs.Answer.{BothTold, HasAnswer, HasBoth, HasTerms, IsCause, IsJust, IsLongCase, IsProof, IsRefusedAlone, IsRefusedFor, OfAny, TellsBoth, status_of}
use Rattle.udp_run.specs.Runs.{verdict_of}
use Rattle.udp_run.proofs.Answered.{IfSome-map, accepted-answered, answered-short, one_answered}
use Rattle.udp_run.proofs.OneRefusal.{one_refusal}
use Rattle.udp_run.proofs.Unrefused.{Relations, memory_alone, same_case, width_over}

fault_in : (x y : ProofFault) (r : Result Shown ProofFault) → r ≡ Err x → r ≡ Err y → x ≡ y
fault_in x y r e f = cc

-- ---- a text spells one case, and so makes one claim
-- it depends on the relations and the foreign keys of the schema alone, and so does the size of its terms
abbrev claim_over : Relations → List Fkey → CaseText → Claim
claim_over relations fkeys w = record {
  facts = record {
    widths = map (λ table. length table.columns) (filter_map (λ r. base_table r.1) relations);
    keys = map (λ table. table.keys) (filter_map (λ r. base_table r.1) relations);
    fkeys = map by_numbers fkeys;
  };
  outs = width_over relations w.left;
  left = translation (view_trees [] [] relations) (resolved w.left (known_relations [] 0 relations) []);
  right = translation (view_trees [] [] relations) (resolved w.right (known_relations [] 0 relations) []);
}

abbrev size_of : Claim → Option TermFault
size_of c = option_or (too_big c.left) (too_big c.right)

one_case : (text : List ℕ) (schema other : Schema) (written also : CaseText) → Spells text schema written → Spells text other also → claim_of other also ≡ claim_of schema written
one_case text schema other written also a b =
    let s = same_case b.has_schema a.has_schema in
    λ i. claim_over (s.relations i) (s.fkeys i) (s.text i)

-- ---- a proof's text
-- What decides of a proof: what its lines show, want of memory left aside, or its length.
data ProofDecides (c : Claim) (verdict : Verdict) (text : List ℕ) : Type 0 where
  answers : (answer : Result Shown ProofFault) → answer ≢ Err proof_refusal.NoMemory → verdict ≡ verdict_of answer → IsAnswered c text answer → ProofDecides c verdict text
  is_too_long : verdict ≡ ProofTooLong → IsTooLong c text → ProofDecides c verdict text

proof-one : (c : Claim) (text : List ℕ) (v w : Verdict) → ProofDecides c v text → ProofDecides c w text → v ≡ w
proof-one c text v w (answers a m e p) (answers b n f q) = e ∙ (ap verdict_of (one_answered c text a b m n p q) ∙ sym f)
proof-one c text v w (answers a m e p) (is_too_long f l) = absurd (answered-short c text a m p l)
proof-one c text v w (is_too_long e l) (answers b n f q) = absurd (answered-short c text b n q l)
proof-one c text v w (is_too_long e l) (is_too_long f k) = e ∙ sym f

-- ---- both texts
abbrev KnownProof : Type 1
KnownProof = (List ℕ → Type 0) → Type 0

-- What decides of a case that is spelled: the size of its terms, or what decides of the proof, as far as its text is known.
abbrev ClaimDecides : KnownProof → Claim → Verdict → Type 0
ClaimDecides Known t verdict =
    ((fault : TermFault) × (size_of t ≡ Some fault) × (verdict ≡ TermRefused fault)) ⊎ ((size_of t ≡ None) × Known (ProofDecides t verdict))

record SpellsOne (Known : KnownProof) (text : List ℕ) (verdict : Verdict) : Type 0 where
  schema : Schema
  written : CaseText
  spelled : Spells text schema written
  comparable : AreComparable schema written
  decides : ClaimDecides Known (claim_of schema written) verdict

-- the text is refused for this, and it is not want of memory
record RefusedOne (text : List ℕ) (verdict : Verdict) : Type 0 where
  fault : CaseFault
  refused : IsRefusedFor fault text
  memory : fault ≢ case_refusal.NoMemory
  is : verdict ≡ CaseRefused fault

-- What decides of a case: its length, its refusal, or what is behind that.
data CaseDecides (Known : KnownProof) (text : List ℕ) (verdict : Verdict) : Type 0 where
  is_long : IsLongCase text → verdict ≡ CaseTooLong → CaseDecides Known text verdict
  is_refused : RefusedOne text verdict → CaseDecides Known text verdict
  is_spelled : SpellsOne Known text verdict → CaseDecides Known text verdict

not_both : (text : List ℕ) (fault : CaseFault) (schema : Schema) (written : CaseText) → Spells text schema written → AreComparable schema written → IsRefused text fault
    → fault ≢ case_refusal.NoMemory → ⊥
not_both text fault schema written s c r m = m (memory_alone text schema written s.numbers s.has_schema c fault r)

terms-one : (t : Claim) (proof : Option (List ℕ)) (v w : Verdict) → ClaimDecides (IfSome proof) t v → ClaimDecides (IsSomeAnd proof) t w → v ≡ w
terms-one t proof v w (inl (fault, is, e)) (inl (other, also, f)) = e ∙ (ap TermRefused (same_Some fault other (sym is ∙ also)) ∙ sym f)
terms-one t proof v w (inl (fault, is, e)) (inr (none, b)) = absurd (let n : Some fault ≡ None = sym is ∙ none in cc)
terms-one t proof v w (inr (none, a)) (inl (other, also, f)) = absurd (let n : Some other ≡ None = sym also ∙ none in cc)
terms-one t None v w (inr (none, a)) (inr (also, b)) = absurd b
terms-one t (Some proof) v w (inr (none, a)) (inr (also, b)) = proof-one t proof v w a b

refused-one : (text : List ℕ) (v w : Verdict) (a : RefusedOne text v) (b : RefusedOne text w) → v ≡ w
refused-one text v w a b = a.is ∙ (ap CaseRefused (one_refusal text a.fault b.fault a.memory b.memory a.refused.1 b.refused.1) ∙ sym b.is)

case-one : (text : List ℕ) (proof : Option (List ℕ)) (v w : Verdict) → CaseDecides (IfSome proof) text v → CaseDecides (IsSomeAnd proof) text w → v ≡ w
case-one text proof v w (is_long l e) (is_long k f) = e ∙ sym f
case-one text proof v w (is_long l e) (is_refused b) = absurd (omega (arith, l, b.refused.0))
case-one text proof v w (is_long l e) (is_spelled b) = absurd (omega (arith, l, b.spelled.within))
case-one text proof v w (is_refused a) (is_long k f) = absurd (omega (arith, k, a.refused.0))
case-one text proof v w (is_refused a) (is_refused b) = refused-one text v w a b
case-one text proof v w (is_refused a) (is_spelled b) = absurd (not_both text a.fault b.schema b.written b.spelled b.comparable a.refused.1 a.memory)
case-one text proof v w (is_spelled a) (is_long k f) = absurd (omega (arith, k, a.spelled.within))
case-one text proof v w (is_spelled a) (is_refused b) = absurd (not_both text b.fault a.schema a.written a.spelled a.comparable b.refused.1 b.memory)
case-one text proof v w (is_spelled a) (is_spelled b) =
    let same : claim_of b.schema b.written ≡ claim_of a.schema a.written = one_case text a.schema b.schema a.written b.written a.spelled b.spelled in
    terms-one (claim_of a.schema a.written) proof v w a.decides (subst (λ (t : Claim). ClaimDecides (IsSomeAnd proof) t w) same b.decides)

-- ---- from what is said of a verdict to what decides
-- a case whose terms are within the limits
terms-decide : {text : List ℕ} {Known : KnownProof} {verdict : Verdict} {P : Schema → CaseText → Type 0} → HasTerms (Some text) P
    → ((schema : Schema) (written : CaseText) → P schema written → Known (ProofDecides (claim_of schema written) verdict)) → CaseDecides Known text verdict
terms-decide h known = is_spelled (record {
  schema = h.schema;
  written = h.written;
  spelled = h.spelled;
  comparable = h.comparable;
  decides = inr (h.holds.0, known h.schema h.written h.holds.1);
})

both-decide : (text : List ℕ) (proof : Option (List ℕ)) (verdict : Verdict) (P : Claim → List ℕ → Type 0)
    → ((schema : Schema) (written : CaseText) (p : List ℕ) → P (claim_of schema written) p → ProofDecides (claim_of schema written) verdict p)
    → TellsBoth (Some text) proof P → CaseDecides (IsSomeAnd proof) text verdict
both-decide text None verdict P f b = absurd b
both-decide text (Some p) verdict P f b = terms-decide b (λ schema written h. f schema written p h.1)

-- an answer decides, want of memory left aside
module _ (c : Claim) (text : List ℕ) where
  proved-decides : IsProof c text → ProofDecides c Proved text
  proved-decides p = answers (Ok shown.Proved) (λ e. cc) refl (accepted-answered c text p)

  fails-decides : (line : ℕ) → IsAnswered c text (Ok (shown.StepFails line)) → ProofDecides c (StepFails line) text
  fails-decides line p = answers (Ok (shown.StepFails line)) (λ e. cc) refl p

  differs-decides : IsAnswered c text (Ok shown.EndDiffers) → ProofDecides c EndDiffers text
  differs-decides p = answers (Ok shown.EndDiffers) (λ e. cc) refl p

  refused-decides : (fault : ProofFault) → fault ≢ proof_refusal.NoMemory → IsAnswered c text (Err fault) → ProofDecides c (ProofRefused fault) text
  refused-decides fault m p = answers (Err fault) (λ e. m (fault_in fault proof_refusal.NoMemory (Err fault) refl e)) refl p

-- the verdict is a fault of the store, or want of memory
abbrev pub IsFault : Verdict → Type 0
IsFault verdict = (status_of verdict ≡ status.ReadFault) ⊎ (status_of verdict ≡ status.NoMemory)

is_memory : (fault : CaseFault) → (fault ≡ case_refusal.NoMemory) ⊎ (fault ≢ case_refusal.NoMemory)
is_memory case_refusal.NoMemory = inl refl
is_memory (case_refusal.Read fault) = inr (λ e. cc)
is_memory (case_refusal.Schema fault) = inr (λ e. cc)
is_memory (case_refusal.Scope fault) = inr (λ e. cc)
is_memory (case_refusal.QueriesDiffer left right) = inr (λ e. cc)
is_memory (case_refusal.NotTwoQueries count at) = inr (λ e. cc)

is_want : (fault : ProofFault) → (fault ≡ proof_refusal.NoMemory) ⊎ (fault ≢ proof_refusal.NoMemory)
is_want proof_refusal.NoMemory = inl refl
is_want proof_refusal.BadHeader = inr (λ e. cc)
is_want proof_refusal.BadVersion = inr (λ e. cc)
is_want proof_refusal.BadOuts = inr (λ e. cc)
is_want (proof_refusal.BadLine line column) = inr (λ e. cc)
is_want proof_refusal.NoEnd = inr (λ e. cc)
is_want proof_refusal.AfterEnd = inr (λ e. cc)
is_want (proof_refusal.Limit what count) = inr (λ e. cc)

pub size-found : (fault : TermFault) (found : Option TermFault) → fault ≢ no_term.NoMemory → IsSizeCause fault found → found ≡ Some fault
unfolding IsSizeCause
size-found fault found n c = c n

module _ (text : List ℕ) (proof : Option (List ℕ)) where
  abbrev Decided : Verdict → Type 0
  Decided verdict = IsFault verdict ⊎ CaseDecides (IfSome proof) text verdict

  refusal-decides : (fault : CaseFault) → IsRefusedFor fault text → Decided (CaseRefused fault)
  refusal-decides fault r = by (is_memory fault)
    where
      by : (fault ≡ case_refusal.NoMemory) ⊎ (fault ≢ case_refusal.NoMemory) → Decided (CaseRefused fault)
      by (inl e) = inl (inr (ap (λ f. status_of (CaseRefused f)) e))
      by (inr n) = inr (is_refused (record { fault = fault; refused = r; memory = n; is = refl }))

  size-decides : (fault : TermFault) → HasCase (Some text) (λ schema written. IsSizeCause fault (size_fault schema written)) → Decided (TermRefused fault)
  size-decides no_term.NoMemory h = inl (inr refl)
  size-decides (no_term.TooBig what count) h = inr (is_spelled (record {
    schema = h.schema;
    written = h.written;
    spelled = h.spelled;
    comparable = h.comparable;
    decides = inl (no_term.TooBig what count, size-found (no_term.TooBig what count) (size_fault h.schema h.written) (λ e. cc) h.holds, refl);
  }))

  refused-proof : (fault : ProofFault) → HasBoth (Some text) proof OfAny (HasAnswer (Err fault)) → Decided (ProofRefused fault)
  refused-proof fault h = by (is_want fault)
    where
      by : (fault ≡ proof_refusal.NoMemory) ⊎ (fault ≢ proof_refusal.NoMemory) → Decided (ProofRefused fault)
      by (inl e) = inl (inr (ap (λ f. status_of (ProofRefused f)) e))
      by (inr m) = inr (terms-decide h (λ schema written p. IfSome-map proof _ _ (λ t q. refused-decides (claim_of schema written) t fault m q) p.1))

  just-decides : (cb cn pb pn : ℕ) (left : Option (List ℕ)) (verdict : Verdict)
      → IsJust (record { case = record { text = Some text; before = cb; now = cn }; proof = record { text = proof; before = pb; now = pn }; left = left }) verdict → Decided verdict
  just-decides cb cn pb pn left Proved h = inr (terms-decide h (λ schema written p. IfSome-map proof _ _ (λ t q. proved-decides (claim_of schema written) t q) p.1))
  just-decides cb cn pb pn left (StepFails line) h = inr (terms-decide h (λ schema written p. IfSome-map proof _ _ (λ t q. fails-decides (claim_of schema written) t line q) p.1))
  just-decides cb cn pb pn left EndDiffers h = inr (terms-decide h (λ schema written p. IfSome-map proof _ _ (λ t q. differs-decides (claim_of schema written) t q) p.1))
  just-decides cb cn pb pn left (ProofRefused fault) h = refused-proof fault h
  just-decides cb cn pb pn left ProofTooLong h = inr (terms-decide h (λ schema written p. IfSome-map proof _ _ (λ t q. is_too_long refl q) p.1))
  just-decides cb cn pb pn left (CaseRefused fault) r = refusal-decides fault r
  just-decides cb cn pb pn left (TermRefused fault) h = size-decides fault h
  just-decides cb cn pb pn left CaseTooLong l = inr (is_long l refl)
  just-decides cb cn pb pn left CaseUnread rose = inl (inl refl)
  just-decides cb cn pb pn left ProofUnread rose = inl (inl refl)
  just-decides cb cn pb pn left OutOfMemory u = inl (inr refl)
  just-decides cb cn pb pn left NoSuchForm u = absurd u

  size-cause : (fault : TermFault) → HasCase (Some text) (λ schema written. size_fault schema written ≡ Some fault) → CaseDecides (IsSomeAnd proof) text (TermRefused fault)
  size-cause fault h =
      is_spelled (record { schema = h.schema; written = h.written; spelled = h.spelled; comparable = h.comparable; decides = inl (fault, h.holds, refl) })

  cause-decides : (verdict : Verdict) → IsCause verdict (Some text) proof → CaseDecides (IsSomeAnd proof) text verdict
  cause-decides Proved b = both-decide text proof Proved IsProof (λ schema written p. proved-decides (claim_of schema written) p) b
  cause-decides (StepFails line) b = both-decide text proof (StepFails line) (HasAnswer (Ok (shown.StepFails line))) (λ schema written p. fails-decides (claim_of schema written) p line) b
  cause-decides EndDiffers b = both-decide text proof EndDiffers (HasAnswer (Ok shown.EndDiffers)) (λ schema written p. differs-decides (claim_of schema written) p) b
  cause-decides (ProofRefused fault) b = both-decide text proof (ProofRefused fault) (HasAnswer (Err fault)) (λ schema written p. refused-decides (claim_of schema written) p fault b.0) b.1
  cause-decides ProofTooLong b = both-decide text proof ProofTooLong IsTooLong (λ schema written p. is_too_long refl) b
  cause-decides (CaseRefused fault) b = is_refused (record { fault = fault; refused = b.refused; memory = b.memory; is = refl })
  cause-decides (TermRefused fault) b = size-cause fault b
  cause-decides CaseTooLong l = is_long l refl
  cause-decides CaseUnread u = absurd u
  cause-decides ProofUnread u = absurd u
  cause-decides OutOfMemory u = absurd u
  cause-decides NoSuchForm u = absurd u

-- A verdict that is just is a fault or want of memory, or it is the one whose cause stands in the texts.
pub one_verdict : (t : BothTold) (v w : Verdict) → IsJust t v → IsCause w t.case.text t.proof.text → IsFault v ⊎ (v ≡ w)
one_verdict t v w just cause = of t.case.text just cause
  where
    of : (case : Option (List ℕ))
        → IsJust (record { case = record { text = case; before = t.case.before; now = t.case.now }; proof = t.proof; left = t.left }) v
        → IsCause w case t.proof.text → IsFault v ⊎ (v ≡ w)
    of (Some text) just cause = by (just-decides text t.proof.text t.case.before t.case.now t.proof.before t.proof.now t.left v just)
      where
        by : IsFault v ⊎ CaseDecides (IfSome t.proof.text) text v → IsFault v ⊎ (v ≡ w)
        by (inl fault) = inl fault
        by (inr found) = inr (case-one text t.proof.text v w found (cause-decides text t.proof.text w cause))
    of None just cause = absurd (untold w cause)
      where
        untold : (verdict : Verdict) → IsCause verdict None t.proof.text → ⊥
        untold (ProofRefused fault) b = b.1
        untold verdict b = b
