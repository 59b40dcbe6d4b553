-- What is answered on cases of two filtered unions.
use Rattle.std.proofs.Common.{◌≡◌, ℕ, ◌+◌, ◌≤◌, Bool, List, [], ◌∷◌, Option, Some, None, length, map, refl, sym, ap, ◌∙◌, subst, inl, inr, arith}
use Rattle.std.specs.Prelude.{◌⊎◌, IfSome, String, filter_map}
use Rattle.std.specs.declared.alloc.Global.{Global}
use Rattle.std.specs.Option.{option_or}
use Rattle.data_model.specs.Lists.{Each}
use Rattle.sql_model.specs.Meets.{base_table}
use Rattle.sql_model.specs.declared.schema.Fkey.{Fkey}
use Rattle.sql_model.specs.Relations.{Relation}
use Rattle.sql_model.specs.Syntax.{Name, Query}
use Rattle.sql_model.specs.declared.schema.Relation.TheVariants as relation
use Rattle.sql_model.specs.declared.schema.Schema.{Schema}
use Rattle.scope_core.specs.Relations.{count_views, known_of, known_relation, known_relations, known_with}
use Rattle.scope_core.specs.ViewTrees.{tree_of, view_trees, views_of}
use Rattle.scope_core.specs.Resolving.{resolved}
use Rattle.scope_core.specs.Scope.{Known}
use Rattle.scope_core.specs.Sound.{IsSound, IsSoundAlone, IsSoundSource, SeenBlocks}
use Rattle.scope_core.specs.Syntax.{RSource, Table, View, Derived}
use Rattle.scope_core.specs.WellFormed.{WellFormed}
use Rattle.scope_core.specs.Width.{width}
use Rattle.scope_core.proofs.basics.Each.{Each-in, Each-end}
use Rattle.scope_core.proofs.well_formed.Resolvability.{well_formed-resolvable}
use Rattle.scope_core.proofs.trees.Soundness.{query-sound}
use Rattle.scope_core.proofs.schema.SoundTrees.{tree-width}
use Rattle.shapes.specs.Small.{most_entries}
use Rattle.shapes.specs.Tried.{tries}
use Rattle.schema_read.specs.SchemaFacts.{by_numbers}
use Rattle.sql_to_u.specs.Answer.{translation}
use Rattle.sql_to_u.specs.Limits.{IsCause as IsSizeCause, too_big}
use Rattle.sql_to_u.specs.declared.fault.TermFault.{TermFault}
use Rattle.sql_to_u.specs.declared.fault.TermFault.TheVariants as no_term
use Rattle.sql_to_u.proofs.queries.Wholes.{none-within}
use Rattle.case_core.specs.declared.fault.CaseFault.{CaseFault}
use Rattle.case_core.specs.declared.text.CaseText.{CaseText}
use Rattle.u_prover.specs.Proving.{IsUnknown}
use Rattle.udp_io.specs.Writing.{Grows}
use Rattle.udp_run.specs.declared.answer.Status.{Status}
use Rattle.udp_run.specs.declared.answer.Status.TheVariants as status
use Rattle.udp_run.specs.declared.answer.Verdict.{Verdict}
use Rattle.udp_run.specs.declared.answer.Verdict.TheVariants.{Proved, StepFails, EndDiffers, CaseRefused, TermRefused, ProofRefused, NoSuchForm, CaseUnread, ProofUnread, CaseTooLong, ProofTooLong, OutOfMemory}
use Rattle.udp_run.specs.Answer.{AsksCheck, HasTerms, IsLongCase, IsRefusedFor, Told, status_of}
use Rattle.udp_run.specs.Cases.{AreComparable, HasCase, Spells, size_fault, term_of}
use Rattle.udp_run.specs.Output.{case_status, size_status}
use Rattle.udp_run.specs.Proofs.{Claim, claim_of, facts_of}
use Rattle.udp_run.proofs.Exact.{no-refusal}
use Rattle.udp_run.proofs.TopAnswers.{case-refusal, size-refusal}
use Rattle.udp_run.proofs.OneVerdict.{size-found}
use Rattle.udp_run.proofs.Unrefused.{Relations, memory_alone, same_case, width_over}
use Rattle.udp_start.specs.Proving.{HasNoTerms, IsNotKnown, IsProving, SoughtInVain, not_known, not_sought, proved_by, unknown}
use Rattle.udp_start.specs.SmallCases.{IsDoneOrFault, IsPromised, IsPromisedCase, IsSmallAlike, IsSmallAlikeCase, IsUnionCase}
use Rattle.udp_start.specs.Words.{AsksProof, IsProve}
use Rattle.udp_start.proofs.WordForms.{not_check}
use Rattle.alike_unions.specs.Unknown.{IsUnknownOf}
use Rattle.alike_unions.proofs.Found.{most-enough, never-unknown, small-terms, unknown-of}

-- ---- the trees
-- what a schema names is a base table or a view
abbrev IsNamed : RSource → Type 0
IsNamed (Table number) = Unit {0}
IsNamed (View place) = Unit {0}
IsNamed (Derived query) = ⊥

named-sound : (source : RSource) (wide : ℕ) (seen : SeenBlocks) → IsNamed source → IsSoundSource (λ number wide. Unit {0}) (λ place wide. Unit {0}) seen source wide
unfolding IsSound
named-sound (Table number) wide seen named = tt
named-sound (View place) wide seen named = tt
named-sound (Derived query) wide seen named = absurd named

relation-named : (known : List Known) (views : ℕ) (name : Name) (r : Relation) → IsNamed (known_relation known views name r).source
relation-named known views name (relation.Table table) = tt
relation-named known views name (relation.View query at) = tt

all-named : (relations : List (Name × Relation)) (known : List Known) (views : ℕ) → Each (λ k. IsNamed k.source) known
    → Each (λ k. IsNamed k.source) (known_relations known views relations)
all-named [] known views named = named
all-named (r ∷ rest) known views named =
    all-named rest (known_with known views r.0 r.1) (views + count_views r.1)
    (Each-end (λ k. IsNamed k.source) known (known_relation known views r.0 r.1) named (relation-named known views r.0 r.1))

query-alone : (schema : Schema) (query : Query) → WellFormed schema query → IsSoundAlone (tree_of schema query)
query-alone schema query fine =
    query-sound (λ number wide. Unit {0}) (λ place wide. Unit {0}) (known_of schema)
    (Each-in _ _ (λ k named seen. named-sound k.source (length k.columns) seen named) (known_of schema) (all-named schema.relations.entries [] 0 tt))
    query [] [] (well_formed-resolvable query (known_of schema) fine) tt

-- ---- the claim
-- it depends on the relations and the foreign keys of the schema alone
abbrev claim_over : Relations → List Fkey → CaseText → Claim
claim_over relations fkeys w = record {
  facts = record {
    widths = map (λ table. length table.columns) (filter_map (λ r. base_table r.1) relations);
    keys = map (λ table. table.keys) (filter_map (λ r. base_table r.1) relations);
    fkeys = map by_numbers fkeys;
  };
  outs = width_over relations w.left;
  left = translation (view_trees [] [] relations) (resolved w.left (known_relations [] 0 relations) []);
  right = translation (view_trees [] [] relations) (resolved w.right (known_relations [] 0 relations) []);
}

-- and a text spells one case
one-claim : (text : List ℕ) (schema other : Schema) (written also : CaseText) → Spells text schema written → Spells text other also → claim_of other also ≡ claim_of schema written
one-claim text schema other written also a b =
    let s = same_case b.has_schema a.has_schema in
    λ i. claim_over (s.relations i) (s.fkeys i) (s.text i)

abbrev size_of : Claim → Option TermFault
size_of c = option_or (too_big c.left) (too_big c.right)

-- ---- why none is known
module _ (budget : ℕ) (spent : Bool) where
  vain-here : (text : List ℕ) (schema : Schema) (written : CaseText) → Spells text schema written → HasTerms (Some text) (IsNotKnown budget spent) → SoughtInVain budget spent (claim_of schema written)
  vain-here text schema written spelled h = subst (SoughtInVain budget spent) (one-claim text schema h.schema written h.written spelled h.spelled) (h.holds.1)

  -- between the trees
  unknown-trees : (schema : Schema) (written : CaseText) → SoughtInVain budget spent (claim_of schema written)
      → IsUnknown (facts_of schema) (width (tree_of schema written.left)) (translation (views_of schema) (tree_of schema written.left)) (translation (views_of schema) (tree_of schema written.right)) budget spent
  unknown-trees schema written vain =
      subst (λ (n : ℕ). IsUnknown (facts_of schema) n (claim_of schema written).left (claim_of schema written).right budget spent) (sym (tree-width schema written.left)) vain

  one-wide : (schema : Schema) (written : CaseText) → AreComparable schema written → width (tree_of schema written.left) ≡ width (tree_of schema written.right)
  one-wide schema written fine = tree-width schema written.left ∙ fine.one_width ∙ sym (tree-width schema written.right)

  claim-unknown : (text : List ℕ) → (u : IsUnionCase text) → HasTerms (Some text) (IsNotKnown budget spent) → IsUnknownOf u.of_left.shapes u.of_right.shapes budget spent
  claim-unknown text u h =
      let formed = (u.comparable).well_formed in
      unknown-of (views_of u.schema) (tree_of u.schema u.written.left) (tree_of u.schema u.written.right) u.of_left u.of_right
      (query-alone u.schema u.written.left formed.left) (query-alone u.schema u.written.right formed.right) (one-wide u.schema u.written u.comparable) budget
      (facts_of u.schema) spent (unknown-trees u.schema u.written (vain-here text u.schema u.written u.spelled h))

  claim-known : (text : List ℕ) → IsPromised budget text → HasTerms (Some text) (IsNotKnown budget spent) → ⊥
  claim-known text p h =
      let s = p.unions in
      let formed = (s.comparable).well_formed in
      never-unknown (views_of s.schema) (tree_of s.schema s.written.left) (tree_of s.schema s.written.right) s.alike s.small
      (query-alone s.schema s.written.left formed.left) (query-alone s.schema s.written.right formed.right) (one-wide s.schema s.written s.comparable) budget p.enough
      (facts_of s.schema) spent (unknown-trees s.schema s.written (vain-here text s.schema s.written s.spelled h))

  vain-never : (case : Option (List ℕ)) → IsPromisedCase budget case → HasTerms case (IsNotKnown budget spent) → ⊥
  vain-never None small h = small
  vain-never (Some text) small h = claim-known text small h

-- ---- the answer
-- a case that has no terms does not end so
no_terms-proved : (told : Told) (verdict : Verdict) → status_of verdict ≡ status.NotProved → HasNoTerms told verdict → ⊥
no_terms-proved told (CaseRefused fault) e h = no-refusal (case_status fault) status.NotProved (case-refusal fault) e (λ f. cc) (λ f. cc) (λ f. cc) (λ f. cc)
no_terms-proved told (TermRefused fault) e h = no-refusal (size_status fault) status.NotProved (size-refusal fault) e (λ f. cc) (λ f. cc) (λ f. cc) (λ f. cc)
no_terms-proved told CaseUnread e h = absurd cc
no_terms-proved told CaseTooLong e h = absurd cc
no_terms-proved told OutOfMemory e h = absurd cc
no_terms-proved told Proved e h = absurd h
no_terms-proved told (StepFails line) e h = absurd h
no_terms-proved told EndDiffers e h = absurd h
no_terms-proved told (ProofRefused fault) e h = absurd h
no_terms-proved told NoSuchForm e h = absurd h
no_terms-proved told ProofUnread e h = absurd h
no_terms-proved told ProofTooLong e h = absurd h

module _ (told : Told) (budget : ℕ) (old new : Option (List ℕ)) (b n : ℕ) (answer : Status) where
  pub proving-unknown : answer ≡ status.NotProved → IsProving told budget old new b n answer → (text : List ℕ) → told.text ≡ Some text → (u : IsUnionCase text)
      → (spent : Bool) × IsUnknownOf u.of_left.shapes u.of_right.shapes budget spent × Grows old new (unknown spent)
  proving-unknown e (not_sought verdict h (inl (is, grows))) text here u = absurd (no_terms-proved told verdict (sym is ∙ e) h)
  proving-unknown e (not_sought verdict h (inr (inl (failed, rose, grows)))) text here u = let f : status.WriteFault ≡ status.NotProved = sym failed ∙ e in cc
  proving-unknown e (not_sought verdict h (inr (inr (none, same)))) text here u = let f : status.NoMemory ≡ status.NotProved = sym none ∙ e in cc
  proving-unknown e (not_known spent h (inl (is, grows))) text here u =
      (spent, claim-unknown budget spent text u (subst (λ (o : Option (List ℕ)). HasTerms o (IsNotKnown budget spent)) here h), grows)
  proving-unknown e (not_known spent h (inr (failed, rose, grows))) text here u = let f : status.WriteFault ≡ status.NotProved = sym failed ∙ e in cc
  proving-unknown e (proved_by proof h (inl (is, grows))) text here u = let f : status.Done ≡ status.NotProved = sym is ∙ e in cc
  proving-unknown e (proved_by proof h (inr (failed, rose, grows))) text here u = let f : status.WriteFault ≡ status.NotProved = sym failed ∙ e in cc

-- ---- of small ones that are alike
-- nothing stands against such a case
no-refusal-but_memory : (case : Option (List ℕ)) → IsSmallAlikeCase case → (fault : CaseFault) → IfSome case (IsRefusedFor fault) → case_status fault ≡ status.NoMemory
no-refusal-but_memory None small fault h = absurd small
no-refusal-but_memory (Some text) small fault h =
    let spelled = small.spelled in
    ap case_status (memory_alone text small.schema small.written spelled.numbers spelled.has_schema small.comparable fault h.1)

not-long : (case : Option (List ℕ)) → IsSmallAlikeCase case → IfSome case IsLongCase → ⊥
not-long None small h = small
not-long (Some text) small h = let spelled = small.spelled in absurd (omega (arith, spelled.within, h))

both-none : {x y : Option TermFault} → x ≡ None → y ≡ None → option_or x y ≡ None
both-none {y = y} e f = ap (λ (o : Option TermFault). option_or o y) e ∙ f

no-size : (text : List ℕ) → (s : IsSmallAlike text) → size_fault s.schema s.written ≡ None
no-size text s =
    let formed = (s.comparable).well_formed in
    let terms = small-terms (views_of s.schema) (tree_of s.schema s.written.left) (tree_of s.schema s.written.right) s.alike s.small
    (query-alone s.schema s.written.left formed.left) (query-alone s.schema s.written.right formed.right) in
    both-none (none-within (term_of s.schema s.written.left) terms.0) (none-within (term_of s.schema s.written.right) terms.1)

size-memory : (case : Option (List ℕ)) → IsSmallAlikeCase case → (fault : TermFault) → HasCase case (λ schema written. IsSizeCause fault (size_fault schema written)) → size_status fault ≡ status.NoMemory
size-memory None small fault h = absurd small
size-memory (Some text) small no_term.NoMemory h = refl
size-memory (Some text) small (no_term.TooBig what count) h =
    let found : size_fault h.schema h.written ≡ Some (no_term.TooBig what count) = size-found (no_term.TooBig what count) (size_fault h.schema h.written) (λ e. cc) h.holds in
    let same : size_fault h.schema h.written ≡ size_fault small.schema small.written =
    ap size_of (one-claim text small.schema h.schema small.written h.written small.spelled h.spelled) in
    let none : None ≡ Some (no_term.TooBig what count) = sym (no-size text small) ∙ sym same ∙ found in
    absurd (cc)

-- so what is said for want of terms is that the case can't be read, or that there was no memory
no_terms-fault : (told : Told) → IsSmallAlikeCase told.text → (verdict : Verdict) → HasNoTerms told verdict → (status_of verdict ≡ status.ReadFault) ⊎ (status_of verdict ≡ status.NoMemory)
no_terms-fault told small (CaseRefused fault) h = inr (no-refusal-but_memory told.text small fault h)
no_terms-fault told small (TermRefused fault) h = inr (size-memory told.text small fault h)
no_terms-fault told small CaseUnread h = inl refl
no_terms-fault told small CaseTooLong h = absurd (not-long told.text small h)
no_terms-fault told small OutOfMemory h = inr refl
no_terms-fault told small Proved h = absurd h
no_terms-fault told small (StepFails line) h = absurd h
no_terms-fault told small EndDiffers h = absurd h
no_terms-fault told small (ProofRefused fault) h = absurd h
no_terms-fault told small NoSuchForm h = absurd h
no_terms-fault told small ProofUnread h = absurd h
no_terms-fault told small ProofTooLong h = absurd h

promised-small : (budget : ℕ) (case : Option (List ℕ)) → IsPromisedCase budget case → IsSmallAlikeCase case
promised-small budget None p = p
promised-small budget (Some text) p = p.unions

-- the promise is kept
module _ (told : Told) (budget : ℕ) (promised : IsPromisedCase budget told.text) (old new : Option (List ℕ)) (b n : ℕ) (answer : Status) where
  pub proving-promised : IsProving told budget old new b n answer → IsDoneOrFault answer
  proving-promised (not_sought verdict h (inl (is, grows))) = elim (no_terms-fault told (promised-small budget told.text promised) verdict h) [
    | inl unread ↦ inr (inl (is ∙ unread))
    | inr none ↦ inr (inr (inr (is ∙ none)))
  ]
  proving-promised (not_sought verdict h (inr (inl (failed, rose, grows)))) = inr (inr (inl failed))
  proving-promised (not_sought verdict h (inr (inr (none, same)))) = inr (inr (inr none))
  proving-promised (not_known spent h w) = absurd (vain-never budget spent told.text promised h)
  proving-promised (proved_by proof h (inl (is, grows))) = inl is
  proving-promised (proved_by proof h (inr (failed, rose, grows))) = inr (inr (inl failed))

-- with a budget for nine entries
pub most-promised : (budget : ℕ) → tries most_entries ≤ budget → (case : Option (List ℕ)) → IsSmallAlikeCase case → IsPromisedCase budget case
most-promised budget most None small = small
most-promised budget most (Some text) small = record {
  unions = small;
  enough = most-enough (tree_of small.schema small.written.left) (tree_of small.schema small.written.right) small.alike small.small budget most;
}

-- ---- over a store and a sink that never fail
pub no-read_fault : (words : List (String Global)) (case : List ℕ) (budget : ℕ) → IsProve words case budget → (P : List ℕ → List ℕ → Type 0) (Q : List ℕ → Type 0) → ((name : List ℕ) → Q name → ⊥)
    → AsksCheck words P ⊎ AsksProof words Q → ⊥
no-read_fault words case budget is P Q sure (inl (name, proof, are, why)) = not_check words case name proof budget is are
no-read_fault words case budget is P Q sure (inr (name, more, are, failed)) = sure name failed

pub without-fault : (answer : Status) → (answer ≡ status.ReadFault → ⊥) → (answer ≡ status.WriteFault → ⊥) → IsDoneOrFault answer → (answer ≡ status.Done) ⊎ (answer ≡ status.NoMemory)
without-fault answer read write (inl done) = inl done
without-fault answer read write (inr (inl unread)) = absurd (read unread)
without-fault answer read write (inr (inr (inl failed))) = absurd (write failed)
without-fault answer read write (inr (inr (inr none))) = inr none
