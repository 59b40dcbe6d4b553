-- The relations of a schema as code knows them, and the two calls.
use Rattle.std.proofs.Common.{◌≡◌, ℕ, true, false, List, [], ◌∷◌, map, length, Option, Some, None, Result, Ok, Err, refl, ap, sym, subst, ◌∙◌}
use Rattle.std.specs.Prelude.{IfErr, IfOk}
use Rattle.sql_model.specs.declared.schema.Schema.{Schema}
use Rattle.sql_model.specs.declared.schema.Relation.TheVariants as relation
use Rattle.sql_model.specs.Syntax.{Query}
use Rattle.sql_model.specs.Frames.{ColumnName}
use Rattle.sql_model.specs.Headings.{output_columns}
use Rattle.scope_core.specs.declared.fault.ScopeFault.{ScopeFault}
use Rattle.scope_core.specs.declared.fault.ScopeFault.TheVariants as fault
use Rattle.scope_core.specs.declared.fault.ScopeCode.TheVariants as code
use Rattle.scope_core.specs.declared.catalog.Known.{Known as LentKnown}
use Rattle.scope_core.specs.declared.heading.Stored.{Stored}
use Rattle.scope_core.specs.declared.heading.Stored.TheVariants as stored
use Rattle.scope_core.specs.Answer.{IsCause}
use Rattle.scope_core.specs.Catalogs.{Catalog}
use Rattle.scope_core.specs.Faults.{name_twice}
use Rattle.scope_core.specs.FirstFault.{first_fault, query_fault, relation_fault}
use Rattle.scope_core.specs.Fitting.{IsSoundOver}
use Rattle.scope_core.specs.Lent.{relation_of, relations_of, source_of}
use Rattle.scope_core.specs.Literals.{QueryFits, TreeFits}
use Rattle.scope_core.specs.Parts.{fault_within, name_twice_fault}
use Rattle.scope_core.specs.Plain.{is_plain, is_plain_tree}
use Rattle.scope_core.specs.Relations.{known_of}
use Rattle.scope_core.specs.ViewTrees.{views_of, Resolves, tree_of}
use Rattle.scope_core.specs.Resolving.{resolved}
use Rattle.scope_core.specs.Ropes.{columns_within}
use Rattle.scope_core.specs.Scope.{Known, heading}
use Rattle.scope_core.specs.Sites.{sites}
use Rattle.scope_core.specs.Sound.{IsSound, IsSoundAlone, IsSoundSource, SeenBlocks}
use Rattle.scope_core.specs.Syntax.{RQuery}
use Rattle.scope_core.specs.WellFormed.{SchemaWellFormed, WellFormed, WithinWidth}
use Rattle.scope_core.specs.Width.{width}
use Rattle.scope_core.proofs.resolving.Columns.{cause-memory, causes}
use Rattle.scope_core.proofs.well_formed.NoFault.{no-first, query_fault-none}
use Rattle.scope_core.proofs.trees.PlainTrees.{tree-plain}
use Rattle.scope_core.proofs.well_formed.Resolvability.{well_formed-resolvable}
use Rattle.scope_core.proofs.trees.Soundness.{OkSources, query-sound}
use Rattle.scope_core.proofs.schema.SoundTrees.{tree-sound, tree-width}
use Rattle.scope_core.proofs.trees.SymbolLaws.{tree-fits}
use Rattle.scope_core.proofs.resolving.Walks.{cause-first, cause-same, cause-second, no-fault-both}

-- ---- a query that stands by itself
stored-sound : (stored : Stored) (wide : ℕ) (shape : SeenBlocks) → IsSoundSource (λ number wide. Unit {0}) (λ place wide. Unit {0}) shape (source_of stored) wide
unfolding IsSound
stored-sound (stored.Table number) wide shape = tt
stored-sound (stored.View place) wide shape = tt

lent-sound : (known : List LentKnown) → OkSources (λ number wide. Unit {0}) (λ place wide. Unit {0}) (map relation_of known)
lent-sound [] = tt
lent-sound (k ∷ known) = (λ shape. stored-sound k.stored (length (columns_within k.columns)) shape, lent-sound known)

pub sound-alone : (known : Catalog) (query : Query) (tree : RQuery) → fault_within (relations_of known) [] query ≡ None
    → tree ≡ resolved query (relations_of known) [] → IsSoundAlone tree
unfolding fault_within
sound-alone known query tree fine is =
    let K = relations_of known in
    subst IsSoundAlone (sym is)
    (query-sound (λ number wide. Unit {0}) (λ place wide. Unit {0}) K (lent-sound known.relations) query [] []
    (well_formed-resolvable query K (no-first (sites query K []) fine).0) tt)

pub memory-alone : {X : Type 0} (r : Result X ScopeFault) (found : Option ScopeFault) → IfErr r (λ f. f ≡ fault.NoMemory) → IfErr r (λ f. IsCause f found)
memory-alone (Ok x) found h = tt
memory-alone (Err f) found h = cause-memory f found h

pub ruleset alone = (sound-alone, memory-alone)

-- ---- one relation more
pub view-fine : (known : List Known) (query : Query) (at : ℕ) (columns : List ColumnName) → columns ≡ output_columns query (map heading known)
    → fault_within known [] query ≡ None → name_twice_fault columns at ≡ None → relation_fault known (relation.View query at) ≡ None
unfolding fault_within
view-fine known query at columns is fine names = no-fault-both _ _ _ refl fine (sym (ap (λ cs. name_twice_fault cs at) is) ∙ names)

pub view-cause : (known : List Known) (query : Query) (at : ℕ) (f : ScopeFault) → IsCause f (fault_within known [] query)
    → IsCause f (relation_fault known (relation.View query at))
unfolding fault_within
view-cause known query at f h = cause-first f _ _ _ refl h

pub names-cause : (known : List Known) (query : Query) (at : ℕ) (columns : List ColumnName) (f : ScopeFault) → columns ≡ output_columns query (map heading known)
    → fault_within known [] query ≡ None → IsCause f (name_twice_fault columns at) → IsCause f (relation_fault known (relation.View query at))
unfolding fault_within
names-cause known query at columns f is fine h =
    cause-second f _ _ _ refl fine (cause-same f _ _ (ap (λ cs. name_twice_fault cs at) (sym is)) h)

pub ruleset steps = (causes, cause-memory, view-fine, view-cause, names-cause)

-- ---- names
pub names-fine : (columns : List ColumnName) (at : ℕ) → name_twice columns ≡ false → name_twice_fault columns at ≡ None
names-fine columns at h = rw h refl

pub names-two : (columns : List ColumnName) (at : ℕ) (f : ScopeFault) → name_twice columns ≡ true → f ≡ fault.Refused code.NameTwice at 0 0
    → IsCause f (name_twice_fault columns at)
unfolding IsCause
names-two columns at f h is = λ ne. rw h (ap Some (sym is))

pub ruleset names = (names-fine, names-two)

-- ---- a query over a schema
both : {X : Type 0} (r : Result X ScopeFault) (P Q R : X → Type 0) → ((x : X) → P x → Q x → R x) → IfOk r P → IfOk r Q → IfOk r R
both (Ok x) P Q R h p q = h x p q
both (Err f) P Q R h p q = tt

module _ (schema : Schema) (query : Query) (K : List Known) (r : Result RQuery ScopeFault) (is : K ≡ known_of schema)
    (fine : IfOk r (λ tree. fault_within K [] query ≡ None)) (value : IfOk r (λ tree. tree ≡ resolved query K [])) where
  none-of : fault_within K [] query ≡ None → query_fault schema query ≡ None
  unfolding fault_within
  none-of h = sym (ap (λ k. first_fault (sites query k [])) is) ∙ h

  well-of : fault_within K [] query ≡ None → WellFormed schema query × WithinWidth schema query
  well-of h = (query_fault-none schema query).0 (none-of h)

  tree-is : (tree : RQuery) → tree ≡ resolved query K [] → tree ≡ tree_of schema query
  tree-is tree h = h ∙ ap (λ k. resolved query k []) is

  pub call-well : IfOk r (λ tree. WellFormed schema query × WithinWidth schema query)
  call-well = both r _ _ _ (λ tree h v. well-of h) fine value

  pub call-value : IfOk r (λ tree. Resolves schema query tree)
  call-value = both r _ _ _ (λ tree h v. tree-is tree v) fine value

  pub call-sound : SchemaWellFormed schema → (views : List RQuery) → views ≡ views_of schema → IfOk r (λ tree. IsSoundOver schema.relations.entries views tree)
  call-sound sound views e =
      both r _ _ _ (λ tree h v. subst (λ vs. IsSoundOver schema.relations.entries vs tree) (sym e)
      (subst (IsSoundOver schema.relations.entries (views_of schema)) (sym (tree-is tree v)) (tree-sound schema query sound (well-of h).0))) fine value

  pub call-symbols : IfOk r (λ tree. (count : ℕ) → QueryFits count query → TreeFits count tree)
  call-symbols =
      both r _ _ _ (λ tree h v count f. subst (TreeFits count) (sym (tree-is tree v)) (tree-fits count schema query f)) fine value

  pub call-wide : IfOk r (λ tree. width tree ≡ length (output_columns query (map heading (known_of schema))))
  call-wide = both r _ _ _ (λ tree h v. ap width (tree-is tree v) ∙ tree-width schema query) fine value

  pub call-plain : IfOk r (λ tree. is_plain_tree tree ≡ is_plain query (known_of schema))
  call-plain = both r _ _ _ (λ tree h v. ap (λ t. is_plain_tree t) (tree-is tree v) ∙ tree-plain schema query (well-of h).0) fine value

pub call-cause : (schema : Schema) (query : Query) (K : List Known) (f : ScopeFault) → K ≡ known_of schema → IsCause f (fault_within K [] query)
    → IsCause f (query_fault schema query)
unfolding fault_within
call-cause schema query K f is h = cause-same f _ _ (ap (λ k. first_fault (sites query k [])) (sym is)) h

pub handed-cause : {X : Type 0} (r : Result X ScopeFault) (schema : Schema) (query : Query) (K : List Known) → K ≡ known_of schema
    → IfErr r (λ f. IsCause f (fault_within K [] query)) → IfErr r (λ f. IsCause f (query_fault schema query))
handed-cause (Ok x) schema query K is h = tt
handed-cause (Err f) schema query K is h = call-cause schema query K f is h

pub ruleset calls = (causes, cause-memory)
