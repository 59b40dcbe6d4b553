-- The trees of a well-formed schema and query are sound, and fit the schema and the views.
use Rattle.std.proofs.Common.{◌≡◌, ℕ, zero, suc, List, [], ◌∷◌, ◌++◌, map, length, Some, refl, sym, subst, inl, inr}
use Rattle.std.proofs.lemmas.List.{append_assoc, append-nil, length-map}
use Rattle.data_model.specs.Lists.{Each}
use Rattle.sql_model.specs.declared.schema.Schema.{Schema}
use Rattle.sql_model.specs.declared.schema.Relation.TheVariants as relation
use Rattle.sql_model.specs.Syntax.{Name, Query}
use Rattle.sql_model.specs.Headings.{output_columns}
use Rattle.sql_model.specs.Relations.{Relation}
use Rattle.scope_core.specs.Syntax.{RSource, RQuery, Table, View, Derived}
use Rattle.scope_core.specs.Scope.{Known, heading}
use Rattle.scope_core.specs.Resolving.{resolved}
use Rattle.scope_core.specs.Relations.{known_with, known_relations, known_of}
use Rattle.scope_core.specs.ViewTrees.{trees_with, view_trees, views_of, tree_of}
use Rattle.scope_core.specs.Width.{width}
use Rattle.scope_core.specs.Sound.{SeenBlocks, IsSound, IsSoundSource}
use Rattle.scope_core.specs.Fitting.{HasTable, HasView, IsSoundOver, AreSoundViews}
use Rattle.scope_core.specs.WellFormed.{IsRelationWellFormed, AreWellFormed, SchemaWellFormed, WellFormed}
use Rattle.scope_core.proofs.basics.Each.{Each-in, Each-end}
use Rattle.scope_core.proofs.well_formed.Resolvability.{well_formed-resolvable}
use Rattle.scope_core.proofs.trees.Soundness.{OkSources, query-sound, width-same}
use Rattle.scope_core.proofs.schema.ViewTrees.{trees-counted}

-- ---- views
HasView-more : (trees : List RQuery) (tree : RQuery) (place wide : ℕ) → HasView trees place wide → HasView (trees ++ tree ∷ []) place wide
HasView-more [] tree place wide h = absurd h
HasView-more (t ∷ trees) tree zero wide h = h
HasView-more (t ∷ trees) tree (suc place) wide h = HasView-more trees tree place wide h

HasView-last : (trees : List RQuery) (tree : RQuery) (wide : ℕ) → width tree ≡ wide → HasView (trees ++ tree ∷ []) (length trees) wide
HasView-last [] tree wide e = e
HasView-last (t ∷ trees) tree wide e = HasView-last trees tree wide e

module _ (all : List (Name × Relation)) where
  AreSoundViews-end : (earlier trees : List RQuery) (tree : RQuery) → AreSoundViews all earlier trees → IsSoundOver all (earlier ++ trees) tree → AreSoundViews all earlier (trees ++ tree ∷ [])
  AreSoundViews-end earlier [] tree h s = (subst (λ vs. IsSoundOver all vs tree) (append-nil earlier) s, tt)
  AreSoundViews-end earlier (t ∷ trees) tree h s =
      (h.0, AreSoundViews-end (earlier ++ t ∷ []) trees tree h.1 (subst (λ vs. IsSoundOver all vs tree) (sym (append_assoc earlier (t ∷ []) trees)) s))

  -- a base table, or one of these views
  abbrev IsKnownSource : List RQuery → RSource → ℕ → Type 0
  IsKnownSource trees (Table number) wide = HasTable all number wide
  IsKnownSource trees (View place) wide = HasView trees place wide
  IsKnownSource trees (Derived query) wide = ⊥

  known-more : (trees : List RQuery) (tree : RQuery) (s : RSource) (wide : ℕ) → IsKnownSource trees s wide → IsKnownSource (trees ++ tree ∷ []) s wide
  known-more trees tree (Table number) wide h = h
  known-more trees tree (View place) wide h = HasView-more trees tree place wide h
  known-more trees tree (Derived query) wide h = absurd h

  known-sound : (trees : List RQuery) (s : RSource) (wide : ℕ) → IsKnownSource trees s wide → (seen : SeenBlocks) → IsSoundSource (HasTable all) (HasView trees) seen s wide
  unfolding IsSound
  known-sound trees (Table number) wide h seen = h
  known-sound trees (View place) wide h seen = h
  known-sound trees (Derived query) wide h seen = absurd h

  -- the base tables among these are among all
  abbrev Gives : Relation → Type 0
  Gives (relation.Table table) = HasTable all table.number (length table.columns)
  Gives (relation.View query at) = Unit {0}

  -- what holds of the relations so far
  pub record AreSound (known : List Known) (trees : List RQuery) : Type 0 where
    pub views : AreSoundViews all [] trees
    pub sources : Each (λ k. IsKnownSource trees k.source (length k.columns)) known

  pub ok-sources : (known : List Known) (trees : List RQuery) → Each (λ k. IsKnownSource trees k.source (length k.columns)) known → OkSources (HasTable all) (HasView trees) known
  ok-sources known trees h = Each-in _ _ (λ k s. known-sound trees k.source (length k.columns) s) known h

  step : (known : List Known) (trees : List RQuery) (name : Name) (r : Relation) → AreSound known trees → IsRelationWellFormed known r → Gives r → AreSound (known_with known (length trees) name r) (trees_with known trees r)
  step known trees name (relation.Table table) a f gives = record {
    views = a.views;
    sources = Each-end (λ k. IsKnownSource trees k.source (length k.columns)) known _ a.sources (subst (HasTable all table.number) (sym (length-map table.columns Some)) gives);
  }
  step known trees name (relation.View query at) a f gives =
      let tree = resolved query known [] in
      let ok = ok-sources known trees a.sources in
      let fine = well_formed-resolvable query known f.0 in
      record {
        views = AreSoundViews-end [] trees tree a.views (query-sound (HasTable all) (HasView trees) known ok query [] [] fine tt);
        sources = Each-end (λ k. IsKnownSource (trees ++ tree ∷ []) k.source (length k.columns)) known _
            (Each-in _ _ (λ k s. known-more trees tree k.source (length k.columns) s) known a.sources)
            (HasView-last trees tree (length (output_columns query (map heading known))) (width-same (HasTable all) (HasView trees) known query []));
      }

  sound-all : (relations : List (Name × Relation)) (known : List Known) (trees : List RQuery) → AreSound known trees → AreWellFormed known (length trees) relations → Each (λ r. Gives r.1) relations
      → AreSound (known_relations known (length trees) relations) (view_trees known trees relations)
  sound-all [] known trees a f gives = a
  sound-all (r ∷ rest) known trees a f gives =
      let counted = trees-counted known trees r.1 in
      let next = known_with known (length trees) r.0 r.1 in
      subst (λ c. AreSound (known_relations next c rest) (view_trees known trees (r ∷ rest))) counted
      (sound-all rest _ _ (step known trees r.0 r.1 a f.0 gives.0) (subst (λ c. AreWellFormed next c rest) (sym counted) f.1) gives.1)

  gives-each : (some : List (Name × Relation)) → ((number wide : ℕ) → HasTable some number wide → HasTable all number wide) → Each (λ r. Gives r.1) some
  gives-each [] among = tt
  gives-each ((name, relation.Table table) ∷ rest) among =
      (among table.number (length table.columns) (inl (refl, refl)), gives-each rest (λ number wide h. among number wide (inr h)))
  gives-each ((name, relation.View query at) ∷ rest) among = (tt, gives-each rest (λ number wide h. among number wide (inr h)))

  all-sound : AreWellFormed [] 0 all → AreSound (known_relations [] 0 all) (view_trees [] [] all)
  all-sound f = sound-all all [] [] (record { views = tt; sources = tt }) f (gives-each all (λ number wide h. h))

pub views-sound : (schema : Schema) → SchemaWellFormed schema → AreSoundViews schema.relations.entries [] (views_of schema)
views-sound schema f = (all-sound schema.relations.entries f).views

pub tree-sound : (schema : Schema) (query : Query) → SchemaWellFormed schema → WellFormed schema query → IsSoundOver schema.relations.entries (views_of schema) (tree_of schema query)
tree-sound schema query f g =
    let all = schema.relations.entries in
    let a = all-sound all f in
    query-sound (HasTable all) (HasView (views_of schema)) (known_of schema) (ok-sources all (known_of schema) (views_of schema) a.sources) query [] []
    (well_formed-resolvable query (known_of schema) g) tt

pub tree-width : (schema : Schema) (query : Query) → width (tree_of schema query) ≡ length (output_columns query (map heading (known_of schema)))
tree-width schema query = width-same (λ number wide. Unit {0}) (λ place wide. Unit {0}) (known_of schema) query []

pub ruleset laws = (views-sound, tree-sound, tree-width)
