-- The rows of a well-formed query over the relations of a schema are those of its tree over the trees of the views.
use Rattle.std.proofs.Common.{◌≡◌, ℕ, suc, ◌+◌, ◌<◌, List, [], ◌∷◌, ◌++◌, map, length, get_or, Some, refl, ap, sym, subst, ◌∙◌, arith}
use Rattle.std.specs.Prelude.{filter_map}
use Rattle.std.proofs.lemmas.List.{length-map}
use Rattle.data_model.specs.Lists.{Each}
use Rattle.data_model.specs.Rows.{Row}
use Rattle.data_model.specs.Reading.{Reading}
use Rattle.data_model.specs.Database.{Database, TableConstraints, table_rows}
use Rattle.sql_model.specs.declared.schema.Schema.{Schema}
use Rattle.sql_model.specs.declared.schema.Relation.TheVariants as relation
use Rattle.sql_model.specs.Syntax.{Name, Query}
use Rattle.sql_model.specs.Headings.{output_columns}
use Rattle.sql_model.specs.World.{ShownRelation}
use Rattle.sql_model.specs.Relations.{Relation, shown_relation, shown_relations}
use Rattle.sql_model.specs.Relations as named
use Rattle.sql_model.specs.Meaning as m
use Rattle.sql_model.specs.Meets.{Meets, base_table, table_constraints}
use Rattle.scope_core.specs.Syntax.{RSource, RQuery, Table as TableSource, View, Derived}
use Rattle.scope_core.specs.Scope.{Known}
use Rattle.scope_core.specs.Resolving.{resolved}
use Rattle.scope_core.specs.Relations.{known_with, known_relations, known_of}
use Rattle.scope_core.specs.ViewTrees.{trees_with, view_trees, views_of, tree_of}
use Rattle.scope_core.specs.Environments.{World, Environment}
use Rattle.scope_core.specs.Evaluation.{rows, source_rows, world_of, view_rows, answer}
use Rattle.scope_core.specs.WellFormed.{IsRelationWellFormed, AreWellFormed, SchemaWellFormed, WellFormed}
use Rattle.scope_core.proofs.basics.Each.{Each-in, Each-end}
use Rattle.scope_core.proofs.basics.Lists.{longer, get-between, get-before}
use Rattle.scope_core.proofs.rows.Wide.{IsShown, Shows, known-eq, rows-wide}
use Rattle.scope_core.proofs.rows.SameRows.{rows-same}
use Rattle.scope_core.proofs.schema.ViewTrees.{trees-counted}
use Rattle.scope_core.proofs.well_formed.Resolvability.{well_formed-resolvable}

Shows-end : (w : World) (rs : List ShownRelation) (ks : List Known) (r : ShownRelation) (k : Known) → Shows w rs ks → IsShown w r k → Shows w (rs ++ r ∷ []) (ks ++ k ∷ [])
Shows-end w [] [] r k h i = (i, tt)
Shows-end w [] (y ∷ ks) r k h i = absurd h
Shows-end w (x ∷ rs) [] r k h i = absurd h
Shows-end w (x ∷ rs) (y ∷ ks) r k h i = (h.0, Shows-end w rs ks r k h.1 i)

-- a base table, or one of so many views
abbrev IsSource : ℕ → RSource → Type 0
IsSource count (TableSource number) = Unit {0}
IsSource count (View place) = place < count
IsSource count (Derived query) = ⊥

IsSource-more : (count : ℕ) (s : RSource) → IsSource count s → IsSource (suc count) s
IsSource-more count (TableSource number) h = tt
IsSource-more count (View place) h = omega (arith, h)
IsSource-more count (Derived query) h = absurd h

-- each row of a base table is as wide as the table
abbrev pub IsWide : Database → Relation → Type 0
IsWide db (relation.Table table) = Each (λ (row : Row). length row ≡ length table.columns) (table_rows db table.number)
IsWide db (relation.View query at) = Unit {0}

module _ (n : ℕ) (reading : Reading) (db : Database) where
  abbrev over : List (List Row) → World
  over views = world_of n reading db views

  abbrev shown_by : List RQuery → List (List Row)
  shown_by trees = view_rows n reading db [] trees

  view_rows-end : (earlier : List (List Row)) (trees : List RQuery) (tree : RQuery)
      → view_rows n reading db earlier (trees ++ tree ∷ []) ≡ view_rows n reading db earlier trees ++ rows tree (over (view_rows n reading db earlier trees)) [] ∷ []
  view_rows-end earlier [] tree = refl
  view_rows-end earlier (t ∷ trees) tree = view_rows-end (earlier ++ rows t (over earlier) [] ∷ []) trees tree

  view_rows-long : (earlier : List (List Row)) (trees : List RQuery) → length (view_rows n reading db earlier trees) ≡ length earlier + length trees
  view_rows-long earlier [] = omega arith
  view_rows-long earlier (t ∷ trees) = view_rows-long (earlier ++ rows t (over earlier) [] ∷ []) trees ∙ (let e = longer earlier (rows t (over earlier) []) in omega (arith, e))

  shown_by-long : (trees : List RQuery) → length (shown_by trees) ≡ length trees
  shown_by-long trees = view_rows-long [] trees ∙ (omega arith)

  -- a later view changes nothing
  source-later : (views : List (List Row)) (view : List Row) (s : RSource) (env : Environment) → IsSource (length views) s → source_rows s (over (views ++ view ∷ [])) env ≡ source_rows s (over views) env
  unfolding rows
  source-later views view (TableSource number) env h = refl
  source-later views view (View place) env h = get-before views view [] place h
  source-later views view (Derived query) env h = absurd h

  Shows-later : (views : List (List Row)) (view : List Row) (rs : List ShownRelation) (ks : List Known) → Each (λ k. IsSource (length views) k.source) ks
      → Shows (over views) rs ks → Shows (over (views ++ view ∷ [])) rs ks
  Shows-later views view [] [] s h = tt
  Shows-later views view [] (k ∷ ks) s h = absurd h
  Shows-later views view (r ∷ rs) [] s h = absurd h
  Shows-later views view (r ∷ rs) (k ∷ ks) s h = (
    record { name = h.0.name; columns = h.0.columns; wide = h.0.wide; rows = λ env. source-later views view k.source env s.0 ∙ h.0.rows env },
    Shows-later views view rs ks s.1 h.1,
  )

  table-shown : (number : ℕ) (env : Environment) (views : List (List Row)) → source_rows (TableSource number) (over views) env ≡ table_rows db number
  unfolding rows
  table-shown number env views = refl

  view-shown : (place : ℕ) (env : Environment) (views : List (List Row)) → source_rows (View place) (over views) env ≡ get_or views place []
  unfolding rows
  view-shown place env views = refl

  -- what holds of the relations so far
  pub record Agree (shown : List ShownRelation) (known : List Known) (trees : List RQuery) : Type 0 where
    pub sources : Each (λ k. IsSource (length trees) k.source) known
    pub shows : Shows (over (shown_by trees)) shown known

  abbrev next_shown : List ShownRelation → Name → Relation → ShownRelation
  next_shown shown name r = shown_relation db (named.world_of n reading shown) name r

  step : (shown : List ShownRelation) (known : List Known) (trees : List RQuery) (name : Name) (r : Relation) → Agree shown known trees → IsRelationWellFormed known r → IsWide db r
      → Agree (shown ++ next_shown shown name r ∷ []) (known_with known (length trees) name r) (trees_with known trees r)
  step shown known trees name (relation.Table table) a f wide = record {
    sources = Each-end (λ k. IsSource (length trees) k.source) known _ a.sources tt;
    shows = Shows-end (over (shown_by trees)) shown known _ _ a.shows (record {
      name = refl;
      columns = refl;
      wide = Each-in _ _ (λ row e. e ∙ sym (length-map table.columns Some)) (table_rows db table.number) wide;
      rows = λ env. table-shown table.number env (shown_by trees);
    });
  }
  step shown known trees name (relation.View query at) a f wide =
      let tree = resolved query known [] in
      let views = shown_by trees in
      let w = named.world_of n reading shown in
      let view = rows tree (over views) [] in
      let fine = well_formed-resolvable query known f.0 in
      let same : view ≡ m.rows query w [] = rows-same w known db views a.shows query [] [] [] fine tt in
      let eq = known-eq w (over views) known a.shows in
      let long = shown_by-long trees in
      let sources : Each (λ k. IsSource (length views) k.source) known = subst (λ c. Each (λ k. IsSource c k.source) known) (sym long) a.sources in
      record {
        sources = subst (λ c. Each (λ k. IsSource c k.source) (known_with known (length trees) name (relation.View query at))) (sym (longer trees tree))
            (Each-end (λ k. IsSource (suc (length trees)) k.source) known _ (Each-in _ _ (λ k s. IsSource-more (length trees) k.source s) known a.sources) (omega arith));
        shows = subst (λ vs. Shows (over vs) (shown ++ next_shown shown name (relation.View query at) ∷ []) (known_with known (length trees) name (relation.View query at))) (sym (view_rows-end [] trees tree))
            (Shows-end (over (views ++ view ∷ [])) shown known _ _ (Shows-later views view shown known sources a.shows) (record {
              name = refl;
              columns = ap (output_columns query) eq;
              wide = rows-wide w (over views) known a.shows query [] [] fine;
              rows = λ env. view-shown (length trees) env (views ++ view ∷ []) ∙ subst (λ p. get_or (views ++ view ∷ []) p [] ≡ view) long (get-between views view [] []) ∙ same;
            }));
      }

  pub agree : (relations : List (Name × Relation)) (shown : List ShownRelation) (known : List Known) (trees : List RQuery) → Agree shown known trees
      → AreWellFormed known (length trees) relations → Each (λ r. IsWide db r.1) relations
      → Agree (shown_relations n reading db shown relations) (known_relations known (length trees) relations) (view_trees known trees relations)
  agree [] shown known trees a f wide = a
  agree (r ∷ rest) shown known trees a f wide =
      let counted = trees-counted known trees r.1 in
      let next = known_with known (length trees) r.0 r.1 in
      subst (λ c. Agree (shown_relations n reading db shown (r ∷ rest)) (known_relations next c rest) (view_trees known trees (r ∷ rest))) counted
      (agree rest _ _ _ (step shown known trees r.0 r.1 a f.0 wide.0) (subst (λ c. AreWellFormed next c rest) (sym counted) f.1) wide.1)

  -- a database that meets the schema has wide rows
  tables-wide : (relations : List (Name × Relation))
      → Each (λ (t : TableConstraints). Each (λ (row : Row). length row ≡ t.width) (table_rows db t.number)) (map table_constraints (filter_map (λ r. base_table r.1) relations))
      → Each (λ r. IsWide db r.1) relations
  tables-wide [] h = tt
  tables-wide ((name, relation.Table table) ∷ rest) h = (h.0, tables-wide rest h.1)
  tables-wide ((name, relation.View query at) ∷ rest) h = (tt, tables-wide rest h)

  pub answer-resolved : (schema : Schema) (query : Query) → SchemaWellFormed schema → WellFormed schema query → Meets schema n db
      → answer n reading db (views_of schema) (tree_of schema query) ≡ named.answer schema n reading db query
  answer-resolved schema query schema_fine fine meets =
      let a = agree schema.relations.entries [] [] [] (record { sources = tt; shows = tt }) schema_fine (tables-wide schema.relations.entries meets.widths) in
      rows-same (named.world schema n reading db) (known_of schema) db (shown_by (views_of schema)) a.shows query [] [] [] (well_formed-resolvable query (known_of schema) fine) tt

pub ruleset laws = (answer-resolved)
