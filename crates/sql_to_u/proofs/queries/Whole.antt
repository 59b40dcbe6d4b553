-- The term of a tree that stands by itself, over the terms of the views.
use Rattle.std.proofs.Common.{◌≡◌, ℕ, zero, suc, ◌+◌, ◌≤◌, List, [], ◌∷◌, ◌++◌, length, get_or, refl, ap, sym, subst, ◌∙◌, arith, inl, inr, append_assoc}
use Rattle.std.proofs.lemmas.List.{append-nil}
use Rattle.data_model.specs.Rows.{Row, occurrences}
use Rattle.data_model.specs.Reading.{Reading, IsOn}
use Rattle.data_model.specs.Database.{Database}
use Rattle.sql_model.specs.declared.schema.Schema.{Schema}
use Rattle.sql_model.specs.Syntax.{Name, Query}
use Rattle.sql_model.specs.Relations.{Relation}
use Rattle.sql_model.specs.Relations as named
use Rattle.sql_model.specs.Meets.{Meets}
use Rattle.u_terms.specs.Syntax.{U, Val}
use Rattle.u_terms.specs.declared.term.U.TheVariants as u
use Rattle.u_terms.specs.Places.{IsClosed}
use Rattle.u_terms.specs.Meaning.{meaning}
use Rattle.scope_core.specs.Syntax.{RQuery}
use Rattle.scope_core.specs.Width.{width}
use Rattle.scope_core.specs.Evaluation.{rows, world_of, view_rows, answer}
use Rattle.scope_core.specs.Fitting.{HasTable, HasView, IsSoundOver, AreSoundViews}
use Rattle.scope_core.specs.ViewTrees.{views_of, tree_of}
use Rattle.scope_core.specs.WellFormed.{SchemaWellFormed, WellFormed}
use Rattle.scope_core.proofs.basics.Lists.{longer, get-between, get-before}
use Rattle.scope_core.proofs.schema.Relations.{answer-resolved}
use Rattle.scope_core.proofs.schema.SoundTrees.{views-sound, tree-sound}
use Rattle.scope_core.proofs.schema.FittingTrees.{HasView-in, HasView-cases}
use Rattle.scope_core.proofs.schema.AnswersFit.{IsBase, base-of, DoRowsFit, is_world, no_rows, one-more}
use Rattle.sql_to_u.specs.Factors.{names_from}
use Rattle.sql_to_u.specs.Translation.{TermAt}
use Rattle.sql_to_u.specs.Answer.{view_term, view_terms, translation}
use Rattle.sql_to_u.proofs.names.Closed.{AreClosedValues, AreClosedViews, names-closed, closed-Zero, query-closed}
use Rattle.sql_to_u.proofs.meaning.Products.{mean, names-stand}
use Rattle.sql_to_u.proofs.meaning.Means.{AreViews, query-means}

-- ---- nothing dangles
closed-end : (terms : List TermAt) (term : TermAt) → AreClosedViews terms → ((row : List Val) (next : ℕ) → AreClosedValues row → IsClosed 0 (term row next))
    → AreClosedViews (terms ++ term ∷ [])
closed-end [] term h c zero row next k = c row next k
closed-end [] term h c (suc place) row next k = closed-Zero
closed-end (t ∷ terms) term h c zero row next k = h zero row next k
closed-end (t ∷ terms) term h c (suc place) row next k = closed-end terms term (λ p. h (suc p)) c place row next k

views-closed : (terms : List TermAt) (trees : List RQuery) → AreClosedViews terms → AreClosedViews (view_terms terms trees)
views-closed terms [] h = h
views-closed terms (tree ∷ rest) h =
    views-closed (terms ++ view_term terms tree ∷ []) rest
    (closed-end terms (view_term terms tree) h (λ row next k. query-closed terms h tree [] row next tt k))

no-views-closed : AreClosedViews []
no-views-closed place row next k = closed-Zero

pub translation-closed : (views : List RQuery) (tree : RQuery) → IsClosed 0 (translation views tree)
translation-closed views tree =
    query-closed (view_terms [] views) (views-closed [] views no-views-closed) tree [] (names_from 0 (width tree)) (width tree) tt (names-closed 0 (width tree))

-- ---- views
module _ (n : ℕ) (reading : Reading) (db : Database) (relations : List (Name × Relation)) (base : IsBase n reading db (HasTable relations)) where
  abbrev nothing : List Val → ℕ → U
  nothing row next = u.Zero

  record Shown (trees : List RQuery) (terms : List TermAt) (shown : List (List Row)) : Type 0 where
    pub long : length terms ≡ length trees
    pub rows_fit : DoRowsFit n reading db relations base trees shown
    pub are : AreViews n reading db shown (HasTable relations) (HasView trees) terms

  more : (trees : List RQuery) (terms : List TermAt) (shown : List (List Row)) (t : RQuery) → Shown trees terms shown → IsSoundOver relations trees t
      → Shown (trees ++ t ∷ []) (terms ++ view_term terms t ∷ []) (shown ++ rows t (world_of n reading db shown) [] ∷ [])
  more trees terms shown t s sound =
      let new : TermAt = view_term terms t in
      let rs = rows t (world_of n reading db shown) [] in
      let ok = is_world n reading db relations base trees shown s.rows_fit in
      let last_rows : get_or (shown ++ rs ∷ []) (length trees) [] ≡ rs = subst (λ l. get_or (shown ++ rs ∷ []) l [] ≡ rs) s.rows_fit.long (get-between shown rs [] []) in
      let last_term : get_or (terms ++ new ∷ []) (length trees) nothing ≡ new = subst (λ l. get_or (terms ++ new ∷ []) l nothing ≡ new) s.long (get-between terms new [] nothing) in
      record {
        long = longer terms new ∙ ap suc s.long ∙ sym (longer trees t);
        rows_fit = one-more n reading db relations base trees shown t s.rows_fit sound;
        are = record {
          closed = closed-end terms new s.are.closed (λ row next k. query-closed terms s.are.closed t [] row next tt k);
          count = λ place wide h names d vs r c long st. elim (HasView-cases trees t place wide h) [
            | inl before ↦
                let lt = HasView-in trees place wide before in
                let f = get-before terms new nothing place (omega (arith, lt, s.long)) in
                let g = get-before shown rs [] place (omega (arith, lt, s.rows_fit.long)) in
                ap (λ q. mean n reading db names (q vs d)) f ∙ s.are.count place wide before names d vs r c long st ∙ ap (occurrences r) (sym g)
            | inr last ↦ subst (λ p. mean n reading db names (get_or (terms ++ new ∷ []) p nothing vs d) ≡ occurrences r (get_or (shown ++ rs ∷ []) p [])) last.0
                (ap (λ q. mean n reading db names (q vs d)) last_term
                ∙ query-means n reading db shown (HasTable relations) (HasView trees) terms ok s.are t [] [] [] names d vs r sound tt tt tt c (long ∙ sym last.1) st
                ∙ ap (occurrences r) (sym last_rows))
          ];
        };
      }

  all_shown : (rest earlier : List RQuery) (terms : List TermAt) (shown : List (List Row)) → Shown earlier terms shown → AreSoundViews relations earlier rest
      → Shown (earlier ++ rest) (view_terms terms rest) (view_rows n reading db shown rest)
  all_shown [] earlier terms shown s sound = subst (λ trees. Shown trees terms shown) (sym (append-nil earlier)) s
  all_shown (t ∷ rest) earlier terms shown s sound =
      subst (λ trees. Shown trees (view_terms terms (t ∷ rest)) (view_rows n reading db shown (t ∷ rest))) (append_assoc earlier (t ∷ []) rest)
      (all_shown rest (earlier ++ t ∷ []) _ _ (more earlier terms shown t s sound.0) sound.1)

  no_views : Shown [] [] []
  no_views = record {
    long = refl;
    rows_fit = no_rows n reading db relations base;
    are = record { closed = no-views-closed; count = λ place wide h names d vs r c long st. absurd h };
  }

  -- of resolved trees
  pub translation-counts : (views : List RQuery) (tree : RQuery) (r : Row) → AreSoundViews relations [] views → IsSoundOver relations views tree → length r ≡ width tree
      → meaning n reading db r [] (translation views tree) ≡ occurrences r (answer n reading db views tree)
  translation-counts views tree r views_sound sound long =
      let s = all_shown views [] [] [] no_views views_sound in
      let shown = view_rows n reading db [] views in
      query-means n reading db shown (HasTable relations) (HasView views) (view_terms [] views) (is_world n reading db relations base views shown s.rows_fit) s.are
      tree [] [] [] r (width tree) (names_from 0 (width tree)) r sound tt tt tt (names-closed 0 (width tree)) long
      (names-stand n reading db r 0 (width tree) (width tree) r long (λ i lt. let e : 0 + i ≡ i = omega arith in (omega (arith, lt, long), ap (λ j. get_or r j 0) e)))

-- ---- the theorem
pub tree-counts : (schema : Schema) (views : List RQuery) (tree : RQuery) (n : ℕ) (reading : Reading) (db : Database) (r : Row)
    → AreSoundViews schema.relations.entries [] views → IsSoundOver schema.relations.entries views tree
    → 1 ≤ n → IsOn n reading → Meets schema n db → length r ≡ width tree
    → meaning n reading db r [] (translation views tree) ≡ occurrences r (answer n reading db views tree)
tree-counts schema views tree n reading db r views_sound sound some on meets long =
    translation-counts n reading db schema.relations.entries (base-of schema n reading db some on meets) views tree r views_sound sound long

pub query-counts : (schema : Schema) (query : Query) (n : ℕ) (reading : Reading) (db : Database) (r : Row)
    → SchemaWellFormed schema → WellFormed schema query → 1 ≤ n → IsOn n reading → Meets schema n db → length r ≡ width (tree_of schema query)
    → meaning n reading db r [] (translation (views_of schema) (tree_of schema query)) ≡ occurrences r (named.answer schema n reading db query)
query-counts schema query n reading db r schema_fine fine some on meets long =
    tree-counts schema (views_of schema) (tree_of schema query) n reading db r (views-sound schema schema_fine) (tree-sound schema query schema_fine fine) some on meets long
    ∙ ap (occurrences r) (answer-resolved n reading db schema query schema_fine fine meets)

pub ruleset laws = (translation-closed, tree-counts, query-counts)
