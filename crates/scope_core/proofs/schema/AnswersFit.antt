-- The rows of the views and of a tree over them, on a database that meets the schema.
use Rattle.std.proofs.Common.{◌≡◌, ℕ, suc, ◌<◌, ◌≤◌, List, [], ◌∷◌, ◌++◌, map, length, get_or, refl, ap, sym, subst, ◌∙◌, arith, inl, inr, append_assoc}
use Rattle.std.proofs.lemmas.List.{append-nil}
use Rattle.std.specs.Prelude.{filter_map}
use Rattle.data_model.specs.Lists.{Each}
use Rattle.data_model.specs.Rows.{Row, IsRow, AllBelow}
use Rattle.data_model.specs.Reading.{Reading, IsOn, literal_value, function_value, aggregate_value}
use Rattle.data_model.specs.Database.{Database, TableConstraints, table_rows}
use Rattle.data_model.proofs.Domains.{literal_value-below, function_value-below, aggregate_value-below}
use Rattle.sql_model.specs.declared.schema.Schema.{Schema}
use Rattle.sql_model.specs.declared.schema.Relation.TheVariants as relation
use Rattle.sql_model.specs.Syntax.{Name}
use Rattle.sql_model.specs.Relations.{Relation}
use Rattle.sql_model.specs.Meets.{Meets, base_table, table_constraints}
use Rattle.scope_core.specs.Syntax.{RQuery}
use Rattle.scope_core.specs.Width.{width}
use Rattle.scope_core.specs.Evaluation.{rows, world_of, view_rows, answer}
use Rattle.scope_core.specs.Fitting.{HasTable, HasView, IsSoundOver, AreSoundViews}
use Rattle.scope_core.proofs.basics.Lists.{longer, get-between, get-before}
use Rattle.scope_core.proofs.schema.FittingTrees.{HasView-in, HasView-cases}
use Rattle.scope_core.proofs.rows.RowsFit.{IsWorld, rows-fit}

-- ---- what is asked of the reading and the tables
pub record IsBase (n : ℕ) (reading : Reading) (db : Database) (IsTable : ℕ → ℕ → Type 0) : Type 0 where
  pub lit : (k : ℕ) → literal_value reading k < n
  pub fun : (k : ℕ) (vs : List ℕ) → function_value reading k vs < n
  pub agg : (k : ℕ) (vs : List ℕ) → aggregate_value reading k vs < n
  pub table : (number wide : ℕ) → IsTable number wide → Each (IsRow n wide) (table_rows db number)

rows-are : (n wide : ℕ) (rs : List Row) → Each (λ (row : Row). length row ≡ wide) rs → Each (AllBelow n) rs → Each (IsRow n wide) rs
rows-are n wide [] h k = tt
rows-are n wide (r ∷ rs) h k = (record { long = h.0; small = k.0 }, rows-are n wide rs h.1 k.1)

tables-are : (n : ℕ) (db : Database) (relations : List (Name × Relation)) (number wide : ℕ)
    → Each (λ (t : TableConstraints). Each (λ (row : Row). length row ≡ t.width) (table_rows db t.number)) (map table_constraints (filter_map (λ r. base_table r.1) relations))
    → Each (λ (t : TableConstraints). Each (AllBelow n) (table_rows db t.number)) (map table_constraints (filter_map (λ r. base_table r.1) relations))
    → HasTable relations number wide → Each (IsRow n wide) (table_rows db number)
tables-are n db [] number wide h k has = absurd has
tables-are n db ((name, relation.Table table) ∷ rest) number wide h k (inl here) =
    subst (λ i. Each (IsRow n wide) (table_rows db i)) here.0
    (subst (λ j. Each (IsRow n j) (table_rows db table.number)) here.1 (rows-are n (length table.columns) (table_rows db table.number) h.0 k.0))
tables-are n db ((name, relation.Table table) ∷ rest) number wide h k (inr later) = tables-are n db rest number wide h.1 k.1 later
tables-are n db ((name, relation.View query at) ∷ rest) number wide h k (inl here) = absurd here
tables-are n db ((name, relation.View query at) ∷ rest) number wide h k (inr later) = tables-are n db rest number wide h k later

pub base-of : (schema : Schema) (n : ℕ) (reading : Reading) (db : Database) → 1 ≤ n → IsOn n reading → Meets schema n db → IsBase n reading db (HasTable schema.relations.entries)
base-of schema n reading db some on meets = record {
  lit = literal_value-below n some reading on;
  fun = function_value-below n some reading on;
  agg = aggregate_value-below n some reading on;
  table = λ number wide has. tables-are n db schema.relations.entries number wide meets.widths meets.values has;
}

-- ---- views
module _ (n : ℕ) (reading : Reading) (db : Database) (relations : List (Name × Relation)) (base : IsBase n reading db (HasTable relations)) where
  -- the rows of the views are as wide as the views
  pub record DoRowsFit (trees : List RQuery) (shown : List (List Row)) : Type 0 where
    pub long : length shown ≡ length trees
    pub fit : (place wide : ℕ) → HasView trees place wide → Each (IsRow n wide) (get_or shown place [])

  pub is_world : (trees : List RQuery) (shown : List (List Row)) → DoRowsFit trees shown → IsWorld n (world_of n reading db shown) (HasTable relations) (HasView trees)
  is_world trees shown s = record { lit = base.lit; fun = base.fun; agg = base.agg; table = base.table; view = s.fit }

  pub no_rows : DoRowsFit [] []
  no_rows = record { long = refl; fit = λ place wide h. absurd h }

  pub one-more : (trees : List RQuery) (shown : List (List Row)) (tree : RQuery) → DoRowsFit trees shown → IsSoundOver relations trees tree
      → DoRowsFit (trees ++ tree ∷ []) (shown ++ rows tree (world_of n reading db shown) [] ∷ [])
  one-more trees shown tree s sound =
      let rs = rows tree (world_of n reading db shown) [] in
      let last_rows : get_or (shown ++ rs ∷ []) (length trees) [] ≡ rs = subst (λ l. get_or (shown ++ rs ∷ []) l [] ≡ rs) s.long (get-between shown rs [] []) in
      let fit = rows-fit n (world_of n reading db shown) (HasTable relations) (HasView trees) (is_world trees shown s) tree [] [] sound tt in
      record {
        long = longer shown rs ∙ ap suc s.long ∙ sym (longer trees tree);
        fit = λ place wide h. elim (HasView-cases trees tree place wide h) [
          | inl before ↦
              let lt = HasView-in trees place wide before in
              subst (Each (IsRow n wide)) (sym (get-before shown rs [] place (omega (arith, lt, s.long)))) (s.fit place wide before)
          | inr last ↦ subst (λ p. Each (IsRow n wide) (get_or (shown ++ rs ∷ []) p [])) last.0
              (subst (Each (IsRow n wide)) (sym last_rows) (subst (λ l. Each (IsRow n l) rs) last.1 fit))
        ];
      }

  all-rows : (rest earlier : List RQuery) (shown : List (List Row)) → DoRowsFit earlier shown → AreSoundViews relations earlier rest
      → DoRowsFit (earlier ++ rest) (view_rows n reading db shown rest)
  all-rows [] earlier shown s sound = subst (λ trees. DoRowsFit trees shown) (sym (append-nil earlier)) s
  all-rows (t ∷ rest) earlier shown s sound =
      subst (λ trees. DoRowsFit trees (view_rows n reading db shown (t ∷ rest))) (append_assoc earlier (t ∷ []) rest)
      (all-rows rest (earlier ++ t ∷ []) _ (one-more earlier shown t s sound.0) sound.1)

  tree-rows : (views : List RQuery) (tree : RQuery) → AreSoundViews relations [] views → IsSoundOver relations views tree
      → Each (IsRow n (width tree)) (answer n reading db views tree)
  tree-rows views tree views_sound sound =
      let shown = view_rows n reading db [] views in
      rows-fit n (world_of n reading db shown) (HasTable relations) (HasView views) (is_world views shown (all-rows views [] [] no_rows views_sound)) tree [] [] sound tt

pub rows-are-wide : (schema : Schema) (views : List RQuery) (tree : RQuery) (n : ℕ) (reading : Reading) (db : Database)
    → AreSoundViews schema.relations.entries [] views → IsSoundOver schema.relations.entries views tree → 1 ≤ n → IsOn n reading → Meets schema n db
    → Each (IsRow n (width tree)) (answer n reading db views tree)
rows-are-wide schema views tree n reading db views_sound sound some on meets =
    tree-rows n reading db schema.relations.entries (base-of schema n reading db some on meets) views tree views_sound sound

pub ruleset laws = (rows-are-wide)
