-- `SELECT * FROM name` has the rows of the relation.
use Rattle.std.proofs.Common.{◌≡◌, ℕ, true, false, ◌&&◌, List, [], ◌∷◌, ◌++◌, map, filter, Some, refl, ap, ◌∙◌}
use Rattle.std.proofs.lemmas.List.{append-nil}
use Rattle.data_model.specs.Rows.{Row, product}
use Rattle.data_model.specs.Reading.{Reading}
use Rattle.data_model.specs.Database.{Database, table_rows}
use Rattle.sql_model.specs.declared.schema.Schema.{Schema}
use Rattle.sql_model.specs.declared.schema.Table.{Table}
use Rattle.sql_model.specs.declared.schema.Relation.TheVariants as relation
use Rattle.sql_model.specs.Syntax.{Name, ItemThen, NoItems, Star, EntryThen, NoEntries, Named, NoCondition}
use Rattle.sql_model.specs.Frames.{BoundEntry, Environment, frame_of}
use Rattle.sql_model.specs.Headings.{source_columns}
use Rattle.sql_model.specs.World.{World, named_rows, relation_headings}
use Rattle.sql_model.specs.Meaning.{rows, output_row, joins_hold}
use Rattle.sql_model.specs.Relations.{relation_named, world, answer}
use Rattle.sql_model.specs.SelectStar.{select_star}
use Rattle.sql_model.specs.Compute.{everything}
use Rattle.sql_model.proofs.Relations.{named_rows-table}

filter-true : {X : Type 0} (xs : List X) → filter (λ x. true) xs ≡ xs
filter-true [] = refl
filter-true (x ∷ xs) = ap (λ ys. x ∷ ys) (filter-true xs)

module _ (name alias : Name) (star_at name_at at : ℕ) (w : World) (env : Environment) where
  abbrev bound_to : Row → BoundEntry
  bound_to r = record { alias = alias; columns = source_columns (Named name name_at) (relation_headings w); row = r }

  -- what the block makes of the rows of its one entry
  abbrev rows_made : List Row → List Row
  rows_made R =
      map (λ f. output_row (ItemThen (Star star_at) NoItems) w (f ∷ env))
      (map frame_of
      (filter (λ c. joins_hold (EntryThen (Named name name_at) alias at false NoCondition NoEntries) c [] w env && true)
      (product (map bound_to R ∷ []))))

  rows_made-all : (R : List Row) → rows_made R ≡ R
  unfolding everything
  rows_made-all [] = refl
  rows_made-all (r ∷ R) = λ i. (append-nil (r ++ []) ∙ append-nil r) i ∷ rows_made-all R i

  pub rows-select_star : rows (select_star name alias star_at name_at at) w env ≡ named_rows name w
  unfolding everything
  rows-select_star =
      ap (map (λ f. output_row (ItemThen (Star star_at) NoItems) w (f ∷ env))) (filter-true _) ∙ rows_made-all (named_rows name w)

-- so it answers the rows of a base table
pub answer-select_star : (schema : Schema) (n : ℕ) (reading : Reading) (db : Database)
    (name alias : Name) (star_at name_at at : ℕ) (table : Table)
    → relation_named name schema.relations.entries ≡ Some (relation.Table table)
    → answer schema n reading db (select_star name alias star_at name_at at) ≡ table_rows db table.number
answer-select_star schema n reading db name alias star_at name_at at table named =
    rows-select_star name alias star_at name_at at (world schema n reading db) [] ∙ named_rows-table schema n reading db name table named

pub ruleset laws = (rows-select_star, answer-select_star)
