-- What a schema shows under a name.
use Rattle.std.proofs.Common.{◌≡◌, ℕ, Bool, true, false, cond, List, [], ◌∷◌, ◌++◌, Some, None, Option, find, option_map, unwrap_or, refl, ap, ◌∙◌}
use Rattle.std.specs.Option.{option_or}
use Rattle.data_model.specs.Reading.{Reading}
use Rattle.data_model.specs.Database.{Database, table_rows}
use Rattle.sql_model.specs.declared.schema.Schema.{Schema}
use Rattle.sql_model.specs.declared.schema.Table.{Table}
use Rattle.sql_model.specs.declared.schema.Relation.TheVariants as relation
use Rattle.sql_model.specs.Syntax.{Name}
use Rattle.sql_model.specs.Columns.{same_name}
use Rattle.sql_model.specs.World.{ShownRelation, named_rows}
use Rattle.sql_model.specs.Relations.{Relation, relation_named, relation_rows, world_of, world, shown_relation, shown_relations}

abbrev first_of : Name → List ShownRelation → Option ShownRelation
first_of name relations = find (λ r. same_name name r.name) relations

first_of-append : (name : Name) (earlier later : List ShownRelation)
    → first_of name (earlier ++ later) ≡ option_or (first_of name earlier) (first_of name later)
first_of-append name [] later = refl
first_of-append name (r ∷ earlier) later = by (same_name name r.name) (first_of-append name earlier later)
  where
    by : (hit : Bool) → first_of name (earlier ++ later) ≡ option_or (first_of name earlier) (first_of name later)
        → cond hit (Some r) (first_of name (earlier ++ later)) ≡ option_or (cond hit (Some r) (first_of name earlier)) (first_of name later)
    by true h = refl
    by false h = h

module _ (n : ℕ) (reading : Reading) (db : Database) (name : Name) where
  -- the next relation, as it is shown after the earlier ones
  abbrev next_shown : List ShownRelation → Name × Relation → ShownRelation
  next_shown earlier next = shown_relation db (world_of n reading earlier) next.0 next.1

  first_of-next : (earlier : List ShownRelation) (next : Name × Relation) → first_of name earlier ≡ None
      → first_of name (earlier ++ next_shown earlier next ∷ []) ≡ cond (same_name name next.0) (Some (next_shown earlier next)) None
  first_of-next earlier next absent =
      first_of-append name earlier (next_shown earlier next ∷ []) ∙ ap (λ o. option_or o (first_of name (next_shown earlier next ∷ []))) absent

  -- what has the name already keeps it
  first_of-shown : (earlier : List ShownRelation) (relations : List (Name × Relation)) (r : ShownRelation)
      → first_of name earlier ≡ Some r → first_of name (shown_relations n reading db earlier relations) ≡ Some r
  first_of-shown earlier [] r h = h
  first_of-shown earlier (next ∷ rest) r h =
      let more = next_shown earlier next ∷ [] in
      first_of-shown (earlier ++ more) rest r (first_of-append name earlier more ∙ ap (λ o. option_or o (first_of name more)) h)

  table-shown : (earlier : List ShownRelation) (relations : List (Name × Relation)) (table : Table) → first_of name earlier ≡ None
      → relation_named name relations ≡ Some (relation.Table table)
      → named_rows name (world_of n reading (shown_relations n reading db earlier relations)) ≡ table_rows db table.number
  table-shown earlier [] table absent named = cc
  table-shown earlier (next ∷ rest) table absent named =
      by (same_name name next.0) named (first_of-next earlier next absent) (table-shown (earlier ++ next_shown earlier next ∷ []) rest table)
    where
      by : (hit : Bool) → cond hit (Some next.1) (relation_named name rest) ≡ Some (relation.Table table)
          → first_of name (earlier ++ next_shown earlier next ∷ []) ≡ cond hit (Some (next_shown earlier next)) None
          → (first_of name (earlier ++ next_shown earlier next ∷ []) ≡ None → relation_named name rest ≡ Some (relation.Table table)
          → named_rows name (world_of n reading (shown_relations n reading db earlier (next ∷ rest))) ≡ table_rows db table.number)
          → named_rows name (world_of n reading (shown_relations n reading db earlier (next ∷ rest))) ≡ table_rows db table.number
      by true here first others =
          let is_table : next.1 ≡ relation.Table table = cc in
          let stays = first_of-shown (earlier ++ next_shown earlier next ∷ []) rest (next_shown earlier next) first in
          ap (λ o. unwrap_or (option_map (λ r. r.rows) o) []) stays ∙ ap (relation_rows db (world_of n reading earlier)) is_table
      by false later first others = others first later

-- The first relation of a name shows its rows, if it is a base table.
pub named_rows-table : (schema : Schema) (n : ℕ) (reading : Reading) (db : Database) (name : Name) (table : Table)
    → relation_named name schema.relations.entries ≡ Some (relation.Table table)
    → named_rows name (world schema n reading db) ≡ table_rows db table.number
named_rows-table schema n reading db name table named = table-shown n reading db name [] schema.relations.entries table refl named
