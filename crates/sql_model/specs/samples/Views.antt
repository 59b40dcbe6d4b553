-- Views, and what they show on a database.
use Rattle.std.specs.Prelude.{◌≡◌, refl, List, [], ◌∷◌, Some, None}
use Rattle.data_model.specs.Database.{Database}
use Rattle.sql_model.specs.declared.schema.Relation.TheVariants as relation
use Rattle.sql_model.specs.Syntax.{Name, Value, UnionAll}
use Rattle.sql_model.specs.Meaning.{rows}
use Rattle.sql_model.specs.Relations.{Relation, world_of, shown_relations}
use Rattle.sql_model.specs.Compute.{everything}
use Rattle.sql_model.specs.samples.Forms.{select, only, from, set, bare, reading, r, a, b, x, y}

-- CREATE TABLE r (a, b); CREATE VIEW x AS SELECT b FROM r; CREATE VIEW y AS SELECT b AS a FROM x UNION ALL SELECT a FROM r
abbrev relations : List (Name × Relation)
unfolding everything
relations =
    (r, relation.Table (record { number = 0; columns = a ∷ b ∷ []; keys = []; primary = None }))
    ∷ (x, relation.View (select (only (bare b)) (from r r ∷ [])) 0)
    ∷ (y, relation.View (set UnionAll (select (Value (bare b) (Some a) ∷ []) (from x x ∷ [])) (select (only (bare a)) (from r r ∷ []))) 0) ∷ []

abbrev db : Database
db = record { table = 0; rows = (0 ∷ 1 ∷ []) ∷ (0 ∷ 2 ∷ []) ∷ [] } ∷ []

-- SELECT a FROM y
a_view_shows_its_query : rows (select (only (bare a)) (from y y ∷ [])) (world_of 4 reading (shown_relations 4 reading db [] relations)) []
    ≡ (1 ∷ []) ∷ (2 ∷ []) ∷ (0 ∷ []) ∷ (0 ∷ []) ∷ []
unfolding everything
a_view_shows_its_query = refl
