-- Views, and what they show on a database.
use Rattle.std.specs.Prelude.{◌≡◌, refl, List, [], ◌∷◌, Some, None}
use Rattle.sql_model.specs.declared.schema.Relation.TheVariants as relation
use Rattle.sql_model.specs.Syntax.{Name, Value, UnionAll}
use Rattle.sql_model.specs.Relations.{Relation}
use Rattle.sql_model.specs.samples.Forms.{select, only, from, set, bare, reading, r, a, b, x, y}
use Rattle.scope_core.specs.declared.tree.RSource.TheVariants as source
use Rattle.scope_core.specs.declared.tree.RQuery.TheVariants as query
use Rattle.scope_core.specs.declared.tree.REntry.{REntry, roll-REntry}
use Rattle.scope_core.specs.Syntax.{RQuery, Col}
use Rattle.scope_core.specs.Resolving.{resolved}
use Rattle.scope_core.specs.Relations.{known_relations}
use Rattle.scope_core.specs.ViewTrees.{view_trees}
use Rattle.scope_core.specs.Evaluation.{answer}
use Rattle.scope_core.specs.FirstFault.{relations_fault}
use Rattle.scope_core.specs.Compute.{resolving}
use Rattle.scope_core.specs.samples.Trees.{db, entry, plain}

-- CREATE TABLE r (a, b); CREATE VIEW x AS SELECT b FROM r; CREATE VIEW y AS SELECT b AS a FROM x UNION ALL SELECT a FROM r
abbrev relations : List (Name × Relation)
unfolding resolving
relations =
    (r, relation.Table (record { number = 0; columns = a ∷ b ∷ []; keys = []; primary = None }))
    ∷ (x, relation.View (select (only (bare b)) (from r r ∷ [])) 0)
    ∷ (y, relation.View (set UnionAll (select (Value (bare b) (Some a) ∷ []) (from x x ∷ [])) (select (only (bare a)) (from r r ∷ []))) 0) ∷ []

abbrev view : REntry
view = roll-REntry (record { source = source.View 0; width = 1 })

a_view_sees_those_before_it : view_trees [] [] relations
    ≡ plain (entry 0 2 ∷ []) [] (Col 0 0 1 ∷ [])
    ∷ query.Set UnionAll (plain (view ∷ []) [] (Col 0 0 0 ∷ [])) (plain (entry 0 2 ∷ []) [] (Col 0 0 0 ∷ [])) ∷ []
unfolding resolving
a_view_sees_those_before_it = refl

-- SELECT a FROM y
abbrev over_views : RQuery
unfolding resolving
over_views = resolved (select (only (bare a)) (from y y ∷ [])) (known_relations [] 0 relations) []

a_view_shows_its_query : answer 4 reading db (view_trees [] [] relations) over_views
    ≡ (1 ∷ []) ∷ (2 ∷ []) ∷ (1 ∷ []) ∷ (0 ∷ []) ∷ (0 ∷ []) ∷ (1 ∷ []) ∷ []
unfolding resolving
a_view_shows_its_query = refl

they_have_no_fault : relations_fault [] 0 relations ≡ None
unfolding resolving
they_have_no_fault = refl
