-- The trees of the views of a schema, in order of declaration, and that of a query over the schema.
use Rattle.std.specs.Prelude.{◌≡◌, List, [], ◌∷◌, ◌++◌, length}
use Rattle.sql_model.specs.Syntax.{Name, Query}
use Rattle.sql_model.specs.declared.schema.Schema.{Schema}
use Rattle.sql_model.specs.declared.schema.Relation.TheVariants as relation
use Rattle.sql_model.specs.Relations.{Relation}
use Rattle.scope_core.specs.Syntax.{RQuery}
use Rattle.scope_core.specs.Scope.{Known}
use Rattle.scope_core.specs.Resolving.{resolved}
use Rattle.scope_core.specs.Relations.{known_with, known_of}

-- after a relation, the views before which have these trees
abbrev pub trees_with : List Known → List RQuery → Relation → List RQuery
trees_with known trees (relation.Table table) = trees
trees_with known trees (relation.View query at) = trees ++ resolved query known [] ∷ []

-- after all of these
abbrev pub view_trees : List Known → List RQuery → List (Name × Relation) → List RQuery
view_trees known trees [] = trees
view_trees known trees (r ∷ rest) = view_trees (known_with known (length trees) r.0 r.1) (trees_with known trees r.1) rest

abbrev pub views_of : Schema → List RQuery
views_of schema = view_trees [] [] schema.relations.entries

-- the tree of a query that stands by itself
abbrev pub tree_of : Schema → Query → RQuery
tree_of schema query = resolved query (known_of schema) []

abbrev pub Resolves : Schema → Query → RQuery → Type 0
Resolves schema query tree = tree ≡ tree_of schema query
