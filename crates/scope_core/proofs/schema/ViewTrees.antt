-- There are as many trees as views.
use Rattle.std.proofs.Common.{◌≡◌, ◌+◌, List, [], ◌∷◌, length, arith}
use Rattle.std.proofs.lemmas.List.{length-append}
use Rattle.sql_model.specs.declared.schema.Relation.TheVariants as relation
use Rattle.sql_model.specs.Relations.{Relation}
use Rattle.scope_core.specs.Syntax.{RQuery}
use Rattle.scope_core.specs.Scope.{Known}
use Rattle.scope_core.specs.Resolving.{resolved}
use Rattle.scope_core.specs.Relations.{count_views}
use Rattle.scope_core.specs.ViewTrees.{trees_with}

pub trees-counted : (known : List Known) (trees : List RQuery) (r : Relation) → length (trees_with known trees r) ≡ length trees + count_views r
trees-counted known trees (relation.Table table) = omega arith
trees-counted known trees (relation.View query at) = length-append trees (resolved query known [] ∷ [])
