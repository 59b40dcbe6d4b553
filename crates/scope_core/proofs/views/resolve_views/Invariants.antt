use Rattle.std.proofs.Common.{◌≡◌, length}
use Rattle.scope_core.specs.FirstFault.{relations_fault, schema_fault}
use Rattle.scope_core.specs.Lent.{relations_of}
use Rattle.scope_core.specs.ViewTrees.{view_trees, views_of}
use Rattle.scope_core.proofs.views.resolve_views.Given as goal

abbrev pub invariant-loop-name : goal.invariant-loop-name
invariant-loop-name l =
    (goal.iterator-loop-name).can_next l.name-iterator × (goal.iterator-loop-name).is_finite l.name-iterator
    × (relations_fault (relations_of l.known) (length l.trees.items) l.name-iterator ≡ schema_fault l.schema)
    × (view_trees (relations_of l.known) l.trees.items l.name-iterator ≡ views_of l.schema)
