use Rattle.std.proofs.Common.{◌≡◌}
use Rattle.scope_core.specs.Lent.{relations_of}
use Rattle.scope_core.specs.Relations.{known_of, known_relations}
use Rattle.scope_core.proofs.catalog.known_relations.Given as goal

abbrev pub invariant-loop-name : goal.invariant-loop-name
invariant-loop-name l =
    (goal.iterator-loop-name).can_next l.name-iterator × (goal.iterator-loop-name).is_finite l.name-iterator
    × (known_relations (relations_of l.known) l.views l.name-iterator ≡ known_of l.schema)
