use Rattle.std.proofs.Common.{◌≡◌, ◌+◌, drop}
use Rattle.sql_model.specs.Headings.{columns_of}
use Rattle.scope_core.specs.Scope.{qualified_place}
use Rattle.scope_core.proofs.level.find_qualified.Given as goal

abbrev pub invariant-loop-index : goal.invariant-loop-index
invariant-loop-index l =
    (qualified_place l.alias l.name l.first l.headings ≡ qualified_place l.alias l.name (l.first + l.index) (drop l.index l.headings))
    × (columns_of l.alias l.headings ≡ columns_of l.alias (drop l.index l.headings))
