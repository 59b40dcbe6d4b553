use Rattle.std.proofs.Common.{◌≡◌, ◌+◌, drop}
use Rattle.std.specs.List.{flat_map}
use Rattle.scope_core.specs.Faults.{count_called}
use Rattle.scope_core.specs.Scope.{bare_place}
use Rattle.scope_core.proofs.level.find_bare.Given as goal

abbrev pub invariant-loop-index : goal.invariant-loop-index
invariant-loop-index l =
    (bare_place l.name l.first l.headings ≡ bare_place l.name (l.first + l.index) (drop l.index l.headings))
    × (count_called l.name (flat_map (λ h. h.columns) l.headings) ≡ count_called l.name (flat_map (λ h. h.columns) (drop l.index l.headings)))
