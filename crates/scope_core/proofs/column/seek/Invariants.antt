use Rattle.std.proofs.Common.{◌≡◌, ◌<◌, false}
use Rattle.scope_core.specs.Lent.{levels_of}
use Rattle.scope_core.specs.Resolving.{column_from}
use Rattle.scope_core.specs.Faults.{block_meant, is_here}
use Rattle.scope_core.proofs.column.seek.Given as goal

abbrev pub invariant-loop-current : goal.invariant-loop-current
invariant-loop-current l =
    (block_meant l.qual l.name (levels_of l.levels) ≡ block_meant l.qual l.name (levels_of l.current))
    × (column_from 0 l.qual l.name (levels_of l.levels) ≡ column_from l.up l.qual l.name (levels_of l.current))
    × (l.up ≡ 0 → levels_of l.current ≡ levels_of l.levels)
    × (0 < l.up → is_here l.qual l.name (levels_of l.levels) ≡ false)
