use Rattle.std.proofs.Common.{◌≡◌, ◌+◌, drop}
use Rattle.scope_core.specs.Resolving.{index_of}
use Rattle.scope_core.proofs.column.index_of.Given as goal

abbrev pub invariant-loop-index : goal.invariant-loop-index
invariant-loop-index l = index_of (l.entry, l.column) l.places ≡ l.index + index_of (l.entry, l.column) (drop l.index l.places)
