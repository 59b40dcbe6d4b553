use Rattle.std.proofs.Common.{◌≡◌, ◌+◌, length, drop}
use Rattle.scope_core.specs.RelationSets.{union_of}
use Rattle.scope_core.specs.Ropes.{columns_listed, shown_listed}
use Rattle.scope_core.proofs.directed.extent_of.Given as goal

abbrev pub invariant-loop-part : goal.invariant-loop-part
invariant-loop-part l =
    (l.width + length (columns_listed (drop l.part-index l.parts)) ≡ length (columns_listed l.parts))
    × (union_of l.shown (shown_listed (drop l.part-index l.parts)) ≡ shown_listed l.parts)
