use Rattle.std.proofs.Common.{◌≡◌, ◌+◌, drop, length}
use Rattle.scope_core.specs.Names.{occurrences}
use Rattle.scope_core.specs.Ropes.{columns_listed}
use Rattle.scope_core.proofs.basics.Occurring.{behind}
use Rattle.scope_core.proofs.basics.Ropes.{size, size_listed}
use Rattle.scope_core.proofs.rope.+find.Given as goal

abbrev pub decreases-find_among : goal.decreases-find_among
decreases-find_among l = size l.rope.now

abbrev pub decreases-find_in_parts : goal.decreases-find_in_parts
decreases-find_in_parts l = size_listed l.parts.now

abbrev pub invariant-find_in_parts-loop-index : goal.invariant-find_in_parts-loop-index
invariant-find_in_parts-loop-index l =
    (occurrences l.sought.name.now (columns_listed l.parts) ≡ behind l.before (occurrences l.sought.name.now (columns_listed (drop l.index l.parts))))
    × (l.before + length (columns_listed (drop l.index l.parts)) ≡ length (columns_listed l.parts))
