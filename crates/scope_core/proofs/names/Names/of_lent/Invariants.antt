use Rattle.std.proofs.Common.{◌≡◌, Some, map, take}
use Rattle.scope_core.proofs.names.Names.of_lent.Given as goal

abbrev pub invariant-loop-name : goal.invariant-loop-name
invariant-loop-name l = l.names ≡ map (λ name. Some name.now) (take l.name-index l.lent)
