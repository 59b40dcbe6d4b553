use Rattle.std.proofs.Common.{take}
use Rattle.scope_core.specs.Catalogs.{Grows, IsDeclaredAt, declared_in}
use Rattle.scope_core.proofs.catalog.declare.Given as goal

abbrev pub invariant-loop-name : goal.invariant-loop-name
invariant-loop-name l =
    Grows (declared_in l.fn.declared.entries) (declared_in l.declared.entries)
    × IsDeclaredAt (declared_in l.declared.entries) (take l.name-index l.names) l.number
