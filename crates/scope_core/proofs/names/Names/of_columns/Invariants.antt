use Rattle.std.proofs.Common.{◌≡◌, take}
use Rattle.scope_core.specs.Names.{names_of}
use Rattle.scope_core.proofs.names.Names.of_columns.Given as goal

abbrev pub invariant-loop-name : goal.invariant-loop-name
invariant-loop-name l = l.names ≡ names_of (take l.name-index l.columns)
