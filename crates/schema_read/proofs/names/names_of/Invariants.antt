use Rattle.std.proofs.Common.{◌≡◌, take}
use Rattle.schema_read.specs.Tables.{names_of}
use Rattle.schema_read.proofs.names.names_of.Given as goal

abbrev pub invariant-loop-name : goal.invariant-loop-name
invariant-loop-name l = l.copies.items ≡ names_of (take l.name-index l.names)
