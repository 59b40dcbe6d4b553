use Rattle.std.proofs.Common.{◌≡◌, take, drop}
use Rattle.schema_read.specs.Faults.{repeated_fault, repetition_fault}
use Rattle.schema_read.specs.Order.{first_along}
use Rattle.schema_read.proofs.names.check_all_differ.Given as goal

abbrev pub invariant-loop-i : goal.invariant-loop-i
invariant-loop-i l = first_along repeated_fault (take l.i l.names) (drop l.i l.names) ≡ repetition_fault l.names
