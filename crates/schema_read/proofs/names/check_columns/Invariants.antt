use Rattle.std.proofs.Common.{◌≡◌, take, drop}
use Rattle.schema_read.specs.Faults.{column_fault, columns_fault}
use Rattle.schema_read.specs.Order.{first_along}
use Rattle.schema_read.proofs.names.check_columns.Given as goal

abbrev pub invariant-loop-i : goal.invariant-loop-i
invariant-loop-i l = first_along (column_fault l.columns) (take l.i l.names) (drop l.i l.names) ≡ columns_fault l.columns l.names
