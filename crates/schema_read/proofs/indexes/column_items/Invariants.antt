use Rattle.std.proofs.Common.{◌≡◌, take, map}
use Rattle.schema_read.specs.Indexes.{column_item}
use Rattle.schema_read.proofs.indexes.column_items.Given as goal

abbrev pub invariant-loop-column : goal.invariant-loop-column
invariant-loop-column l = l.items ≡ map column_item (take l.column-index l.columns)
