use Rattle.std.proofs.Common.{◌≡◌, ◌<◌, take, drop}
use Rattle.data_model.specs.Lists.{Each}
use Rattle.schema_read.specs.Sets.{column_set}
use Rattle.schema_read.proofs.sets.column_set.Given as goal

abbrev pub invariant-loop-column : goal.invariant-loop-column
invariant-loop-column l = record {
  set : l.set ≡ column_set (take l.column-index l.columns);
  small : Each (λ column. column < 64) (drop l.column-index l.columns);
}
