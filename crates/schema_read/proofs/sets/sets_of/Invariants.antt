use Rattle.std.proofs.Common.{◌<◌, take, drop}
use Rattle.data_model.specs.Lists.{Each}
use Rattle.schema_read.specs.Known.{AreSetsOf}
use Rattle.schema_read.proofs.sets.sets_of.Given as goal

abbrev pub invariant-loop-key : goal.invariant-loop-key
invariant-loop-key l = record {
  sets : AreSetsOf (take l.key-index l.keys) l.sets.keys;
  small : Each (Each (λ column. column < 64)) (drop l.key-index l.keys);
}
