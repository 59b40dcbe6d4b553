use Rattle.std.proofs.Common.{◌≡◌, ◌≤◌, take, length, map}
use Rattle.schema_read.specs.Building.{keys_after}
use Rattle.schema_read.specs.Sets.{column_set}
use Rattle.schema_read.proofs.keys.own_keys.Given as goal

abbrev pub invariant-loop-rule : goal.invariant-loop-rule
invariant-loop-rule l = record {
  keys : l.keys ≡ keys_after l.columns l.primary (take l.rule-index l.rules);
  sets : l.sets.keys ≡ map column_set l.keys;
  few : length l.keys ≤ l.rule-index;
}
