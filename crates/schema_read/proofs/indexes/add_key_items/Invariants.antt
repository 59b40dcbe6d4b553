use Rattle.std.proofs.Common.{◌≡◌, take}
use Rattle.schema_read.specs.Building.{items_with_key}
use Rattle.schema_read.proofs.indexes.add_key_items.Given as goal

abbrev pub invariant-loop-place : goal.invariant-loop-place
invariant-loop-place l = l.items ≡ items_with_key l.shown l.at l.table l.initial.items (take l.place-index l.key)
