use Rattle.std.proofs.Common.{◌≡◌, map, take}
use Rattle.u_bag.specs.Pairs.{table_of}
use Rattle.u_bag.proofs.pairs.tables_of.Given as goal

abbrev pub invariant-loop-entry : goal.invariant-loop-entry
invariant-loop-entry l = l.tables.items ≡ map table_of (take l.entry-index l.entries)
