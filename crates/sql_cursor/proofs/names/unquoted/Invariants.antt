use Rattle.std.proofs.Common.{◌≡◌, false, drop}
use Rattle.sql_cursor.specs.Unquoting.{behind, unquoted}
use Rattle.sql_cursor.proofs.names.unquoted.Given as goal

abbrev pub invariant-loop-byte : goal.invariant-loop-byte
invariant-loop-byte l = behind l.inside.items (unquoted l.mark l.marked (drop l.byte-index l.bytes)) ≡ unquoted l.mark false l.bytes
