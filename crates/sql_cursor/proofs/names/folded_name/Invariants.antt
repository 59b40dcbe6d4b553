use Rattle.std.proofs.Common.{◌≡◌, map, take}
use Rattle.sql_lex.specs.Bytes.{folded_byte}
use Rattle.sql_cursor.proofs.names.folded_name.Given as goal

abbrev pub invariant-loop-byte : goal.invariant-loop-byte
invariant-loop-byte l = l.name ≡ map folded_byte (take l.byte-index l.text)
