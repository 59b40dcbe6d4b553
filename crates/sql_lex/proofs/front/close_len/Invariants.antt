use Rattle.std.proofs.Common.{◌≡◌, false, drop}
use Rattle.sql_lex.specs.Front.{close_len}
use Rattle.sql_lex.proofs.Steps.{later}
use Rattle.sql_lex.proofs.front.close_len.Given as goal

abbrev pub invariant-loop-index : goal.invariant-loop-index
invariant-loop-index l = later l.index (close_len l.star (drop l.index l.bytes)) ≡ close_len false l.bytes
