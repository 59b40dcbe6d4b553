use Rattle.std.proofs.Common.{◌≡◌, false, drop}
use Rattle.sql_lex.specs.Front.{end_len}
use Rattle.sql_lex.proofs.Steps.{later}
use Rattle.sql_lex.proofs.front.end_len.Given as goal

abbrev pub invariant-loop-index : goal.invariant-loop-index
invariant-loop-index l = later l.index (end_len l.mark l.marked (drop l.index l.bytes)) ≡ end_len l.mark false l.bytes
