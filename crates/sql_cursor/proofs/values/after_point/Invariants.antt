use Rattle.std.proofs.Common.{◌≡◌, length}
use Rattle.sql_grammar.specs.TokenValues.{after_point}
use Rattle.sql_cursor.proofs.values.after_point.Given as goal

abbrev pub invariant-bytes : goal.invariant-bytes
invariant-bytes l = after_point l.rest ≡ after_point l.text

abbrev pub decreases-bytes : goal.decreases-bytes
decreases-bytes l = length l.rest
