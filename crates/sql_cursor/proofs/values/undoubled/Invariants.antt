use Rattle.std.proofs.Common.{◌≡◌, ◌++◌, length}
use Rattle.sql_grammar.specs.TokenValues.{undoubled}
use Rattle.sql_cursor.proofs.values.undoubled.Given as goal

abbrev pub invariant-bytes : goal.invariant-bytes
invariant-bytes l = l.found ++ undoubled l.mark l.rest ≡ undoubled l.mark l.text

abbrev pub decreases-bytes : goal.decreases-bytes
decreases-bytes l = length l.rest
