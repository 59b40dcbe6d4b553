use Rattle.std.proofs.Common.{◌≡◌, length}
use Rattle.sql_grammar.specs.TokenValues.{without_trailing_zeros}
use Rattle.sql_cursor.proofs.values.without_trailing_zeros.Given as goal

abbrev pub invariant-zeros : goal.invariant-zeros
invariant-zeros l = without_trailing_zeros l.rest ≡ without_trailing_zeros l.digits

abbrev pub decreases-zeros : goal.decreases-zeros
decreases-zeros l = length l.rest
