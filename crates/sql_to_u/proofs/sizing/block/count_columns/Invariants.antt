use Rattle.std.proofs.Common.{◌≡◌, ◌+◌, drop}
use Rattle.sql_to_u.specs.Listed.{columns_listed}
use Rattle.sql_to_u.specs.Sizes.{capped}
use Rattle.sql_to_u.proofs.sizing.block.count_columns.Given as goal

abbrev pub invariant-loop-entry : goal.invariant-loop-entry
invariant-loop-entry l = (capped (l.count + columns_listed (drop l.entry-index l.entries)) ≡ capped (columns_listed l.entries)) × (capped l.count ≡ l.count)
