use Rattle.std.proofs.Common.{◌≡◌, ◌++◌, drop}
use Rattle.sql_to_u.specs.TermLists.{firsts_listed}
use Rattle.sql_to_u.proofs.naming.firsts.Given as goal

abbrev pub invariant-loop-entry : goal.invariant-loop-entry
invariant-loop-entry l = l.names.items ++ firsts_listed (drop l.entry-index l.entries) l.name ≡ firsts_listed l.entries l.fn.first
