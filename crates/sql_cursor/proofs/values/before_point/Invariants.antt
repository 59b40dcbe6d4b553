use Rattle.std.proofs.Common.{◌≡◌, ◌++◌, take, drop}
use Rattle.sql_grammar.specs.TokenValues.{before_point}
use Rattle.sql_cursor.proofs.values.before_point.Given as goal

abbrev pub invariant-loop-at : goal.invariant-loop-at
invariant-loop-at l = take l.at l.text ++ before_point (drop l.at l.text) ≡ before_point l.text
