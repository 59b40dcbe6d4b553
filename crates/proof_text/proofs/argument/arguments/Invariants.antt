use Rattle.std.proofs.Common.{◌≡◌, ◌≤◌, length, take, drop}
use Rattle.proof_text.specs.Reading.{arguments_at}
use Rattle.proof_text.proofs.reading.Loops.{behind}
use Rattle.proof_text.proofs.argument.arguments.Given as goal

-- the arguments that were read, and then those that are left, are all
abbrev pub invariant-loop-at : goal.invariant-loop-at
invariant-loop-at l = record {
  within : l.at ≤ length l.kept;
  same : behind (take l.at l.kept) (arguments_at (drop l.at l.kinds) l.cursor) ≡ arguments_at l.fn.kinds l.fn.cursor;
}
