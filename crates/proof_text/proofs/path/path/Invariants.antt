use Rattle.std.proofs.Common.{◌≡◌, ◌-◌}
use Rattle.proof_text.specs.Reading.{path_at, runs_at}
use Rattle.proof_text.specs.Paths.{kind_of_last}
use Rattle.proof_text.proofs.reading.Loops.{behind}
use Rattle.proof_text.proofs.path.path.Given as goal

-- the runs that were read, and then those that are left, are the path
abbrev pub invariant-loop : goal.invariant-loop
invariant-loop l = record {
  same : behind l.path (runs_at (l.end - l.counter) l.last l.cursor) ≡ path_at l.fn.cursor;
  last : kind_of_last l.path ≡ l.last;
}
