use Rattle.std.proofs.Common.{◌≡◌, ◌≤◌, length}
use Rattle.proof_text.specs.Reading.{longest_at}
use Rattle.proof_text.proofs.number.longest.Given as goal

-- the number so far goes on as the first one does
abbrev pub invariant-loop-more : goal.invariant-loop-more
invariant-loop-more l = record { same : longest_at l.value l.cursor ≡ longest_at l.fn.first l.fn.cursor; above : l.fn.first ≤ l.value }

abbrev pub decreases-loop-more : goal.decreases-loop-more
decreases-loop-more l = length l.cursor.text
