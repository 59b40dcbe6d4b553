use Rattle.std.proofs.Common.{◌≡◌, ◌+◌, [], length}
use Rattle.u_terms.specs.Syntax.{U}
use Rattle.proof_check.specs.Check.{IsNext, ReadsSoFar}
use Rattle.proof_check.specs.Checking.{Stands}
use Rattle.proof_check.proofs.whole.feed_all.Given as goal

-- the lines so far come to what the checker stands for
abbrev pub invariant-loop-line : goal.invariant-loop-line
invariant-loop-line l = record {
  facts : l.checker.facts ≡ l.fn.checker.facts;
  outs : l.checker.outs ≡ l.fn.checker.outs;
  next : IsNext l.checker.state (l.lines.number + 1);
  read : (left : U) → Stands l.fn.checker.facts l.fn.checker.outs left [] l.fn.checker.state
      → ReadsSoFar l.fn.checker.facts l.fn.checker.outs left l.fn.bytes l.checker.state l.lines;
}

abbrev pub decreases-loop-line : goal.decreases-loop-line
decreases-loop-line l = length l.lines.text
