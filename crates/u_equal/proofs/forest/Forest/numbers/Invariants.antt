use Rattle.u_equal.specs.Joined.{seen}
use Rattle.u_equal.specs.LinkCounts.{AreNumbers}
use Rattle.u_equal.proofs.forest.Forest.numbers.Given as goal

abbrev pub invariant-loop-time : goal.invariant-loop-time
invariant-loop-time l = AreNumbers (seen l.self) l.«_time» l.numbers.items
