use Rattle.std.proofs.Common.{ℕ, ◌≡◌, ◌+◌, ◌≤◌, length}
use Rattle.u_equal.specs.Joined.{reach, seen}
use Rattle.u_equal.specs.LinkCounts.{links_between, links_of_hops, links_of_parts}
use Rattle.u_equal.specs.Chains.{IsWay, Joins, steps, weight}
use Rattle.u_equal.proofs.forest.Forest.path.Given as goal

abbrev pub invariant-loop-part : goal.invariant-loop-part
invariant-loop-part l = record {
  way : (k : ℕ) × IsWay l.self.edges.items l.upto l.from l.hops.items k × Joins (seen l.self) l.upto l.parts.items k l.to;
  short : length l.hops.items + steps l.self.edges.items l.parts.items ≤ reach l.self.edges.items l.upto l.from;
  counted : links_of_hops (seen l.self) l.hops.items + links_of_parts (seen l.self) l.parts.items ≡ links_between (seen l.self) l.upto l.from l.to;
}

abbrev pub decreases-loop-part : goal.decreases-loop-part
decreases-loop-part l = weight l.self.edges.items l.parts.items
