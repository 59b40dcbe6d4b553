use Rattle.std.proofs.Common.{◌≡◌, ◌-◌, drop}
use Rattle.bag_search.specs.Merges.{merges_of}
use Rattle.bag_search.proofs.points.merges_of.Given as goal

abbrev pub invariant-loop-i : goal.invariant-loop-i
invariant-loop-i l = l.made.items ≡ merges_of (drop (l.count - l.i) l.equalities)
