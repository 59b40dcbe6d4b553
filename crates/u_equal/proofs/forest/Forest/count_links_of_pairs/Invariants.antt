use Rattle.std.proofs.Common.{◌≡◌, length, take}
use Rattle.u_equal.specs.Joined.{seen}
use Rattle.u_equal.specs.Links.{told}
use Rattle.u_equal.specs.LinkCounts.{links_of_values, sum_of_pairs}
use Rattle.u_equal.proofs.forest.Forest.count_links_of_pairs.Given as goal

abbrev pub invariant-loop-i : goal.invariant-loop-i
invariant-loop-i l = record {
  long : length l.xs ≡ length l.ys;
  counted : l.total ≡ told (sum_of_pairs (links_of_values (seen l.self) (length l.numbers)) (take l.i l.xs) (take l.i l.ys));
}
