use Rattle.std.proofs.Common.{◌≡◌, ◌+◌, ◌*◌, length, take}
use Rattle.u_terms.specs.Syntax.{U}
use Rattle.u_equal.specs.Links.{LeadsEach, HasCount, HasCountEach, Nests, NestsEach}
use Rattle.u_equal.specs.LinkCounts.{links_of_hops, links_of_values, sum_of_pairs}
use Rattle.u_equal.specs.Joined.{seen}
use Rattle.u_equal.specs.Chains.{HoldsEdges, LinksHops}
use Rattle.u_equal.proofs.forest.Forest.+links.Given as goal

abbrev pub decreases-link : goal.decreases-link
decreases-link l = 4 * l.hop.time + 3

abbrev pub decreases-call_links : goal.decreases-call_links
decreases-call_links l = 4 * l.upto + 2

abbrev pub decreases-pair_links : goal.decreases-pair_links
decreases-pair_links l = 4 * l.upto + 1

abbrev pub decreases-value_links : goal.decreases-value_links
decreases-value_links l = 4 * l.upto

abbrev pub invariant-pair_links-loop-i : goal.invariant-pair_links-loop-i
invariant-pair_links-loop-i l = record {
  long : length l.xs ≡ length l.ys;
  each : (product : U) → HoldsEdges (seen l.self) product → LeadsEach product (take l.i l.xs) l.pairs.items (take l.i l.ys);
  counted : HasCountEach l.pairs.items (sum_of_pairs (links_of_values (seen l.self) l.upto) (take l.i l.xs) (take l.i l.ys));
  nested : NestsEach l.upto l.pairs.items;
}

abbrev pub invariant-value_links-loop-hop : goal.invariant-value_links-loop-hop
invariant-value_links-loop-hop l = record {
  links : LinksHops (seen l.self) (take l.hop-index l.hop-items) l.links.items;
  counted : HasCount l.links.items (links_of_hops (seen l.self) (take l.hop-index l.hop-items));
  nested : Nests l.upto l.links.items;
}
