use Rattle.std.proofs.Common.{◌≡◌, take}
use Rattle.u_equal.specs.Joined.{seen}
use Rattle.u_equal.specs.Links.{told}
use Rattle.u_equal.specs.LinkCounts.{links_of_hops}
use Rattle.u_equal.proofs.forest.Forest.count_links_by.Given as goal

abbrev pub invariant-loop-hop : goal.invariant-loop-hop
invariant-loop-hop l = l.total ≡ told (links_of_hops (seen l.self) (take l.hop-index l.hop-items))
