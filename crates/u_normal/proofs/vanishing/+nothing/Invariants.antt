use Rattle.std.proofs.Common.{◌+◌, ◌*◌}
use Rattle.u_terms.specs.Size.{nodes}
use Rattle.u_normal.proofs.vanishing.+nothing.Given as goal

abbrev pub decreases-nothing : goal.decreases-nothing
decreases-nothing l = 3 * nodes l.u.now

abbrev pub decreases-nothing_added : goal.decreases-nothing_added
decreases-nothing_added l = 3 * (nodes l.a.now + nodes l.b.now) + 1

abbrev pub decreases-nothing_multiplied : goal.decreases-nothing_multiplied
decreases-nothing_multiplied l = 3 * (nodes l.a.now + nodes l.b.now) + 2

abbrev pub decreases-nothing_first : goal.decreases-nothing_first
decreases-nothing_first l = 3 * nodes l.a.now + 1

abbrev pub decreases-nothing_second : goal.decreases-nothing_second
decreases-nothing_second l = 3 * nodes l.b.now + 1

abbrev pub decreases-nothing_summed : goal.decreases-nothing_summed
decreases-nothing_summed l = 3 * nodes l.f.now + 2

abbrev pub decreases-nothing_opened : goal.decreases-nothing_opened
decreases-nothing_opened l = 3 * nodes l.f.now + 1
