use Rattle.std.proofs.Common.{◌+◌, ◌*◌}
use Rattle.u_terms.specs.Size.{nodes}
use Rattle.u_prover.proofs.rearranging.+rearranged.Given as goal

abbrev pub decreases-rearranged : goal.decreases-rearranged
decreases-rearranged l = 2 * nodes l.left.now

abbrev pub decreases-under_sum : goal.decreases-under_sum
decreases-under_sum l = 2 * nodes l.f.now + 1

abbrev pub decreases-under_squash : goal.decreases-under_squash
decreases-under_squash l = 2 * nodes l.a.now + 1
