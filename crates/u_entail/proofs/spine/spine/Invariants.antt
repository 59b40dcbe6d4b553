use Rattle.std.proofs.Common.{◌≡◌, vec_len}
use Rattle.u_rules.specs.Terms.{terms}
use Rattle.u_entail.specs.Spines.{spine}
use Rattle.u_entail.proofs.spine.spine.Given as goal

abbrev pub invariant-loop-factor : goal.invariant-loop-factor
invariant-loop-factor l = spine (terms l.left.items) l.whole ≡ spine (terms l.fn.factors) l.fn.last

abbrev pub decreases-loop-factor : goal.decreases-loop-factor
decreases-loop-factor l = vec_len l.left
