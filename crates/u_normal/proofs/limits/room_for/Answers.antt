use Rattle.std.proofs.Common.{arith}
use Rattle.u_normal.specs.Limits.{for_any, for_most}
use Rattle.u_normal.proofs.terms.Largeness.{spreads}
use Rattle.std.proofs.Common.{refl}
use Rattle.u_normal.proofs.limits.room_for.Goals as goal

pub returns-then-saturating_mul-le-UNLIMITED : goal.returns-then-saturating_mul-le-UNLIMITED
returns-then-saturating_mul-le-UNLIMITED c = for_any (omega arith)

pub returns-else-saturating_mul-le-UNLIMITED : goal.returns-else-saturating_mul-le-UNLIMITED
returns-else-saturating_mul-le-UNLIMITED c =
    for_most
    (spreads c.args.u.now c.ways.result c.nodes.result c.saturating_mul.result 18446744073709551615 c.ways.ensures c.nodes.ensures c.saturating_mul.ensures (omega arith) c.if-saturating_mul-le-UNLIMITED.false)
    refl
