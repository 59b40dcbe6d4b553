use Rattle.std.proofs.Common.{None}
use Rattle.u_normal.proofs.products.Takings.{found-some, found-none}
use Rattle.u_normal.proofs.products.Finishes.{none-kinds}
use Rattle.u_normal.proofs.heads.headed.Goals as goal

pub over_taken-requires-clause-taken : goal.over_taken-requires-clause-taken
over_taken-requires-clause-taken c = found-some None c.args.u.now c.in_ok-sum.field-0 c.in-Some.sum c.in-Some.is (c.in_ok-sum.ensures {u = tt})

pub tidied-requires-clause-kinds : goal.tidied-requires-clause-kinds
tidied-requires-clause-kinds c = none-kinds c.args.u.now (found-none None c.args.u.now c.in_ok-sum.field-0 c.in-None.is (c.in_ok-sum.ensures {u = tt}))
