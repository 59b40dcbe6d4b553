use Rattle.scope_core.proofs.basics.RelationSets.{grows-high, grows-low, own-high, own-low, with-high, with-low}
use Rattle.scope_core.proofs.relation_set.RelationSet.with.Goals as goal

pub returns-then-number-lt128-clause-grows : goal.returns-then-number-lt128-clause-grows
returns-then-number-lt128-clause-grows c = grows-low c.args.self _

pub returns-then-number-lt128-clause-own : goal.returns-then-number-lt128-clause-own
returns-then-number-lt128-clause-own c = own-low c.args.self c.args.number c.if-number-lt128.true

pub returns-else-number-lt128-clause-grows : goal.returns-else-number-lt128-clause-grows
returns-else-number-lt128-clause-grows c = grows-high c.args.self _

pub returns-else-number-lt128-clause-own : goal.returns-else-number-lt128-clause-own
returns-else-number-lt128-clause-own c = own-high c.args.self c.args.number c.if-number-lt128.false

pub returns-then-number-lt128-clause-exact : goal.returns-then-number-lt128-clause-exact
returns-then-number-lt128-clause-exact c = with-low c.args.self c.args.number c.if-number-lt128.true

pub returns-else-number-lt128-clause-exact : goal.returns-else-number-lt128-clause-exact
returns-else-number-lt128-clause-exact c = with-high c.args.self c.args.number c.if-number-lt128.false
