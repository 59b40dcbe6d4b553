use Rattle.scope_core.proofs.basics.RelationSets.{has-high, has-low}
use Rattle.scope_core.proofs.relation_set.RelationSet.has.Goals as goal

pub returns-then-number-lt128 : goal.returns-then-number-lt128
returns-then-number-lt128 c = has-low c.args.self.now c.args.number c.if-number-lt128.true

pub returns-else-number-lt128 : goal.returns-else-number-lt128
returns-else-number-lt128 c = has-high c.args.self.now c.args.number c.if-number-lt128.false
