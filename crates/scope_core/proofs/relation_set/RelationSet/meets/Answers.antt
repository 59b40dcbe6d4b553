use Rattle.scope_core.proofs.basics.RelationSets.{meets-high, meets-low}
use Rattle.scope_core.proofs.relation_set.RelationSet.meets.Goals as goal

pub returns-then-self-other-ne0 : goal.returns-then-self-other-ne0
returns-then-self-other-ne0 c = meets-low c.args.self.now c.args.other.now c.if-self-other-ne0.true

pub returns-else-self-other-ne0 : goal.returns-else-self-other-ne0
returns-else-self-other-ne0 c = meets-high c.args.self.now c.args.other.now c.if-self-other-ne0.false
