use Rattle.scope_core.proofs.basics.RelationSets.{joined-first, joined-second}
use Rattle.scope_core.proofs.relation_set.RelationSet.union.Goals as goal

pub returns-clause-own : goal.returns-clause-own
returns-clause-own c = joined-first c.args.self c.args.other

pub returns-clause-others : goal.returns-clause-others
returns-clause-others c = joined-second c.args.self c.args.other
