use Rattle.std.proofs.Common.{sym, ◌∙◌}
use Rattle.scope_core.proofs.basics.Occurring.{entry-has, entry-lacks, entry-once}
use Rattle.scope_core.proofs.level.find_in_entry.Goals as goal

pub returns-in-Some-clause-lacks : goal.returns-in-Some-clause-lacks
returns-in-Some-clause-lacks c = entry-has c.args.name.now c.args.heading.now.columns c.in-Some.seen (sym c.find.ensures ∙ c.in-Some.is)

pub returns-in-None-clause-twice : goal.returns-in-None-clause-twice
returns-in-None-clause-twice c = entry-once c.args.name.now c.args.heading.now.columns (sym c.find.ensures ∙ c.in-None.is)

pub returns-in-None-clause-lacks : goal.returns-in-None-clause-lacks
returns-in-None-clause-lacks c = entry-lacks c.args.name.now c.args.heading.now.columns (sym c.find.ensures ∙ c.in-None.is)
