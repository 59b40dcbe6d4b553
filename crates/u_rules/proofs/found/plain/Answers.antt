use Rattle.std.proofs.Common.{sym, ◌∙◌}
use Rattle.u_rules.proofs.arguments.TemplatesAt.{fitting, misfitting}
use Rattle.u_rules.proofs.found.plain.Goals as goal

pub returns-then-fit : goal.returns-then-fit
returns-then-fit c = fitting c.args.template.now c.args.args.now (sym c.fit.ensures ∙ c.if-fit.true)

pub returns-else-fit : goal.returns-else-fit
returns-else-fit c = misfitting c.args.template.now c.args.args.now (sym c.fit.ensures ∙ c.if-fit.false)
