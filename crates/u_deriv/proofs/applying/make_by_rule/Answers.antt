use Rattle.std.proofs.Common.{refl}
use Rattle.u_deriv.proofs.steps.Applied.{made-by_rule}
use Rattle.u_deriv.proofs.applying.make_by_rule.Goals as goal

pub returns : goal.returns
returns c = made-by_rule c.args.facts.now c.args.outs c.args.u.now c.args.step.now c.exchange.new.u c.exchange.result c.requires.plain (c.is_empty.ensures.0 (rw c.if-not-is_empty.false refl)) c.exchange.ensures
