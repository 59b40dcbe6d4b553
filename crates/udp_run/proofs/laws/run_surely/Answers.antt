use Rattle.std.proofs.Common.{rules}
use Rattle.udp_run.specs.declared.answer.Verdict.TheVariants.{Proved}
use Rattle.udp_run.proofs.Exact.{answered_surely}
use Rattle.udp_run.proofs.laws.run_surely.Goals as goal

pub returns-clause-complete : goal.returns-clause-complete
returns-clause-complete c asks = answered_surely Proved _ _ c.run.result (search rules) (search rules) (c.run.ensures.complete asks)

pub returns-clause-exact : goal.returns-clause-exact
returns-clause-exact c verdict asks = answered_surely verdict _ _ c.run.result (search rules) (search rules) (c.run.ensures.exact verdict asks)
