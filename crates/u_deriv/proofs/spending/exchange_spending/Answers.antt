use Rattle.u_deriv.proofs.spending.exchange_spending.Goals as goal

pub returns-in-AddAc : goal.returns-in-AddAc
returns-in-AddAc c = c.rearrange.ensures c.args.facts.now

pub returns-in-MulAc : goal.returns-in-MulAc
returns-in-MulAc c = c.rearrange-in-MulAc.ensures c.args.facts.now
