use Rattle.u_rules.proofs.found.find.Goals as goal

pub returns-in-SumSwap : goal.returns-in-SumSwap
returns-in-SumSwap c = rw c.in-SumSwap.ensures (c.sum_swap.ensures c.args.facts.now)
