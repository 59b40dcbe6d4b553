use Rattle.std.proofs.Common.{length}
use Rattle.u_rules.specs.Terms.{terms}
use Rattle.u_equal.specs.Standing.{standing}
use Rattle.u_entail.proofs.chains.Along.{appends-by, chain-by}
use Rattle.u_entail.proofs.entailed.append_by.Goals as goal

pub appended-requires-clause-leads : goal.appended-requires-clause-leads
appended-requires-clause-leads c = (length (standing c.args.classes.now), c.args.b.now, chain-by c.args.classes.now (terms c.args.factors.now) c.requires.begins c.args.a.now c.args.b.now c.args.links.now c.requires.chain)

pub returns : goal.returns
returns c =
    appends-by c.args.moves.facts.now c.args.moves.outs c.args.classes.now (terms c.args.factors.now) c.requires.begins c.args.a.now c.args.b.now c.requires.a c.args.links.now c.requires.chain c.in_ok-deriv.deriv
    (c.in_ok-deriv.ensures {u = tt})
