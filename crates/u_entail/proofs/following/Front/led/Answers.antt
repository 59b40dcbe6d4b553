use Rattle.u_rules.specs.Terms.{terms}
use Rattle.u_entail.proofs.chains.Gained.{start-stands, last-led}
use Rattle.u_entail.proofs.following.Front.led.Goals as goal

pub follow-requires-clause-stands : goal.follow-requires-clause-stands
follow-requires-clause-stands c =
    let m = c.args.self.now.moves in
    start-stands m.facts.now m.outs (terms c.args.self.now.factors.now) c.args.last c.args.begun c.requires.begun c.requires.known

pub returns : goal.returns
returns c =
    let m = c.args.self.now.moves in
    last-led m.facts.now m.outs (terms c.args.self.now.factors.now) c.args.last c.args.begun c.args.hops.now c.in_ok-end.end c.in_ok-end.ensures.stands c.in_ok-end.ensures.followed
