use Rattle.std.proofs.Common.{◌≡◌}
use Rattle.std.specs.Prelude.{Some, slice_get}
use Rattle.u_rules.specs.Terms.{◌≐◌, terms}
use Rattle.u_entail.proofs.chains.Exchanged.{equality-at, exchanged-back, exchanged-forth}
use Rattle.u_entail.proofs.following.Front.exchanged.Goals as goal

pub returns-then-turned : goal.returns-then-turned
returns-then-turned c =
    let m = c.args.self.now.moves in
    let factors = terms c.args.self.now.factors.now in
    let at : slice_get factors c.args.factor ≡ Some (c.in-Eq.a ≐ c.in-Eq.b) = equality-at c.args.self.now.factors.now c.args.factor c.args.turned c.requires.side c.index-self-factor.result c.in-Eq.a c.in-Eq.b c.in-Eq.is in
    let back = c.back.ensures in
    exchanged-back m.facts.now m.outs factors c.args.factor c.in-Eq.a c.in-Eq.b at c.args.body.now c.in_ok-part-in-Eq.part (c.in_ok-part-in-Eq.ensures {u = tt}) c.args.turned c.if-turned.true
    c.back.result back.facts back.outs back.from back.to back.steps back.nodes back.depth

pub returns-else-turned : goal.returns-else-turned
returns-else-turned c =
    let m = c.args.self.now.moves in
    let factors = terms c.args.self.now.factors.now in
    let at : slice_get factors c.args.factor ≡ Some (c.in-Eq.a ≐ c.in-Eq.b) = equality-at c.args.self.now.factors.now c.args.factor c.args.turned c.requires.side c.index-self-factor.result c.in-Eq.a c.in-Eq.b c.in-Eq.is in
    exchanged-forth m.facts.now m.outs factors c.args.factor c.in-Eq.a c.in-Eq.b at c.args.body.now c.in_ok-part-in-Eq.part (c.in_ok-part-in-Eq.ensures {u = tt}) c.args.turned c.if-turned.false
