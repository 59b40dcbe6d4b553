use Rattle.std.proofs.lemmas.Result.{IfOk-weaker}
use Rattle.u_rules.specs.Terms.{terms}
use Rattle.u_entail.proofs.products.Behind.{part-behind, made-behind, at-terms}
use Rattle.u_entail.proofs.spine.then_behind.Goals as goal

pub then_under-requires-clause-part : goal.then_under-requires-clause-part
then_under-requires-clause-part c =
    part-behind (terms c.args.front.now) c.behind-path.result (at-terms c.args.front.now c.behind-path.result c.behind-path.ensures) c.args.first.to c.args.part.from c.args.first.outs c.args.part.outs
    c.requires.stands c.requires.outs c.requires.closed

pub returns : goal.returns
returns c =
    IfOk-weaker c.then_under.result _ _
    (λ d made. made-behind (terms c.args.front.now) c.behind-path.result (at-terms c.args.front.now c.behind-path.result c.behind-path.ensures) c.args.first c.args.part d c.requires.stands made)
    c.then_under.ensures
