use Rattle.std.proofs.Common.{ap, ◌∙◌}
use Rattle.u_rules.specs.Terms.{terms}
use Rattle.call_rows.proofs.Taken.{taken-begins}
use Rattle.call_rows.proofs.behind.append_steps.Goals as goal

pub append-requires-clause-begins : goal.append-requires-clause-begins
append-requires-clause-begins c =
    let p = c.args.product.now in
    taken-begins p.whole p.first c.requires.0 c.requires.1 c.get.result.now c.get.ensures c.in_ok-classes.classes (c.in_ok-classes.ensures ∙ c.get-2.ensures) (terms c.as_slice.result.now)
    (ap terms c.as_slice.ensures ∙ c.in_ok-factors.ensures.are)
