use Rattle.std.proofs.Common.{ap, ◌∙◌}
use Rattle.u_rules.specs.Terms.{terms}
use Rattle.u_entail.proofs.copies.Carried.{point-from}
use Rattle.call_rows.proofs.Taken.{taken-begins}
use Rattle.call_rows.proofs.behind.append_links.Goals as goal

pub append_along-requires-clause-begins : goal.append_along-requires-clause-begins
append_along-requires-clause-begins c =
    let p = c.args.product.now in
    let from = point-from c.in_ok-classes.classes c.args.left.now c.args.right.now c.in_ok-route.field-0 (c.in_ok-route.ensures {u = tt}) c.in-Some.route c.in-Some.is in
    taken-begins p.whole p.first c.requires.0 c.requires.1 c.get.result.now c.get.ensures c.in-Some.route.product (from.product_is ∙ c.in_ok-classes.ensures ∙ c.get-2.ensures) (terms c.as_slice.result.now)
    (ap terms c.as_slice.ensures ∙ c.in_ok-factors.ensures.are)
