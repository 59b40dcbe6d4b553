use Rattle.std.proofs.Common.{refl, ap, ◌∙◌}
use Rattle.u_rules.specs.Terms.{terms}
use Rattle.call_rows.proofs.Taken.{mark-at, mark-is, route-found, taken-begins}
use Rattle.call_rows.proofs.behind.copy_links.Goals as goal

pub copy_mark_along-requires-clause-begins : goal.copy_mark_along-requires-clause-begins
copy_mark_along-requires-clause-begins c =
    let p = c.args.product.now in
    let from = route-found c.in_ok-classes.classes c.index-factors-place.result.now c.args.wanted.now c.in_ok-route.field-0 (c.in_ok-route.ensures {u = tt}) c.in-Some.route c.in-Some.is in
    taken-begins p.whole p.first c.requires.0 c.requires.1 c.get.result.now c.get.ensures c.in-Some.route.product (from.product_is ∙ c.in_ok-classes.ensures ∙ c.get-2.ensures) (terms c.as_slice-factors.result.now)
    (ap terms c.as_slice-factors.ensures ∙ c.in_ok-factors.ensures.are)

pub copy_mark_along-requires-clause-at : goal.copy_mark_along-requires-clause-at
copy_mark_along-requires-clause-at c =
    let from = route-found c.in_ok-classes.classes c.index-factors-place.result.now c.args.wanted.now c.in_ok-route.field-0 (c.in_ok-route.ensures {u = tt}) c.in-Some.route c.in-Some.is in
    mark-at c.as_slice-factors.result.now c.args.place (c.if-not-has_mark.ensures refl) c.index-factors-place.result c.index-factors-place.is c.in-Some.route.mark from.mark_is

pub copy_mark_along-requires-clause-is : goal.copy_mark_along-requires-clause-is
copy_mark_along-requires-clause-is c =
    let from = route-found c.in_ok-classes.classes c.index-factors-place.result.now c.args.wanted.now c.in_ok-route.field-0 (c.in_ok-route.ensures {u = tt}) c.in-Some.route c.in-Some.is in
    mark-is c.as_slice-factors.result.now c.args.place (c.if-not-has_mark.ensures refl) c.index-factors-place.result c.index-factors-place.is c.in-Some.route.mark from.mark_is
