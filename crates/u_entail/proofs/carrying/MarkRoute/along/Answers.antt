use Rattle.std.proofs.Common.{◌≡◌, List, ap, ◌∙◌, subst}
use Rattle.u_equal.specs.Links.{told}
use Rattle.u_equal.specs.Routes.{Course}
use Rattle.u_entail.specs.Carrying.{AreShortCourses, links_of}
use Rattle.u_entail.proofs.copies.Carried.{either-along, either-entailed, route-from, route-short}
use Rattle.u_entail.proofs.carrying.MarkRoute.along.Goals as goal

pub routes_of-requires : goal.routes_of-requires
routes_of-requires c = either-entailed c.args.classes.now c.args.mark.now c.args.wanted.now c.args.exchanged c.args.pairs.now c.requires

pub invariant_of-result : goal.invariant_of-result
invariant_of-result c =
    let product = c.args.classes.now in
    let courses = c.in_ok-points.points.items in
    let leads = either-along product c.args.mark.now c.args.wanted.now c.args.exchanged c.args.pairs.now courses (c.in_ok-points.ensures {u = tt}) c.requires in
    let sum = c.sum_of_links-links.ensures in
    let is : c.sum_of_links-links.result ≡ told (links_of courses) = sum.is ∙ ap (λ (cs : List Course). told (links_of cs)) c.as_slice.ensures.value in
    let short = subst (λ (cs : List Course). AreShortCourses cs) c.as_slice.ensures.value sum.few in
    record {
      leads = leads;
      is = is;
      few = route-short product c.args.mark.now c.args.wanted.now c.args.exchanged courses c.sum_of_links-links.result leads is short;
    }

pub returns : goal.returns
returns c =
    let product = c.args.classes.now in
    let courses = c.in_ok-points.points.items in
    let leads = either-along product c.args.mark.now c.args.wanted.now c.args.exchanged c.args.pairs.now courses (c.in_ok-points.ensures {u = tt}) c.requires in
    let is : c.sum_of_links-links.result ≡ told (links_of courses) = c.sum_of_links-links.ensures.is ∙ ap (λ (cs : List Course). told (links_of cs)) c.as_slice.ensures.value in
    route-from product c.args.mark.now c.args.wanted.now c.args.exchanged courses c.sum_of_links-links.result leads is
